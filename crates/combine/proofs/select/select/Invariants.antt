-- `combine::select::select` meets its contract. Before turn c the columns below c are selected. Assumes nothing.
use mathlib.Core.Path.{◌≡◌}
use lib.ListN.{length}
use Rattle.combine.specs.Planes.{Selected}
use Rattle.combine.proofs.select.select.Given as goal

abbrev pub invariant-loop-c : goal.invariant-loop-c
invariant-loop-c l = (length l.sel ≡ 20) × Selected l.q l.at l.sel l.m l.c l.s
