-- `elimination::pivot` meets its contract: before turn j the rows before j are done. Assumes nothing.
use mathlib.Core.Path.{◌≡◌}
use lib.ListN.{length}
use Rattle.elimination.specs.Matrix.{PivotedTo}
use Rattle.elimination.proofs.pivot.Given as goal

abbrev pub invariant-loop-j : goal.invariant-loop-j
invariant-loop-j l = PivotedTo l.w l.i l.q l.j l.m × (length l.m ≡ 80)
