-- `combine::dense::dense` meets its contract. Before each turn the planes from m up are added. Assumes nothing.
use mathlib.Core.Path.{◌≡◌}
use lib.ListN.{length}
use Rattle.base.specs.Folds.{table}
use Rattle.combine.specs.Planes.{high_byte}
use Rattle.combine.proofs.dense.dense.Given as goal

abbrev pub invariant-loop-m : goal.invariant-loop-m
invariant-loop-m l = (length l.out ≡ length l.initial.out)
    × (l.out ≡ table (length l.initial.out) (high_byte l.q l.at l.src l.n l.m))
