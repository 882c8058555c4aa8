-- `elimination::reduce` meets its contract. Before turn i the first i rows are reduced. Assumes nothing.
use mathlib.Core.Path.{◌≡◌}
use Rattle.base.specs.Folds.{run}
use Rattle.code.specs.Agreement.{is_lost}
use Rattle.elimination.specs.Matrix.{reduce_step}
use Rattle.elimination.proofs.reduce.Given as goal

abbrev pub invariant-loop-i : goal.invariant-loop-i
invariant-loop-i l = l.m ≡ run (reduce_step (is_lost l.losses) l.k) 0 l.i l.initial.m
