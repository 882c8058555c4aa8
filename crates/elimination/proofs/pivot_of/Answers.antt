-- `elimination::pivot_of` meets its contract. Before turn p the pivot is the last unknown place of row i among the
-- first p. Assumes nothing.
use mathlib.Core.Path.{ap, ◌∙◌}
use native.Mathlib.Omega.{arith}
use Rattle.elimination.specs.Matrix.{from_one, pivot_of}
use Rattle.elimination.proofs.LastLaws.{last_none, last_more, last_skip, last_end}
use Rattle.elimination.proofs.pivot_of.Goals as goal
use Rattle.elimination.proofs.pivot_of.Goals.{then-has_unknown, else-has_unknown}

pub loop-p-init : goal.loop-p-init
loop-p-init c = last_none _

pub loop-p-preserved : goal.loop-p-preserved
loop-p-preserved c =
    elim c.if-has_unknown.branch [
      | then-has_unknown w ↦ ap from_one w.pivot-is ∙ last_more _ _ (cc)
      | else-has_unknown w ↦ ap from_one w.pivot-is ∙ last_skip _ _ (cc) c.loop-p.invariant
    ]

pub returns : goal.returns
unfolding pivot_of
returns c = last_end _ _ c.loop-p.invariant (omega arith) (omega arith)
