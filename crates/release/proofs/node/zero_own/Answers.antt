-- `release::node::zero_own` meets its contract. Before turn t the first t sources are zeroed. Assumes nothing.
use mathlib.Core.Path.{refl, ap, ◌∙◌}
use native.Mathlib.Omega.{arith}
use lib.ListN.{length}
use Rattle.base.proofs.Runs.{run_start, run_turn, run_end}
use Rattle.area.proofs.Blocks.{length_put}
use Rattle.release.specs.Own.{own_zeroed}
use Rattle.release.proofs.OwnSlots.{source_zeroed}
use Rattle.release.proofs.node.zero_own.Goals as goal

pub loop-t-init : goal.loop-t-init
loop-t-init c = (run_start _ _, refl)

pub loop-t-preserved : goal.loop-t-preserved
loop-t-preserved c =
    let kept = c.loop-t.invariant in (
      run_turn _ _ _ kept.0 (c.zero.ensures ∙ source_zeroed _ _ _ _ _ c.source_slot.ensures.0),
      ap length c.zero.ensures ∙ length_put _ _ _ ∙ kept.1,
    )

pub returns : goal.returns
unfolding own_zeroed
returns c = run_end _ _ _ c.loop-t.invariant.0 (omega arith) (omega arith)
