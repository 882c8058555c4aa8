-- `close::clear_dissolved` meets its contract. Before turn v the first v nodes are cleared. Assumes nothing.
use mathlib.Core.Path.{refl, ap, ◌∙◌}
use native.Mathlib.Omega.{arith}
use lib.ListN.{length}
use Rattle.base.proofs.Runs.{run_start, run_turn, run_end}
use Rattle.area.proofs.Blocks.{length_put}
use Rattle.counts.proofs.Sizes.{product_fits, byte_fits}
use Rattle.growth.specs.Close.{cleared_area}
use Rattle.close.proofs.Cleared.{first_there, stretch_fits, stretch_cleared}
use Rattle.close.proofs.clear_dissolved.Goals as goal

pub overflow_mul-bytes : goal.overflow_mul-bytes
overflow_mul-bytes c = product_fits _ _ (omega arith) (omega arith)

pub loop-v-init : goal.loop-v-init
loop-v-init c = (run_start _ _, refl)

pub slot_address-requires-clause-g_bound : goal.slot_address-requires-clause-g_bound
slot_address-requires-clause-g_bound c =
    first_there _ _ _ c.kept_count-kept.ensures.0 c.dissolved_count.ensures.0 c.loop-v.v c.args.z.in_ranges (omega arith)

pub overflow_mul-slot_address : goal.overflow_mul-slot_address
overflow_mul-slot_address c = byte_fits _ _ c.slot_address.ensures.1 c.args.z.in_ranges.few_bytes

pub zero-requires : goal.zero-requires
zero-requires c =
    let f = stretch_fits _ _ _ c.kept_count-kept.ensures.0 c.dissolved_count.ensures.0 _ _ _ c.slot_address.ensures.0 (omega arith)
    (omega arith) in
    omega arith

pub loop-v-preserved : goal.loop-v-preserved
loop-v-preserved c =
    let loop = c.loop-v in
    let zero = c.zero in (
      run_turn _ _ _ loop.invariant.0
          (zero.ensures ∙ stretch_cleared _ _ _ c.kept_count-kept.ensures.0 c.dissolved_count.ensures.0 _ _ _ c.slot_address.ensures.0 refl
          _),
      ap length zero.ensures ∙ length_put _ _ _ ∙ loop.invariant.1,
    )

pub shape_of-area : goal.shape_of-area
shape_of-area c = c.loop-v.invariant.1

pub returns : goal.returns
unfolding cleared_area
returns c = run_end _ _ _ c.loop-v.invariant.0 (omega arith) (omega arith)
