-- `parts::new_offsets` meets its contract. Before turn t the first t offsets are there. Assumes nothing.
use mathlib.Core.Path.{ap}
use Prim.Native.Nat.{◌*◌}
use native.Mathlib.Omega.{arith}
use lib.ListN.{length-set}
use Rattle.base.proofs.Tables.{entry_more}
use Rattle.layout.specs.Sources.{source_slot}
use Rattle.layout.proofs.Bounds.{stripes_le}
use Rattle.counts.proofs.Sizes.{product_fits}
use Rattle.parts.proofs.new_offsets.Goals as goal

pub overflow_mul-at : goal.overflow_mul-at
overflow_mul-at c = product_fits _ _ (omega (arith, stripes_le _ c.args.z.in_ranges)) (omega arith)

pub loop-t-preserved : goal.loop-t-preserved
loop-t-preserved c =
    let z = c.args.z.shape in
    let loop = c.loop-t in (
      simp length-set (omega arith),
      entry_more (λ u. source_slot z c.args.w u * z.b) loop.t loop.at loop.invariant.1 (omega arith)
          (ap (λ x. x * z.b) c.source_slot.ensures.0),
    )
