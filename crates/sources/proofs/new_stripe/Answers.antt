-- `sources::new_stripe` meets its contract. Assumes nothing.
use native.Mathlib.Omega.{arith}
use borrow.Author.Tests.{lt-ltb, le-ltb}
use Rattle.layout.specs.Counts.{kept}
use Rattle.layout.specs.Sources.{target_stripe}
use Rattle.layout.specs.Columns.{new_stripe}
use Rattle.layout.proofs.Bounds.{stripes_le}
use Rattle.sources.proofs.SourceCode.{target_lt}
use Rattle.sources.proofs.new_stripe.Goals as goal

pub data_node-requires-clause-g_bound : goal.data_node-requires-clause-g_bound
data_node-requires-clause-g_bound c = omega (arith, stripes_le _ c.args.z.in_ranges)

pub returns-then-g-kept_count : goal.returns-then-g-kept_count
unfolding new_stripe target_stripe
returns-then-g-kept_count c = (rw (lt-ltb c.args.g (kept c.args.z.shape) (omega arith)), omega arith)

pub returns-else-g-kept_count : goal.returns-else-g-kept_count
unfolding new_stripe target_stripe
returns-else-g-kept_count c =
    let block_rank_law = c.block_rank in
    let args = c.args in
    let pre = c.requires in
    rw (block_rank_law.ensures.0, c.data_node.ensures.0) (
      rw (le-ltb args.g (kept args.z.shape) (omega arith)),
      target_lt _ args.z.in_ranges args.g args.d (omega arith) pre.g_bound pre.d_lt_k,
    )
