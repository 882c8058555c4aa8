-- `sources::source_slot` meets its contract. Assumes nothing.
use mathlib.Core.Path.{refl}
use Rattle.sources.proofs.SourceCode.{source_code, source_lt}
use Rattle.sources.proofs.source_slot.Goals as goal

pub returns : goal.returns
returns c =
    let pre = c.requires in
    let args = c.args in
    let kept-count = c.kept_count in
    let source-node = c.source_node in
    let source-rank = c.source_rank-rank in
    let nth-offset = c.nth_offset-offset in
    rw (source_code _ c.args.z.in_ranges args.w args.t _ _ _ _ pre.w_bound pre.t_lt_s kept-count.ensures.0 source-node.ensures.0
    source-rank.ensures.0 nth-offset.ensures.0) (refl, source_lt _ c.args.z.in_ranges args.w args.t pre.w_bound pre.t_lt_s)
