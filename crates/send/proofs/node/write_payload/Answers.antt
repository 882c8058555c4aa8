-- `send::node::write_payload` meets its contract. Assumes nothing.
use mathlib.Core.Path.{sym}
use native.Mathlib.Omega.{arith}
use Rattle.parts.proofs.Parts.{kept_fits}
use Rattle.parts.proofs.News.{news_inside}
use Rattle.send.proofs.ByKind.{no_delta, no_row, delta_kind, other_kind, new_node_lt}
use Rattle.send.proofs.Payloads.{wrote_delta, wrote_row0, wrote_new}
use Rattle.send.proofs.node.write_payload.Goals as goal

pub overflow_add-e : goal.overflow_add-e
overflow_add-e c =
    let delta = delta_kind c.args.z.shape c.args.w c.args.e (sym c.in-Delta.ensures.0) in
    omega arith

pub write_delta-requires-clause-inside : goal.write_delta-requires-clause-inside
write_delta-requires-clause-inside c =
    let long = c.requires.own_len in
    news_inside c.args.z.shape c.args.z.in_ranges c.args.w long.1 c.new_offsets.result c.new_offsets.ensures c.args.own.now long.0

pub write_delta-requires-clause-b_in_bounds : goal.write_delta-requires-clause-b_in_bounds
write_delta-requires-clause-b_in_bounds c =
    let long = c.requires.own_len in
    let delta = delta_kind c.args.z.shape c.args.w c.args.e (sym c.in-Delta.ensures.0) in
    (omega arith, omega arith, omega arith, omega arith)

pub overflow_mul-w : goal.overflow_mul-w
overflow_mul-w c =
    let long = c.requires.own_len in
    let fits = kept_fits c.args.z.shape c.args.w _ long.1 long.0 in
    omega arith

pub copy-requires : goal.copy-requires
copy-requires c =
    let long = c.requires.own_len in
    let fits = kept_fits c.args.z.shape c.args.w _ long.1 long.0 in
    (omega arith, omega arith)

pub overflow_sub-e : goal.overflow_sub-e
overflow_sub-e c = other_kind c.args.z.shape c.args.w c.args.e (no_delta _ c.kind_of.ensures.0 c.in_default.not-Delta)

pub source_slot-requires-clause-t_lt_s : goal.source_slot-requires-clause-t_lt_s
source_slot-requires-clause-t_lt_s c =
    new_node_lt c.args.z.shape c.args.w c.args.e c.args.z.in_ranges c.requires.own_len.2

pub returns-in-Delta : goal.returns-in-Delta
returns-in-Delta c =
    let long = c.requires.own_len in
    wrote_delta _ _ _ _ _ c.in-Delta.ensures.0 c.args.z.in_ranges long.1 _ c.new_offsets.ensures long.0 c.write_delta.ensures

pub returns-in-ParityRow : goal.returns-in-ParityRow
returns-in-ParityRow c = wrote_row0 _ _ _ _ _ c.in-ParityRow.ensures.0 c.copy.ensures

pub returns-in_default : goal.returns-in_default
returns-in_default c =
    wrote_new c.args.z.shape c.args.w c.args.e _ _ (no_delta _ c.kind_of.ensures.0 c.in_default.not-Delta)
    (no_row _ c.kind_of.ensures.0 c.in_default.not-ParityRow) c.source_slot.ensures.0 c.copy-in_default.ensures
