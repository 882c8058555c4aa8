-- What deliver reads at its node of the header and of the receivers' word. Assumes nothing.
use mathlib.Core.Path.{◌≡◌, ap}
use mathlib.Core.Bool.{true, false, not}
use mathlib.Core.List.{List}
use Prim.Native.Nat.{ℕ}
use lib.ListN.{length}
use Rattle.base.proofs.Refusals.{or_else_zero}
use Rattle.base.proofs.Tests.{and_same}
use Rattle.answer.specs.Answers.{answer_for, on_done, unless_refused}
use Rattle.answer.proofs.Answers.{answered_same}
use Rattle.layout.specs.declared.Shape.{Shape}
use Rattle.layout.specs.Ranges.{InRanges}
use Rattle.wire.specs.declared.Header.{Header}
use Rattle.wire.specs.Words.{bit}
use Rattle.wire.specs.Headers.{header_at, header_bytes, stripe_of, transfer_of, receipt_of}
use Rattle.wire.specs.Forms.{is_message, for_another_node}
use Rattle.records.specs.declared.StripeRecord.{StripeRecord}
use Rattle.records.specs.Records as Records
use Rattle.journal.specs.declared.headers.JournalHeader.{JournalHeader}
use Rattle.growth.specs.Deliver.{room_for, counted_up}
use Rattle.lent.specs.SameGrowth.{SameGrowth}
use Rattle.deliver.specs.Arrival.{message_refusal}
use Rattle.deliver.specs.Own.{receiver_refusal, own_refusal, own_delivered, accept_at_node, deliver_at_node}
use Rattle.deliver.proofs.InParts.{arrived_allowed}

module _ (z : Shape) (ok : InRanges z) (h i : JournalHeader) (g : SameGrowth z h i) (x y node : ℕ) (m : Header)
    (room : is_message z m ≡ true → room_for z h x (transfer_of m) ≡ room_for z i y (transfer_of m))
    (same : is_message z m ≡ true → for_another_node z node m ≡ false → bit x (transfer_of m) ≡ bit y (transfer_of m))
    (ownBytes messageBytes spaceBytes : ℕ) where
  same_refusal : own_refusal z ownBytes messageBytes spaceBytes h x node m ≡ own_refusal z ownBytes messageBytes spaceBytes i y node m
  unfolding own_refusal message_refusal
  same_refusal =
      let e = transfer_of m in
      let q = and_same (is_message z m) (not (room_for z h x e)) (not (room_for z i y e)) (λ t. ap not (room t)) in
      rw (g.ok, g.state, g.number, q)

  -- where nothing refuses, the message is well-formed and for this node
  same_bit : own_refusal z ownBytes messageBytes spaceBytes h x node m ≡ 0 → bit x (transfer_of m) ≡ bit y (transfer_of m)
  unfolding own_refusal
  same_bit none =
      let (p, q) = or_else_zero (receiver_refusal z node ownBytes) (message_refusal z messageBytes spaceBytes h x node m) none in
      let a = arrived_allowed z ok messageBytes spaceBytes h x node m q in
      same a.form a.for_node

  same_answer : answer_for (own_refusal z ownBytes messageBytes spaceBytes h x node m) (bit x (transfer_of m))
      ≡ answer_for (own_refusal z ownBytes messageBytes spaceBytes i y node m) (bit y (transfer_of m))
  same_answer = answered_same _ _ _ _ same_refusal same_bit

pub own_bits : (z : Shape) → InRanges z → (own : List ℕ) (h i : JournalHeader) (r q : StripeRecord) (node : ℕ) (message space : List ℕ)
    → let m = header_at message 0 in
    let e = transfer_of m in
    let a = deliver_at_node z own h r node message space in
    let b = deliver_at_node z own i q node message space in
    SameGrowth z h i → (is_message z m ≡ true → room_for z h r.accepted e ≡ room_for z i q.accepted e)
    → (is_message z m ≡ true → for_another_node z node m ≡ false → bit r.accepted e ≡ bit q.accepted e)
    → (a.answer ≡ b.answer) × (a.own ≡ b.own) × (a.receipt ≡ b.receipt)
    × (a.header ≡ on_done b.answer (counted_up h) h) × (a.stripe ≡ on_done b.answer (Records.accept r e) r)
unfolding deliver_at_node accept_at_node
own_bits z ok own h i r q node message space g room same =
    let m = header_at message 0 in
    let e = transfer_of m in
    let p = same_answer z ok h i g r.accepted q.accepted node m room same (length own) (length message) (length space) in (
      p,
      ap (λ a. on_done a (own_delivered z own (stripe_of m) e message) own) p,
      ap (λ a. unless_refused a (header_bytes (receipt_of m)) space) p,
      ap (λ a. on_done a (counted_up h) h) p,
      ap (λ a. on_done a (Records.accept r e) r) p,
    )
