-- Deliver over the whole area and journal is the receiver's own, put back; the receiver reads the growth's number and state, whether the
-- header passes its test, whether there is room, and its own bit. Assumes nothing.
use Rattle.std.specs.Prelude.{◌≡◌, true, false, List, ℕ, ◌+◌, ◌<◌, length}
use Rattle.answer.specs.Answers.{on_done}
use Rattle.layout.specs.declared.Shape.{Shape}
use Rattle.layout.specs.Addresses.{area_length}
use Rattle.wire.specs.Words.{bit}
use Rattle.wire.specs.Headers.{header_at, stripe_of, transfer_of}
use Rattle.wire.specs.Forms.{is_message, for_another_node}
use Rattle.records.specs.declared.StripeRecord.{StripeRecord}
use Rattle.records.specs.Records as Records
use Rattle.journal.specs.declared.headers.JournalHeader.{JournalHeader}
use Rattle.journal.specs.Journal.{header_of, put_header, journal_length, record_at, put_record}
use Rattle.growth.specs.Deliver.{room_for, counted_up, DeliverOutcome, deliver}
use Rattle.lent.specs.SameGrowth.{SameGrowth}
use Rattle.parts.specs.Own.{part_of, with_part}
use Rattle.deliver.specs.Own.{deliver_at_node}

pub record NodeClaims (z : Shape) : Type 0 where
  -- with the record of the stripe that the message's words name
  pub handed_on : (area journal : List ℕ) (node : ℕ) (message space : List ℕ) → length area ≡ area_length z
      → length journal ≡ journal_length z → node < z.n + z.s
      → let w = stripe_of (header_at message 0) in
      let left = deliver_at_node z (part_of z node area) (header_of journal) (record_at journal w) node message space in
      ◌≡◌ {A = DeliverOutcome} (record {
        answer = left.answer;
        area = with_part z node area left.own;
        journal = on_done left.answer (put_header (put_record journal w left.stripe) left.header) journal;
        receipt = left.receipt;
      }) (deliver z area journal node message space)
  -- whatever stands in the other word, kind 11: it comes back as it was
  pub own_word : (own : List ℕ) (h : JournalHeader) (word node : ℕ) (message space : List ℕ) (x y : ℕ)
      → let a = deliver_at_node z own h (record { accepted = word; progress = x }) node message space in
      let b = deliver_at_node z own h (record { accepted = word; progress = y }) node message space in
      (a.answer ≡ b.answer) × (a.own ≡ b.own) × (a.header ≡ b.header) × (a.stripe.accepted ≡ b.stripe.accepted)
      × (a.stripe.progress ≡ x) × (a.receipt ≡ b.receipt)
  -- it reads of the header the growth's number, the state, whether it passes its test and whether there is room for the transfer, and of
  -- its own word, kind 10, the room and the bit of a transfer that is for this node. Where these are the same it answers and does the same;
  -- header and record stay its own, counted up and marked if it is done
  pub own_bit : (own : List ℕ) (h i : JournalHeader) (r q : StripeRecord) (node : ℕ) (message space : List ℕ)
      → let m = header_at message 0 in
      let e = transfer_of m in
      let a = deliver_at_node z own h r node message space in
      let b = deliver_at_node z own i q node message space in
      SameGrowth z h i → (is_message z m ≡ true → room_for z h r.accepted e ≡ room_for z i q.accepted e)
      → (is_message z m ≡ true → for_another_node z node m ≡ false → bit r.accepted e ≡ bit q.accepted e)
      → (a.answer ≡ b.answer) × (a.own ≡ b.own) × (a.receipt ≡ b.receipt)
      × (a.header ≡ on_done b.answer (counted_up h) h) × (a.stripe ≡ on_done b.answer (Records.accept r e) r)
