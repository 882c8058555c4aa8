-- FORMAT §16. Deliver as a single node runs it, the receiver, on its own part of the area. Assumes nothing.
use Rattle.std.specs.Prelude.{List, [], ◌∷◌, ℕ, ◌*◌, length}
use Rattle.base.specs.Refusals.{Refusal, first, or_else}
use Rattle.answer.specs.Answers.{Answer, answer_for, on_done, unless_refused}
use Rattle.area.specs.Area.{block, slot, put_slot}
use Rattle.layout.specs.declared.Shape.{Shape}
use Rattle.layout.specs.Ranges.{shape_refusal}
use Rattle.layout.specs.Addresses.{node_slots}
use Rattle.wire.specs.declared.Header.{Header}
use Rattle.wire.specs.Words.{bit}
use Rattle.wire.specs.Headers.{header_bytes, header_at, stripe_of, transfer_of, receipt_of}
use Rattle.records.specs.declared.StripeRecord.{StripeRecord}
use Rattle.records.specs.Records as Records
use Rattle.journal.specs.declared.headers.JournalHeader.{JournalHeader}
use Rattle.growth.specs.Shared.{wrong_length}
use Rattle.growth.specs.Deliver.{received, counted_up}
use Rattle.deliver.specs.Arrival.{message_refusal}

-- ---- the answer, from the lengths, the header, the touched word, kind 10 of w, the node and the message's four words

-- a receiver that has its own cells alone: 3
abbrev pub receiver_refusals : Shape → (node ownBytes : ℕ) → List Refusal
receiver_refusals z node ownBytes = wrong_length ownBytes (node_slots z node * z.b) ∷ []

unfoldable pub receiver_refusal : Shape → (node ownBytes : ℕ) → ℕ
receiver_refusal z node ownBytes = or_else (shape_refusal z) (first (receiver_refusals z node ownBytes))

unfoldable pub own_refusal : Shape → (ownBytes messageBytes spaceBytes : ℕ) → JournalHeader → (word node : ℕ) → Header → ℕ
own_refusal z ownBytes messageBytes spaceBytes h word node m =
    or_else (receiver_refusal z node ownBytes) (message_refusal z messageBytes spaceBytes h word node m)

-- ---- what it leaves at the node

-- slot w after transfer e came in with a message
unfoldable pub own_delivered : Shape → List ℕ → ℕ → ℕ → List ℕ → List ℕ
own_delivered z own w e message = put_slot own z.b w (received z e (slot own z.b w) (block message 16 z.b))

-- deliver but for the receipt, whose space has so many bytes; the record is that of the message's stripe
pub record AcceptedAtNode : Type 0 where
  pub answer : Answer
  pub own : List ℕ
  pub header : JournalHeader
  pub stripe : StripeRecord

unfoldable pub accept_at_node : Shape → List ℕ → JournalHeader → StripeRecord → ℕ → List ℕ → (spaceBytes : ℕ) → AcceptedAtNode
accept_at_node z own h stripe node message spaceBytes =
    let m = header_at message 0 in
    let e = transfer_of m in
    let word = stripe.accepted in
    let a = answer_for (own_refusal z (length own) (length message) spaceBytes h word node m) (bit word e) in
    record {
      answer = a;
      own = on_done a (own_delivered z own (stripe_of m) e message) own;
      header = on_done a (counted_up h) h;
      stripe = on_done a (Records.accept stripe e) stripe;
    }

-- and the receipt, which a repeat writes too
pub record DeliveredAtNode : Type 0 where
  pub answer : Answer
  pub own : List ℕ
  pub header : JournalHeader
  pub stripe : StripeRecord
  pub receipt : List ℕ

unfoldable pub deliver_at_node : Shape → List ℕ → JournalHeader → StripeRecord → ℕ → List ℕ → (space : List ℕ) → DeliveredAtNode
deliver_at_node z own h stripe node message space =
    let left = accept_at_node z own h stripe node message (length space) in
    record {
      answer = left.answer;
      own = left.own;
      header = left.header;
      stripe = left.stripe;
      receipt = unless_refused left.answer (header_bytes (receipt_of (header_at message 0))) space;
    }
