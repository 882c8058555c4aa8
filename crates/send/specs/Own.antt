-- FORMAT §16. Send as a single node runs it, the sender of w, from its own part of the area. Assumes nothing.
use Rattle.std.specs.Prelude.{false, List, ◌∷◌, ◌++◌, ℕ, length}
use Rattle.base.specs.Refusals.{Refusal, first, or_else}
use Rattle.answer.specs.Answers.{answer_for, on_done}
use Rattle.area.specs.Area.{slot}
use Rattle.layout.specs.declared.Shape.{Shape}
use Rattle.wire.specs.Headers.{message}
use Rattle.records.specs.declared.StripeRecord.{StripeRecord}
use Rattle.journal.specs.declared.headers.JournalHeader.{JournalHeader}
use Rattle.journal.specs.Journal.{number_of}
use Rattle.growth.specs.Shared.{wrong_length}
use Rattle.growth.specs.Send.{message_length, transfer_refusals, payload_from, SendOutcome}
use Rattle.lent.specs.Checks.{sender_refusal, stripe_refusals}
use Rattle.parts.specs.Own.{own_new}

-- ---- the answer, from the lengths of part and space, the header, the touched word, kind 11 of w, and the node's number

abbrev pub later_refusals : Shape → (spaceBytes : ℕ) → JournalHeader → (word node w e : ℕ) → List Refusal
later_refusals z spaceBytes h word node w e =
    wrong_length spaceBytes (message_length z) ∷ (stripe_refusals z h word node w ++ transfer_refusals z word e)

unfoldable pub own_refusal : Shape → (ownBytes spaceBytes : ℕ) → JournalHeader → (word node w e : ℕ) → ℕ
own_refusal z ownBytes spaceBytes h word node w e =
    or_else (sender_refusal z ownBytes) (first (later_refusals z spaceBytes h word node w e))

-- ---- the message

-- the block of transfer e of w; row 0 is in slot w
unfoldable pub own_payload : Shape → List ℕ → ℕ → ℕ → List ℕ
own_payload z own w e = payload_from z w e (own_new z own w) (slot own z.b w)

unfoldable pub send_at_node : Shape → List ℕ → JournalHeader → StripeRecord → (node w e : ℕ) → List ℕ → SendOutcome
send_at_node z own h stripe node w e space =
    let a = answer_for (own_refusal z (length own) (length space) h stripe.progress node w e) false in
    record { answer = a; space = on_done a (message z w e (number_of h) (own_payload z own w e)) space }
