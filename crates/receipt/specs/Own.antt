-- FORMAT §16. Receipt as a single node runs it, the sender of the transfer. It needs none of its cells for it. Assumes nothing.
use Rattle.std.specs.Prelude.{List, [], ◌∷◌, ℕ, length}
use Rattle.base.specs.Refusals.{Refusal, first, or_else}
use Rattle.answer.specs.Answers.{Answer, answer_for, on_done}
use Rattle.layout.specs.declared.Shape.{Shape}
use Rattle.layout.specs.Ranges.{shape_refusal}
use Rattle.wire.specs.declared.Header.{Header}
use Rattle.wire.specs.Headers.{header_at, transfer_of}
use Rattle.records.specs.declared.StripeRecord.{StripeRecord}
use Rattle.records.specs.Records as Records
use Rattle.journal.specs.declared.headers.JournalHeader.{JournalHeader}
use Rattle.journal.specs.Journal.{journal_length}
use Rattle.growth.specs.Shared.{wrong_length}
use Rattle.growth.specs.Deliver.{receipt_length}
use Rattle.growth.specs.Receipt.{return_refusals}

-- ---- the answer

-- the call over the journal: the shape and the journal's length
abbrev pub journal_refusals : Shape → (journalWords : ℕ) → List Refusal
journal_refusals z journalWords = wrong_length journalWords (journal_length z) ∷ []

unfoldable pub journal_refusal : Shape → (journalWords : ℕ) → ℕ
journal_refusal z journalWords = or_else (shape_refusal z) (first (journal_refusals z journalWords))

-- at the node: the receipt's length and what remains, from the header, the touched word, kind 11 of w, the node and the receipt's four
-- words
abbrev pub own_refusals : Shape → (receipt_bytes : ℕ) → JournalHeader → (word : ℕ) → ℕ → Header → List Refusal
own_refusals z receipt_bytes h word node m = wrong_length receipt_bytes receipt_length ∷ return_refusals z h word node m

unfoldable pub own_refusal : Shape → (receipt_bytes : ℕ) → JournalHeader → (word : ℕ) → ℕ → Header → ℕ
own_refusal z receipt_bytes h word node m = or_else (shape_refusal z) (first (own_refusals z receipt_bytes h word node m))

-- ---- the record of the stripe that the receipt names

pub record ReceiptedAtNode : Type 0 where
  pub answer : Answer
  pub stripe : StripeRecord

unfoldable pub receipt_at_node : Shape → JournalHeader → StripeRecord → ℕ → List ℕ → ReceiptedAtNode
receipt_at_node z h stripe node bytes =
    let m = header_at bytes 0 in
    let e = transfer_of m in
    let a = answer_for (own_refusal z (length bytes) h stripe.progress node m) (Records.is_receipted stripe e) in
    record { answer = a; stripe = on_done a (Records.receipt stripe e) stripe }
