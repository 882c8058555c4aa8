-- FORMAT §13; document 01, "Calls": receipt sets the sender's bit. Assumes nothing.
use Rattle.std.specs.Prelude.{not, List, [], ◌∷◌, ℕ, ◌+◌, length}
use Rattle.base.specs.Refusals.{Refusal, refuse, first, or_else}
use Rattle.answer.specs.Answers.{Answer, answer_for, on_done}
use Rattle.layout.specs.declared.Shape.{Shape}
use Rattle.layout.specs.Ranges.{shape_refusal}
use Rattle.wire.specs.declared.Header.{Header}
use Rattle.wire.specs.Words.{bit}
use Rattle.wire.specs.Headers.{header_at, stripe_of, transfer_of}
use Rattle.wire.specs.Forms.{is_receipt, for_another_sender, of_another_growth}
use Rattle.records.specs.Records as Records
use Rattle.records.specs.Conditions.{progress_ok}
use Rattle.journal.specs.declared.headers.JournalHeader.{JournalHeader}
use Rattle.journal.specs.Journal.{header_of, number_of, journal_length, record_at, put_record}
use Rattle.growth.specs.Shared.{wrong_length, damaged_header, damaged_word, not_open, out_of_range}
use Rattle.growth.specs.Deliver.{receipt_length}

-- ---- the answer, from the lengths, the header, the touched word, kind 11 of w, the node and the receipt's four words

-- a receipt of the right length: 9 malformed, 9 for another sender, 10 another growth number, 6 not computed
abbrev pub return_refusals : Shape → JournalHeader → (word node : ℕ) → Header → List Refusal
return_refusals z h word node m =
    damaged_header z h
    ∷ damaged_word (is_receipt z m) (progress_ok z word)
    ∷ not_open h
    ∷ out_of_range node (z.n + z.s)
    ∷ refuse (not (is_receipt z m)) 9
    ∷ refuse (for_another_sender z node m) 9
    ∷ refuse (of_another_growth (number_of h) m) 10
    ∷ refuse (not (Records.computed_in word)) 6
    ∷ []

abbrev pub receipt_refusals : Shape → (journalWords receipt_bytes : ℕ) → JournalHeader → (word : ℕ) → ℕ → Header → List Refusal
receipt_refusals z journalWords receipt_bytes h word node m =
    wrong_length journalWords (journal_length z) ∷ wrong_length receipt_bytes receipt_length ∷ return_refusals z h word node m

unfoldable pub receipt_refusal : Shape → (journalWords receipt_bytes : ℕ) → JournalHeader → (word : ℕ) → ℕ → Header → ℕ
receipt_refusal z journalWords receipt_bytes h word node m =
    or_else (shape_refusal z) (first (receipt_refusals z journalWords receipt_bytes h word node m))

-- ---- the journal

unfoldable pub receipted_journal : List ℕ → ℕ → ℕ → List ℕ
receipted_journal journal w e = put_record journal w (Records.receipt (record_at journal w) e)

pub record ReceiptOutcome : Type 0 where
  pub answer : Answer
  pub journal : List ℕ

unfoldable pub receipt : Shape → List ℕ → ℕ → List ℕ → ReceiptOutcome
receipt z journal node bytes =
    let m = header_at bytes 0 in
    let w = stripe_of m in
    let e = transfer_of m in
    let word = (record_at journal w).progress in
    let a = answer_for (receipt_refusal z (length journal) (length bytes) (header_of journal) word node m) (bit word e) in
    record { answer = a; journal = on_done a (receipted_journal journal w e) journal }
