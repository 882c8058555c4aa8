-- Receipt over the journal is the sender's own, put back; and the sender reads its own word of the record alone, and of the header the
-- growth's number, the state and whether it passes its test. Assumes nothing.
use Rattle.std.specs.Prelude.{◌≡◌, List, ℕ, length}
use Rattle.answer.specs.Answers.{on_done}
use Rattle.layout.specs.declared.Shape.{Shape}
use Rattle.wire.specs.Headers.{header_at, stripe_of}
use Rattle.records.specs.declared.StripeRecord.{StripeRecord}
use Rattle.journal.specs.declared.headers.JournalHeader.{JournalHeader}
use Rattle.journal.specs.Journal.{header_of, journal_length, record_at, put_record}
use Rattle.growth.specs.Receipt.{ReceiptOutcome, receipt}
use Rattle.lent.specs.SameGrowth.{SameGrowth}
use Rattle.receipt.specs.Own.{receipt_at_node}

pub record NodeClaims (z : Shape) : Type 0 where
  -- with the record of the stripe that the receipt's words name
  pub handed_on : (journal : List ℕ) (node : ℕ) (bytes : List ℕ) → length journal ≡ journal_length z
      → let w = stripe_of (header_at bytes 0) in
      let left = receipt_at_node z (header_of journal) (record_at journal w) node bytes in
      ◌≡◌ {A = ReceiptOutcome} (record {
        answer = left.answer;
        journal =
            on_done left.answer (put_record journal w left.stripe) journal;
      }) (receipt z journal node bytes)
  -- it reads three things of the header: the growth's number, the state, and whether it passes its test
  pub own_header : (h i : JournalHeader) (stripe : StripeRecord) (node : ℕ) (bytes : List ℕ) → SameGrowth z h i
      → receipt_at_node z h stripe node bytes ≡ receipt_at_node z i stripe node bytes
  -- whatever stands in the other word, kind 10: it comes back as it was
  pub own_word : (h : JournalHeader) (word node : ℕ) (bytes : List ℕ) (x y : ℕ)
      → let a = receipt_at_node z h (record { accepted = x; progress = word }) node bytes in
      let b = receipt_at_node z h (record { accepted = y; progress = word }) node bytes in
      (a.answer ≡ b.answer) × (a.stripe.progress ≡ b.stripe.progress) × (a.stripe.accepted ≡ x)
