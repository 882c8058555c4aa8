-- What deliver and receipt answer and leave in an open journal where nothing refuses them, whether they are done or answer already: the
-- stripe's record with the transfer's mark set, and one mark more where it was missing. Assumes nothing.
use mathlib.Core.Path.{◌≡◌, refl, sym}
use mathlib.Core.Bool.{Bool, true, false, not}
use mathlib.Core.List.{List}
use Prim.Native.Nat.{ℕ, ◌+◌}
use native.Mathlib.Nat.{add-zero}
use lib.ListN.{length}
use Rattle.base.specs.Tests.{if}
use Rattle.base.specs.Folds.{indicator}
use Rattle.answer.specs.Answers.{already, done, unless_refused}
use Rattle.answer.proofs.Answers.{answered_cases, answered_none}
use Rattle.layout.specs.declared.Shape.{Shape}
use Rattle.layout.specs.Ranges.{InRanges}
use Rattle.layout.specs.Addresses.{area_length}
use Rattle.layout.specs.Transfers.{sender, receiver}
use Rattle.wire.specs.declared.Header.{Header}
use Rattle.wire.specs.Words.{bit}
use Rattle.wire.specs.Headers as Wire
use Rattle.wire.specs.Headers.{header_bytes, header_at, stripe_of, transfer_of, receipt_of}
use Rattle.wire.specs.Forms.{is_message, is_receipt}
use Rattle.wire.proofs.FormLaws.{message_is, receipt_is}
use Rattle.records.specs.declared.StripeRecord.{StripeRecord}
use Rattle.records.specs.Records as Records
use Rattle.records.specs.Records.{is_accepted, is_receipted, is_computed}
use Rattle.journal.specs.Journal.{header_of, number_of, record_at}
use Rattle.journal.specs.Whole.{marks}
use Rattle.growth.specs.Send.{message_length}
use Rattle.growth.specs.Deliver.{receipt_length, deliver_refusal, delivered_journal, deliver}
use Rattle.growth.specs.Receipt.{receipt_refusal, receipted_journal, receipt}
use Rattle.growth.proofs.RecordSteps.{accept_again, receipt_again}
use Rattle.growth.proofs.OpenJournals.{OpenJournal}
use Rattle.growth.proofs.CallJournals.{JournalStep, receipted_step}
use Rattle.growth.proofs.DeliveredJournals.{delivered_step}
use Rattle.growth.proofs.NotRefused.{deliver_unrefused, receipt_unrefused}
use Rattle.growth.proofs.CallsInOrder.{unchanged, written}

-- what a deliver adds to the marks: 1 where the transfer was not accepted
abbrev pub new_mark : StripeRecord → ℕ → ℕ
new_mark r e = indicator (not (is_accepted r e))

no_mark : (n : ℕ) (b : Bool) → b ≡ true → n ≡ n + indicator (not b)
no_mark n b h = rw h (sym (add-zero n))

one_mark : (n : ℕ) (b : Bool) → b ≡ false → n + 1 ≡ n + indicator (not b)
one_mark n b h = rw h

module _ (z : Shape) (ok : InRanges z) (journal : List ℕ) (o : OpenJournal z journal) where
  -- ---- deliver, of a message of this growth at its receiver, for a computed stripe

  module _ (area : List ℕ) (long : length area ≡ area_length z) (message space : List ℕ) (lm : length message ≡ message_length z)
      (ls : length space ≡ receipt_length) (f : is_message z (header_at message 0) ≡ true)
      (g : Wire.number_of (header_at message 0) ≡ number_of (header_of journal)) where
    -- the message's four words, with the stripe and the transfer that they name
    abbrev words : Header
    words = header_at message 0

    abbrev stripe : ℕ
    stripe = stripe_of words

    abbrev transfer : ℕ
    transfer = transfer_of words

    deliver_passes : deliver_refusal z (length area) (length journal) (length message) (length space) (header_of journal)
        (record_at journal stripe).accepted (receiver z stripe transfer) words ≡ 0
    deliver_passes = deliver_unrefused z ok journal o area long words message space lm ls f g

    deliver_answer : (deliver z area journal (receiver z stripe transfer) message space).answer
        ≡ if (is_accepted (record_at journal stripe) transfer) already done
    unfolding deliver is_accepted
    deliver_answer = answered_none _ (bit (record_at journal stripe).accepted transfer) deliver_passes

    deliver_journal : is_computed (record_at journal stripe) ≡ true
        → JournalStep z journal stripe (Records.accept (record_at journal stripe) transfer)
        (marks z journal + new_mark (record_at journal stripe) transfer)
        (deliver z area journal (receiver z stripe transfer) message space).journal
    unfolding deliver is_accepted
    deliver_journal c =
        let r = record_at journal stripe in
        let t = (message_is z words f).transfer in
        written (λ j. JournalStep z journal stripe (Records.accept r transfer) (marks z journal + new_mark r transfer) j)
        _ (bit r.accepted transfer) (delivered_journal journal stripe transfer) journal deliver_passes
        (λ h. rw (← no_mark (marks z journal) (is_accepted r transfer) h) (unchanged z journal stripe _ o (accept_again r transfer h)))
        (λ h. rw (← one_mark (marks z journal) (is_accepted r transfer) h)
        (delivered_step z ok journal stripe transfer o t.stripe t.transfer c h))

    deliver_bytes : (deliver z area journal (receiver z stripe transfer) message space).receipt ≡ header_bytes (receipt_of words)
    unfolding deliver
    deliver_bytes = answered_cases (λ a. unless_refused a (header_bytes (receipt_of words)) space ≡ header_bytes (receipt_of words))
        _ (bit (record_at journal stripe).accepted transfer) (λ h. absurd (h deliver_passes)) (λ p q. refl) (λ p q. refl)

    -- the same by the names that the message's words have
    module _ (w e : ℕ) (n : stripe ≡ w) (k : transfer ≡ e) where
      pub deliver_told : (deliver z area journal (receiver z w e) message space).answer
          ≡ if (is_accepted (record_at journal w) e) already done
      deliver_told = rw (n, k) at deliver_answer

      pub deliver_leaves : is_computed (record_at journal w) ≡ true
          → JournalStep z journal w (Records.accept (record_at journal w) e) (marks z journal + new_mark (record_at journal w) e)
          (deliver z area journal (receiver z w e) message space).journal
      deliver_leaves c = rw (n, k) at (deliver_journal (rw n c))

      pub deliver_writes : (deliver z area journal (receiver z w e) message space).receipt ≡ header_bytes (receipt_of words)
      deliver_writes = rw (n, k) at deliver_bytes

  -- ---- receipt, of a receipt of this growth at its sender, for a computed stripe

  module _ (bytes : List ℕ) (lb : length bytes ≡ receipt_length) (f : is_receipt z (header_at bytes 0) ≡ true)
      (g : Wire.number_of (header_at bytes 0) ≡ number_of (header_of journal)) where
    abbrev named : ℕ
    named = stripe_of (header_at bytes 0)

    abbrev item : ℕ
    item = transfer_of (header_at bytes 0)

    module _ (c : is_computed (record_at journal named) ≡ true) where
      receipt_passes : receipt_refusal z (length journal) (length bytes) (header_of journal) (record_at journal named).progress
          (sender z named) (header_at bytes 0) ≡ 0
      receipt_passes = receipt_unrefused z ok journal o (header_at bytes 0) bytes lb f g c

      receipt_answer : (receipt z journal (sender z named) bytes).answer ≡ if (is_receipted (record_at journal named) item) already done
      unfolding receipt is_receipted
      receipt_answer = answered_none _ (bit (record_at journal named).progress item) receipt_passes

      receipt_journal : is_accepted (record_at journal named) item ≡ true
          → JournalStep z journal named (Records.receipt (record_at journal named) item) (marks z journal)
          (receipt z journal (sender z named) bytes).journal
      unfolding receipt is_receipted
      receipt_journal a =
          let r = record_at journal named in
          let t = (receipt_is z (header_at bytes 0) f).transfer in
          written (λ j. JournalStep z journal named (Records.receipt r item) (marks z journal) j)
          _ (bit r.progress item) (receipted_journal journal named item) journal receipt_passes
          (λ h. unchanged z journal named _ o (receipt_again r item h))
          (λ h. receipted_step z ok journal named o t.stripe item t.transfer a)

    -- the same by the names that the receipt's words have
    module _ (w e : ℕ) (n : named ≡ w) (k : item ≡ e) (c : is_computed (record_at journal w) ≡ true) where
      pub receipt_told : (receipt z journal (sender z w) bytes).answer ≡ if (is_receipted (record_at journal w) e) already done
      receipt_told = rw (n, k) at (receipt_answer (rw n c))

      -- a transfer that is accepted
      pub receipt_leaves : is_accepted (record_at journal w) e ≡ true
          → JournalStep z journal w (Records.receipt (record_at journal w) e) (marks z journal)
          (receipt z journal (sender z w) bytes).journal
      receipt_leaves a = rw (n, k) at (receipt_journal (rw n c) (rw (n, k) a))
