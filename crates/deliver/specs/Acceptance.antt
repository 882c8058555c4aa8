-- Deliver without its receipt: what the call answers and leaves in the area and the journal, where the receipt's space has so many
-- bytes. Assumes nothing.
use Rattle.std.specs.Prelude.{List, ℕ, length}
use Rattle.answer.specs.Answers.{answer_for, on_done}
use Rattle.layout.specs.declared.Shape.{Shape}
use Rattle.wire.specs.Words.{bit}
use Rattle.wire.specs.Headers.{header_at, stripe_of, transfer_of}
use Rattle.journal.specs.Journal.{header_of, record_at}
use Rattle.growth.specs.Shared.{Outcome}
use Rattle.growth.specs.Deliver.{deliver_refusal, delivered_area, delivered_journal}

unfoldable pub acceptance : Shape → List ℕ → List ℕ → ℕ → List ℕ → (spaceBytes : ℕ) → Outcome
acceptance z area journal node message spaceBytes =
    let m = header_at message 0 in
    let w = stripe_of m in
    let e = transfer_of m in
    let word = (record_at journal w).accepted in
    let a = answer_for (deliver_refusal z (length area) (length journal) (length message) spaceBytes (header_of journal) word node m)
    (bit word e) in
    record {
      answer = a;
      area = on_done a (delivered_area z area node w e message) area;
      journal = on_done a (delivered_journal journal w e) journal;
    }
