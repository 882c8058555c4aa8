-- A call that one node makes on its own cells, and the same call over the whole area and journal. Assumes nothing.
use Rattle.std.specs.Prelude.{Bool, List, ℕ}
use Rattle.answer.specs.Answers.{Answer, answer_for, on_done}
use Rattle.layout.specs.declared.Shape.{Shape}
use Rattle.records.specs.declared.StripeRecord.{StripeRecord}
use Rattle.journal.specs.declared.headers.JournalHeader.{JournalHeader}
use Rattle.journal.specs.Journal.{header_of, record_at, put_record}
use Rattle.growth.specs.Shared.{Outcome}
use Rattle.parts.specs.Own.{part_of, with_part}

-- what it leaves at the node: its part of the area, and the stripe's record
pub record NodeOutcome : Type 0 where
  pub answer : Answer
  pub own : List ℕ
  pub stripe : StripeRecord

-- by its first refusal and its own mark; a done call makes the part and the record new
unfoldable pub outcome_at_node : (refusal : ℕ) (marked : Bool) (own new : List ℕ) (stripe next : StripeRecord) → NodeOutcome
outcome_at_node refusal marked own new stripe next =
    let a = answer_for refusal marked in
    record { answer = a; own = on_done a new own; stripe = on_done a next stripe }

-- node v is given its part, the header and the record of w; what it leaves goes back in their places
unfoldable pub at_node : Shape → ℕ → List ℕ → List ℕ → ℕ → (List ℕ → JournalHeader → StripeRecord → NodeOutcome) → Outcome
at_node z v area journal w call =
    let left = call (part_of z v area) (header_of journal) (record_at journal w) in
    record {
      answer = left.answer;
      area = with_part z v area left.own;
      journal = on_done left.answer (put_record journal w left.stripe) journal;
    }
