-- What is claimed of receipt at its node. Assumes nothing.
use mathlib.Core.Path.{◌≡◌}
use mathlib.Core.List.{List}
use Prim.Native.Nat.{ℕ}
use Rattle.layout.specs.declared.Shape.{Shape}
use Rattle.layout.specs.Ranges.{InRanges}
use Rattle.records.specs.declared.StripeRecord.{StripeRecord}
use Rattle.journal.specs.declared.headers.JournalHeader.{JournalHeader}
use Rattle.lent.specs.SameGrowth.{SameGrowth}
use Rattle.receipt.specs.Own.{own_refusal, receipt_at_node}
use Rattle.receipt.specs.Claims.{NodeClaims}
use Rattle.receipt.proofs.Outcomes as Outcomes

other_header : (z : Shape) (h i : JournalHeader) (r : StripeRecord) (node : ℕ) (bytes : List ℕ) → SameGrowth z h i
    → receipt_at_node z h r node bytes ≡ receipt_at_node z i r node bytes
unfolding receipt_at_node own_refusal
other_header z h i r node bytes g = rw (g.ok, g.state, g.number)

pub node_holds : (z : Shape) → InRanges z → NodeClaims z
node_holds z ok = record {
  handed_on = λ journal node bytes j. Outcomes.handed_on z journal node bytes (Outcomes.journal_passes z _ ok j);
  own_header = other_header z;
  own_word = Outcomes.other_word z;
}
