-- FORMAT §16. Compute as a single node runs it, the one that has row 0 of w, on its own part of the area. Assumes nothing.
use Rattle.std.specs.Prelude.{List, ℕ, length}
use Rattle.base.specs.Refusals.{or_else}
use Rattle.area.specs.Area.{slot, put_slot, xor_blocks}
use Rattle.layout.specs.declared.Shape.{Shape}
use Rattle.records.specs.declared.StripeRecord.{StripeRecord}
use Rattle.records.specs.Records as Records
use Rattle.journal.specs.declared.headers.JournalHeader.{JournalHeader}
use Rattle.growth.specs.Cells.{delta_of}
use Rattle.lent.specs.Checks.{sender_refusal, stripe_refusal}
use Rattle.parts.specs.Own.{own_new}
use Rattle.parts.specs.AtNode.{NodeOutcome, outcome_at_node}

-- from the length of the part, the header, the touched word, kind 11 of w, and the node's number
unfoldable pub own_refusal : Shape → (ownBytes : ℕ) → JournalHeader → (word node w : ℕ) → ℕ
own_refusal z ownBytes h word node w = or_else (sender_refusal z ownBytes) (stripe_refusal z h word node w)

-- slot w, row 0, with its delta added
unfoldable pub own_computed : Shape → List ℕ → ℕ → List ℕ
own_computed z own w = put_slot own z.b w (xor_blocks z.b (slot own z.b w) (delta_of z 0 (own_new z own w)))

unfoldable pub compute_at_node : Shape → List ℕ → JournalHeader → StripeRecord → (node w : ℕ) → NodeOutcome
compute_at_node z own h stripe node w =
    outcome_at_node (own_refusal z (length own) h stripe.progress node w) (Records.is_computed stripe) own (own_computed z own w) stripe
    (Records.compute stripe)
