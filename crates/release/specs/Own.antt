-- FORMAT §16. Release as a single node runs it, the one that has the new blocks of w, on its own part of the area. Assumes nothing.
use Rattle.std.specs.Prelude.{List, ℕ, length}
use Rattle.base.specs.Tests.{if}
use Rattle.base.specs.Folds.{run}
use Rattle.base.specs.Refusals.{first, or_else}
use Rattle.area.specs.Area.{zeros, put_slot}
use Rattle.layout.specs.declared.Shape.{Shape}
use Rattle.layout.specs.Sources.{source_slot}
use Rattle.layout.specs.Closed.{swapped, swap_index}
use Rattle.records.specs.declared.StripeRecord.{StripeRecord}
use Rattle.records.specs.Records as Records
use Rattle.journal.specs.declared.headers.JournalHeader.{JournalHeader}
use Rattle.growth.specs.Release.{unfinished}
use Rattle.lent.specs.Checks.{sender_refusal, stripe_refusal}
use Rattle.parts.specs.Own.{own_new}
use Rattle.parts.specs.AtNode.{NodeOutcome, outcome_at_node}

-- from the length of the part, the header, the touched word, kind 11 of w, and the node's number
unfoldable pub own_refusal : Shape → (ownBytes : ℕ) → JournalHeader → (word node w : ℕ) → ℕ
own_refusal z ownBytes h word node w =
    or_else (sender_refusal z ownBytes) (or_else (stripe_refusal z h word node w) (first (unfinished z word)))

-- swapped: new block y moves into slot w
unfoldable pub own_moved : Shape → List ℕ → ℕ → List ℕ
own_moved z own w = if (swapped z w) (put_slot own z.b w (own_new z own w (swap_index z w))) own

-- the first places of the s new blocks of w
unfoldable pub own_zeroed : Shape → ℕ → List ℕ → List ℕ
own_zeroed z w own = run (λ t o. put_slot o z.b (source_slot z w t) (zeros z.b)) 0 z.s own

unfoldable pub own_released : Shape → List ℕ → ℕ → List ℕ
own_released z own w = own_zeroed z w (own_moved z own w)

unfoldable pub release_at_node : Shape → List ℕ → JournalHeader → StripeRecord → (node w : ℕ) → NodeOutcome
release_at_node z own h stripe node w =
    outcome_at_node (own_refusal z (length own) h stripe.progress node w) (Records.is_released stripe) own (own_released z own w) stripe
    (Records.release stripe)
