-- Compute over the whole area and journal is the node's own, put back; the node refuses stripes that are not its own, and reads its own
-- word of the record alone, and of the header the growth's number, the state and whether it passes its test. Assumes nothing.
use Rattle.std.specs.Prelude.{◌≡◌, true, List, ℕ, length}
use Rattle.base.specs.Refusals.{first}
use Rattle.answer.specs.Answers.{refused, is_refused}
use Rattle.layout.specs.declared.Shape.{Shape}
use Rattle.layout.specs.Addresses.{area_length}
use Rattle.layout.specs.Transfers.{sender}
use Rattle.records.specs.declared.StripeRecord.{StripeRecord}
use Rattle.journal.specs.declared.headers.JournalHeader.{JournalHeader}
use Rattle.journal.specs.Journal.{journal_length}
use Rattle.growth.specs.Compute.{compute}
use Rattle.lent.specs.Checks.{sender_refusal}
use Rattle.growth.specs.Shared.{kept_refusals}
use Rattle.lent.specs.SameGrowth.{SameGrowth}
use Rattle.parts.specs.AtNode.{at_node}
use Rattle.compute.specs.Own.{compute_at_node}

pub record NodeClaims (z : Shape) : Type 0 where
  -- for every w, in range or not
  pub handed_on : (area journal : List ℕ) (w : ℕ) → length area ≡ area_length z → length journal ≡ journal_length z
      → at_node z (sender z w) area journal w (λ own h stripe. compute_at_node z own h stripe (sender z w) w) ≡ compute z area journal w
  -- a stripe of another sender is refused
  pub not_its_own_law : (own : List ℕ) (h : JournalHeader) (stripe : StripeRecord) (node w : ℕ) → (node ≡ sender z w → ⊥)
      → is_refused (compute_at_node z own h stripe node w).answer ≡ true
  -- with 5, unless the part's length, the header, the word, the state or the range of w comes first
  pub refused_5 : (own : List ℕ) (h : JournalHeader) (stripe : StripeRecord) (node w : ℕ) → (node ≡ sender z w → ⊥)
      → sender_refusal z (length own) ≡ 0 → first (kept_refusals z h stripe.progress w) ≡ 0
      → (compute_at_node z own h stripe node w).answer ≡ refused 5
  -- it reads three things of the header: the growth's number, the state, and whether it passes its test
  pub own_header : (own : List ℕ) (h i : JournalHeader) (stripe : StripeRecord) (node w : ℕ) → SameGrowth z h i
      → compute_at_node z own h stripe node w ≡ compute_at_node z own i stripe node w
  -- whatever stands in the other word, kind 10: it comes back as it was
  pub own_word : (own : List ℕ) (h : JournalHeader) (word node w x y : ℕ)
      → let a = compute_at_node z own h (record { accepted = x; progress = word }) node w in
      let b = compute_at_node z own h (record { accepted = y; progress = word }) node w in
      (a.answer ≡ b.answer) × (a.own ≡ b.own) × (a.stripe.progress ≡ b.stripe.progress) × (a.stripe.accepted ≡ x)
