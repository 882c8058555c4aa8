-- What compute leaves at the node that makes it, and that this, put back, is what the call leaves. Assumes nothing.
use mathlib.Core.Path.{◌≡◌, ap, ◌∙◌}
use mathlib.Core.Bool.{true}
use mathlib.Core.List.{List}
use Prim.Native.Nat.{ℕ}
use lib.ListN.{length}
use Rattle.base.specs.Refusals.{first, or_else}
use Rattle.base.proofs.Refusals.{or_else_zero, or_else_pass}
use Rattle.answer.specs.declared.Refusal.{Refusal}
use Rattle.answer.specs.Numbers as Numbers
use Rattle.answer.specs.Answers.{Answer, refused, done, answer_for, is_refused}
use Rattle.layout.specs.declared.Shape.{Shape}
use Rattle.layout.specs.Transfers.{sender}
use Rattle.records.specs.declared.StripeRecord.{StripeRecord}
use Rattle.records.specs.Records as Records
use Rattle.journal.specs.declared.headers.JournalHeader.{JournalHeader}
use Rattle.journal.specs.Journal.{header_of, record_at}
use Rattle.growth.specs.Shared.{Outcome, kept_refusals}
use Rattle.growth.specs.Compute.{compute_refusal, computed_area, computed_journal, compute}
use Rattle.lent.specs.Checks.{store_refusal, sender_refusal, stripe_refusal}
use Rattle.lent.specs.SameGrowth.{SameGrowth}
use Rattle.lent.proofs.StoreLaws.{store_lent, another_sender}
use Rattle.parts.specs.Own.{part_of}
use Rattle.parts.specs.AtNode.{NodeOutcome, outcome_at_node, at_node}
use Rattle.parts.proofs.NodeCalls as NodeCalls
use Rattle.parts.proofs.NodeCalls.{OwnAllowed, as_called, done_number, another_refused}
use Rattle.compute.specs.Own.{own_refusal, own_computed, compute_at_node}
use Rattle.compute.proofs.InParts.{compute_parts}
use Rattle.compute.proofs.OwnLaws.{part_computed}

-- ---- at the node

-- what nothing refuses
pub own_allowed : (z : Shape) (ownBytes : ℕ) (h : JournalHeader) (word node w : ℕ) → own_refusal z ownBytes h word node w ≡ 0
    → OwnAllowed z ownBytes node w
unfolding own_refusal
own_allowed z ownBytes h word node w e =
    let (p, q) = or_else_zero (sender_refusal z ownBytes) (stripe_refusal z h word node w) e in
    NodeCalls.own_allowed z ownBytes h word node w p q

-- of a call that is done
pub done_allowed : (z : Shape) (own : List ℕ) (h : JournalHeader) (r : StripeRecord) (node w : ℕ) {a : Answer} {o : List ℕ}
    {p : StripeRecord}
    → ◌≡◌ {A = NodeOutcome} (record { answer = a; own = o; stripe = p }) (compute_at_node z own h r node w) → a ≡ done
    → OwnAllowed z (length own) node w
unfolding compute_at_node
done_allowed z own h r node w q d =
    own_allowed z (length own) h r.progress node w
    (done_number (own_refusal z (length own) h r.progress node w) (Records.is_computed r) own (own_computed z own w) r (Records.compute r) q
    d)

-- of the record only the touched word counts; the other one comes back as it was
pub other_word : (z : Shape) (own : List ℕ) (h : JournalHeader) (word node w x y : ℕ)
    → let a = compute_at_node z own h (record { accepted = x; progress = word }) node w in
    let b = compute_at_node z own h (record { accepted = y; progress = word }) node w in
    (a.answer ≡ b.answer) × (a.own ≡ b.own) × (a.stripe.progress ≡ b.stripe.progress) × (a.stripe.accepted ≡ x)
unfolding compute_at_node Records.is_computed Records.compute
other_word z own h word node w x y =
    NodeCalls.same_word (own_refusal z (length own) h word node w) (Records.computed_in word) own (own_computed z own w) x y word
    (Records.set_bit word 26)

-- a node refuses what is not its own
pub not_its_own_law : (z : Shape) (own : List ℕ) (h : JournalHeader) (r : StripeRecord) (node w : ℕ) → (node ≡ sender z w → ⊥)
    → is_refused (compute_at_node z own h r node w).answer ≡ true
unfolding compute_at_node
not_its_own_law z own h r node w d =
    another_refused (own_refusal z (length own) h r.progress node w) (Records.is_computed r) own (own_computed z own w) r
    (Records.compute r)
    (λ e. d (own_allowed z (length own) h r.progress node w e).its_own)

pub refused_5 : (z : Shape) (own : List ℕ) (h : JournalHeader) (r : StripeRecord) (node w : ℕ) → (node ≡ sender z w → ⊥)
    → sender_refusal z (length own) ≡ 0 → first (kept_refusals z h r.progress w) ≡ 0 → (compute_at_node z own h r node w).answer ≡ refused 5
unfolding compute_at_node outcome_at_node own_refusal
refused_5 z own h r node w d p q =
    let five : own_refusal z (length own) h r.progress node w ≡ 5 = or_else_pass _ _ p ∙ another_sender z h r.progress node w d q in
    ap (λ x. answer_for x (Records.is_computed r)) five

-- it reads three things of the header: the growth's number, the state, and whether it passes its test
pub other_header : (z : Shape) (own : List ℕ) (h i : JournalHeader) (r : StripeRecord) (node w : ℕ) → SameGrowth z h i
    → compute_at_node z own h r node w ≡ compute_at_node z own i r node w
unfolding compute_at_node own_refusal stripe_refusal
other_header z own h i r node w g = rw (g.ok, g.state)

-- ---- over area and journal

module _ (z : Shape) (area journal : List ℕ) (w : ℕ) where
  abbrev later : ℕ
  later =
      stripe_refusal z (header_of journal) (record_at journal w).progress (sender z w) w

  in_two : or_else (store_refusal z (length area) (length journal)) later
      ≡ compute_refusal z (length area) (length journal) (header_of journal) (record_at journal w).progress w
  in_two = compute_parts z (length area) (length journal) (header_of journal) (record_at journal w).progress w

  -- refused for the shape or a length
  pub stops : (x : Refusal) → Numbers.number x ≡ store_refusal z (length area) (length journal)
      → ◌≡◌ {A = Outcome} (record { answer = refused (Numbers.number x); area = area; journal = journal }) (compute z area journal w)
  unfolding compute as_called
  stops x e =
      NodeCalls.stops z w area journal _ later in_two (Records.computed_in (record_at journal w).progress) (computed_area z area w)
      (computed_journal journal w) x e

  -- the call is the node's own, handed on
  pub handed_on : store_refusal z (length area) (length journal) ≡ 0
      → at_node z (sender z w) area journal w (λ own h r. compute_at_node z own h r (sender z w) w) ≡ compute z area journal w
  unfolding compute_at_node own_refusal compute computed_journal Records.is_computed at_node as_called
  handed_on lent =
      let has = store_lent z (length area) (length journal) lent in
      let part = part_of z (sender z w) area in
      NodeCalls.handed_on z w area journal _ later in_two (Records.is_computed (record_at journal w)) (computed_area z area w) lent
      (own_computed z part w) (Records.compute (record_at journal w))
      (λ n. part_computed z has.ok w (own_allowed z (length part) _ _ _ w n).stripe area has.area_long)
