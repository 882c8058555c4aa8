-- What release leaves at the node that makes it, and that this, put back, is what the call leaves. Assumes nothing.
use mathlib.Core.Path.{◌≡◌, ap, ◌∙◌}
use mathlib.Core.Bool.{true}
use mathlib.Core.List.{List}
use Prim.Native.Nat.{ℕ}
use lib.ListN.{length}
use Rattle.base.specs.Refusals.{first, or_else}
use Rattle.base.proofs.Refusals.{or_else_zero, or_else_pass}
use Rattle.answer.specs.declared.Refusal.{Refusal}
use Rattle.answer.specs.Numbers as Numbers
use Rattle.answer.specs.Answers.{Answer, refused, done, answer_for, is_refused}
use Rattle.layout.specs.declared.Shape.{Shape}
use Rattle.layout.specs.Transfers.{sender}
use Rattle.records.specs.declared.StripeRecord.{StripeRecord}
use Rattle.records.specs.Records as Records
use Rattle.journal.specs.declared.headers.JournalHeader.{JournalHeader}
use Rattle.journal.specs.Journal.{header_of, record_at}
use Rattle.growth.specs.Shared.{Outcome, kept_refusals}
use Rattle.growth.specs.Release.{release_refusal, released_area, released_journal, release, unfinished}
use Rattle.lent.specs.Checks.{store_refusal, sender_refusal, stripe_refusal}
use Rattle.lent.specs.SameGrowth.{SameGrowth}
use Rattle.lent.proofs.StoreLaws.{store_lent, another_sender}
use Rattle.parts.specs.Own.{part_of}
use Rattle.parts.specs.AtNode.{NodeOutcome, outcome_at_node, at_node}
use Rattle.parts.proofs.NodeCalls as NodeCalls
use Rattle.parts.proofs.NodeCalls.{OwnAllowed, as_called, done_number, another_refused}
use Rattle.release.specs.Own.{own_refusal, own_released, release_at_node}
use Rattle.release.proofs.InParts.{release_parts}
use Rattle.release.proofs.NodeReleased.{node_released}

-- ---- at the node

-- what nothing refuses
pub own_allowed : (z : Shape) (ownBytes : ℕ) (h : JournalHeader) (word node w : ℕ) → own_refusal z ownBytes h word node w ≡ 0
    → OwnAllowed z ownBytes node w
unfolding own_refusal
own_allowed z ownBytes h word node w e =
    let (p, later) = or_else_zero (sender_refusal z ownBytes) (or_else (stripe_refusal z h word node w) (first (unfinished z word))) e in
    let (q, u) = or_else_zero (stripe_refusal z h word node w) (first (unfinished z word)) later in
    NodeCalls.own_allowed z ownBytes h word node w p q

-- of a call that is done
pub done_allowed : (z : Shape) (own : List ℕ) (h : JournalHeader) (r : StripeRecord) (node w : ℕ) {a : Answer} {o : List ℕ}
    {p : StripeRecord}
    → ◌≡◌ {A = NodeOutcome} (record { answer = a; own = o; stripe = p }) (release_at_node z own h r node w) → a ≡ done
    → OwnAllowed z (length own) node w
unfolding release_at_node
done_allowed z own h r node w q d =
    own_allowed z (length own) h r.progress node w
    (done_number (own_refusal z (length own) h r.progress node w) (Records.is_released r) own (own_released z own w) r (Records.release r) q
    d)

-- of the record only the touched word counts; the other one comes back as it was
pub other_word : (z : Shape) (own : List ℕ) (h : JournalHeader) (word node w x y : ℕ)
    → let a = release_at_node z own h (record { accepted = x; progress = word }) node w in
    let b = release_at_node z own h (record { accepted = y; progress = word }) node w in
    (a.answer ≡ b.answer) × (a.own ≡ b.own) × (a.stripe.progress ≡ b.stripe.progress) × (a.stripe.accepted ≡ x)
unfolding release_at_node Records.is_released Records.release
other_word z own h word node w x y =
    NodeCalls.same_word (own_refusal z (length own) h word node w) (Records.released_in word) own (own_released z own w) x y word
    (Records.set_bit word 27)

-- a node refuses what is not its own
pub not_its_own_law : (z : Shape) (own : List ℕ) (h : JournalHeader) (r : StripeRecord) (node w : ℕ) → (node ≡ sender z w → ⊥)
    → is_refused (release_at_node z own h r node w).answer ≡ true
unfolding release_at_node
not_its_own_law z own h r node w d =
    another_refused (own_refusal z (length own) h r.progress node w) (Records.is_released r) own (own_released z own w) r
    (Records.release r)
    (λ e. d (own_allowed z (length own) h r.progress node w e).its_own)

pub refused_5 : (z : Shape) (own : List ℕ) (h : JournalHeader) (r : StripeRecord) (node w : ℕ) → (node ≡ sender z w → ⊥)
    → sender_refusal z (length own) ≡ 0 → first (kept_refusals z h r.progress w) ≡ 0 → (release_at_node z own h r node w).answer ≡ refused 5
unfolding release_at_node outcome_at_node own_refusal
refused_5 z own h r node w d p q =
    let five : own_refusal z (length own) h r.progress node w ≡ 5 =
    or_else_pass _ _ p ∙ ap (λ x. or_else x (first (unfinished z r.progress))) (another_sender z h r.progress node w d q) in
    ap (λ x. answer_for x (Records.is_released r)) five

-- it reads three things of the header: the growth's number, the state, and whether it passes its test
pub other_header : (z : Shape) (own : List ℕ) (h i : JournalHeader) (r : StripeRecord) (node w : ℕ) → SameGrowth z h i
    → release_at_node z own h r node w ≡ release_at_node z own i r node w
unfolding release_at_node own_refusal stripe_refusal
other_header z own h i r node w g = rw (g.ok, g.state)

-- ---- over area and journal

module _ (z : Shape) (area journal : List ℕ) (w : ℕ) where
  abbrev later : ℕ
  later =
      or_else (stripe_refusal z (header_of journal) (record_at journal w).progress (sender z w) w)
      (first (unfinished z (record_at journal w).progress))

  in_two : or_else (store_refusal z (length area) (length journal)) later
      ≡ release_refusal z (length area) (length journal) (header_of journal) (record_at journal w).progress w
  in_two = release_parts z (length area) (length journal) (header_of journal) (record_at journal w).progress w

  -- refused for the shape or a length
  pub stops : (x : Refusal) → Numbers.number x ≡ store_refusal z (length area) (length journal)
      → ◌≡◌ {A = Outcome} (record { answer = refused (Numbers.number x); area = area; journal = journal }) (release z area journal w)
  unfolding release as_called
  stops x e =
      NodeCalls.stops z w area journal _ later in_two (Records.released_in (record_at journal w).progress) (released_area z area w)
      (released_journal journal w) x e

  -- the call is the node's own, handed on
  pub handed_on : store_refusal z (length area) (length journal) ≡ 0
      → at_node z (sender z w) area journal w (λ own h r. release_at_node z own h r (sender z w) w) ≡ release z area journal w
  unfolding release_at_node own_refusal release released_journal Records.is_released at_node as_called
  handed_on lent =
      let has = store_lent z (length area) (length journal) lent in
      let part = part_of z (sender z w) area in
      NodeCalls.handed_on z w area journal _ later in_two (Records.is_released (record_at journal w)) (released_area z area w) lent
      (own_released z part w) (Records.release (record_at journal w))
      (λ n. node_released z has.ok w (own_allowed z (length part) _ _ _ w n).stripe area has.area_long)
