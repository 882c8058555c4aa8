-- What send leaves at the node that makes it, and that this is what the call leaves. Assumes nothing.
use mathlib.Core.Path.{◌≡◌, refl, sym, ap, ◌∙◌}
use mathlib.Core.Bool.{true, false}
use mathlib.Core.List.{List}
use Prim.Native.Nat.{ℕ, ◌*◌, ◌<◌}
use lib.ListN.{length}
use borrow.Author.Tests.{eqb-true, ltb-true, eq-eqb, ne_eqb, not-false}
use Rattle.base.specs.Refusals.{first, or_else}
use Rattle.base.proofs.Refusals.{or_else_zero, or_else_pass, first_zero}
use Rattle.answer.specs.declared.Refusal.{Refusal}
use Rattle.answer.specs.Numbers.{number}
use Rattle.answer.specs.Answers.{Answer, refused, done, answer_for, is_refused, on_done}
use Rattle.answer.proofs.Answers.{answered_refuses, answered_acts, answered_done, done_both}
use Rattle.answer.proofs.Exits as Exits
use Rattle.answer.proofs.Exits.{number_some}
use Rattle.layout.specs.declared.Shape.{Shape}
use Rattle.layout.specs.Ranges.{InRanges}
use Rattle.layout.specs.Counts.{kept, stripes, transfers}
use Rattle.layout.specs.Transfers.{sender}
use Rattle.wire.specs.Headers.{message}
use Rattle.records.specs.declared.StripeRecord.{StripeRecord}
use Rattle.journal.specs.declared.headers.JournalHeader.{JournalHeader}
use Rattle.journal.specs.States.{ended_refusal}
use Rattle.journal.specs.Journal.{header_of, number_of, record_at}
use Rattle.growth.specs.Send.{message_length, payload, SendOutcome, send_refusal, send}
use Rattle.lent.specs.Checks.{store_refusal, sender_refusal}
use Rattle.growth.specs.Shared.{kept_refusals}
use Rattle.lent.specs.SameGrowth.{SameGrowth}
use Rattle.lent.proofs.StoreLaws.{StoreLent, store_lent, sender_lent}
use Rattle.parts.specs.Own.{part_of}
use Rattle.parts.proofs.NodeCalls as NodeCalls
use Rattle.send.specs.Own.{later_refusals, own_refusal, own_payload, send_at_node}
use Rattle.send.proofs.InParts.{send_parts}
use Rattle.send.proofs.Payloads.{part_payload}

-- ---- at the node

-- what nothing refuses
pub record OwnAllowed (z : Shape) (ownBytes spaceBytes node w e : ℕ) : Type 0 where
  pub ok : InRanges z
  pub own_long : ownBytes ≡ stripes z * z.b
  pub space_long : spaceBytes ≡ message_length z
  pub stripe : w < kept z
  pub its_own : node ≡ sender z w
  pub transfer : e < transfers z

pub own_allowed : (z : Shape) (ownBytes spaceBytes : ℕ) (h : JournalHeader) (word node w e : ℕ)
    → own_refusal z ownBytes spaceBytes h word node w e ≡ 0
    → OwnAllowed z ownBytes spaceBytes node w e
unfolding own_refusal ended_refusal
own_allowed z ownBytes spaceBytes h word node w e q =
    let (s, f) = or_else_zero (sender_refusal z ownBytes) (first (later_refusals z spaceBytes h word node w e)) q in
    let l = sender_lent z ownBytes s in
    let p = first_zero (later_refusals z spaceBytes h word node w e) (tt, (tt, (tt, (tt, (tt, (tt, (tt, (tt, (tt, tt))))))))) f in
    record {
      ok = l.ok;
      own_long = l.own_long;
      space_long = eqb-true _ _ (not-false _ p.0);
      stripe = ltb-true _ _ (not-false _ p.1.1.1.1.0);
      its_own = eqb-true _ _ (not-false _ p.1.1.1.1.1.0);
      transfer = ltb-true _ _ (not-false _ p.1.1.1.1.1.1.0);
    }

module _ (z : Shape) (own : List ℕ) (h : JournalHeader) (r : StripeRecord) (node w e : ℕ) (space : List ℕ) where
  abbrev own_number : ℕ
  own_number = own_refusal z (length own) (length space) h r.progress node w e

  left : (a : Answer) → answer_for own_number false ≡ a
      → ◌≡◌ {A = SendOutcome} (record { answer = a; space = on_done a (message z w e (number_of h) (own_payload z own w e)) space })
      (send_at_node z own h r node w e space)
  unfolding send_at_node
  left a q = rw q

  pub refuses : (x : Refusal) → number x ≡ own_number → ◌≡◌ {A = SendOutcome} (record { answer = refused (number x); space = space })
      (send_at_node z own h r node w e space)
  refuses x q = left (refused (number x)) (ap (λ n. answer_for n false) (sym q) ∙ answered_refuses (number x) false (number_some x))

  pub acts : 0 ≡ own_number → {growth : ℕ} {out : List ℕ} → growth ≡ number_of h → out ≡ message z w e growth (own_payload z own w e)
      → ◌≡◌ {A = SendOutcome} (record { answer = done; space = out }) (send_at_node z own h r node w e space)
  acts q grows sent = rw (sent, grows) (left done (answered_acts own_number false (sym q) refl))

-- of the record only the touched word counts
pub other_word : (z : Shape) (own : List ℕ) (h : JournalHeader) (word node w e : ℕ) (space : List ℕ) (x y : ℕ)
    → send_at_node z own h (record { accepted = x; progress = word }) node w e space
    ≡ send_at_node z own h (record { accepted = y; progress = word }) node w e space
unfolding send_at_node
other_word z own h word node w e space x y = refl

-- a node refuses what is not its own
pub not_its_own_law : (z : Shape) (own : List ℕ) (h : JournalHeader) (r : StripeRecord) (node w e : ℕ) (space : List ℕ)
    → (node ≡ sender z w → ⊥)
    → is_refused (send_at_node z own h r node w e space).answer ≡ true
unfolding send_at_node
not_its_own_law z own h r node w e space d =
    ap is_refused (answered_refuses (own_refusal z (length own) (length space) h r.progress node w e) false
    (λ q. d (own_allowed z (length own) (length space) h r.progress node w e q).its_own))

another_five : (z : Shape) (spaceBytes : ℕ) (h : JournalHeader) (word node w e : ℕ) → (node ≡ sender z w → ⊥)
    → spaceBytes ≡ message_length z → first (kept_refusals z h word w) ≡ 0 → first (later_refusals z spaceBytes h word node w e) ≡ 5
unfolding ended_refusal
another_five z spaceBytes h word node w e d long f =
    let p = first_zero (kept_refusals z h word w) (tt, (tt, (tt, (tt, tt)))) f in
    rw (eq-eqb spaceBytes (message_length z) long, p.0, p.1.0, p.1.1.0, p.1.1.1.0, ne_eqb node (sender z w) d)

pub refused_5 : (z : Shape) (own : List ℕ) (h : JournalHeader) (r : StripeRecord) (node w e : ℕ) (space : List ℕ) → (node ≡ sender z w → ⊥)
    → sender_refusal z (length own) ≡ 0 → length space ≡ message_length z → first (kept_refusals z h r.progress w) ≡ 0
    → (send_at_node z own h r node w e space).answer ≡ refused 5
unfolding send_at_node own_refusal
refused_5 z own h r node w e space d p long q =
    let five : own_refusal z (length own) (length space) h r.progress node w e ≡ 5
    = or_else_pass _ _ p ∙ another_five z (length space) h r.progress node w e d long q in
    ap (λ x. answer_for x false) five

-- it reads three things of the header: the growth's number, the state, and whether it passes its test
pub other_header : (z : Shape) (own : List ℕ) (h i : JournalHeader) (r : StripeRecord) (node w e : ℕ) (space : List ℕ) → SameGrowth z h i
    → send_at_node z own h r node w e space ≡ send_at_node z own i r node w e space
unfolding send_at_node own_refusal
other_header z own h i r node w e space g = rw (g.ok, g.state, g.number)

-- ---- over area and journal

module _ (z : Shape) (area journal : List ℕ) (w e : ℕ) (space : List ℕ) where
  called : (a : Answer)
      → answer_for (send_refusal z (length area) (length journal) (length space) (header_of journal) (record_at journal w).progress w
      e) false ≡ a
      → ◌≡◌ {A = SendOutcome} (record {
        answer = a;
        space =
            on_done a (message z w e (number_of (header_of journal)) (payload z area w e)) space;
      }) (send z area journal w e space)
  unfolding send
  called a q = rw q

  in_parts_here : or_else (store_refusal z (length area) (length journal))
      (first (later_refusals z (length space) (header_of journal) (record_at journal w).progress (sender z w) w e))
      ≡ send_refusal z (length area) (length journal) (length space) (header_of journal) (record_at journal w).progress w e
  in_parts_here = send_parts z (length area) (length journal) (length space) (header_of journal) (record_at journal w).progress w e

  -- refused for the shape or a length
  pub stops : (x : Refusal) → number x ≡ store_refusal z (length area) (length journal)
      → ◌≡◌ {A = SendOutcome} (record { answer = refused (number x); space = space }) (send z area journal w e space)
  stops x q =
      let p = sym (Exits.stops x _ _ q ∙ in_parts_here) in
      called (refused (number x)) (ap (λ n. answer_for n false) p ∙ answered_refuses (number x) false (number_some x))

  module _ (lent : store_refusal z (length area) (length journal) ≡ 0) where
    abbrev part : List ℕ
    part = part_of z (sender z w) area

    has : StoreLent z (length area) (length journal)
    has = store_lent z (length area) (length journal) lent

    same_number : own_refusal z (length part) (length space) (header_of journal) (record_at journal w).progress (sender z w) w e
        ≡ send_refusal z (length area) (length journal) (length space) (header_of journal) (record_at journal w).progress w e
    unfolding own_refusal
    same_number =
        NodeCalls.same_number z w area journal lent
        (first (later_refusals z (length space) (header_of journal) (record_at journal w).progress (sender z w) w e))
        ∙ in_parts_here

    -- the call is the sender's own, handed on
    pub handed_on : send_at_node z (part_of z (sender z w) area) (header_of journal) (record_at journal w) (sender z w) w e space
        ≡ send z area journal w e space
    unfolding send_at_node
    handed_on =
        let a = answer_for (own_refusal z (length part) (length space) (header_of journal) (record_at journal w).progress
        (sender z w) w e) false in
        let same : (d : a ≡ done) → own_payload z part w e ≡ payload z area w e
        =
        λ d. let ok = own_allowed z _ _ _ _ _ w e (answered_done _ false d).0 in
        part_payload z has.ok w ok.stripe e ok.transfer area has.area_long in
        let sent =
        done_both ◌≡◌ a a (message z w e (number_of (header_of journal)) (own_payload z part w e)) space
        (message z w e (number_of (header_of journal)) (payload z area w e)) space refl
        (λ d. ap (message z w e (number_of (header_of journal))) (same d)) refl in
        rw sent (called a (ap (λ x. answer_for x false) (sym same_number)))

    -- where the part is that of node v, and header and record are the journal's
    pub sent_on : {y : Shape} {v : ℕ} {own : List ℕ} {h : JournalHeader} {r : StripeRecord} {left : SendOutcome} → y ≡ z → v ≡ sender y w
        → own ≡ part_of y v area → h ≡ header_of journal
        → r ≡ record_at journal w → left ≡ send_at_node z own h r v w e space → left ≡ send z area journal w e space
    sent_on layout node cells header pair q = q ∙ rw (cells, node, header, pair, layout) handed_on
