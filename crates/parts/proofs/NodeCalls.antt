-- A call that a stripe's sender makes on its part: what each answer leaves there, and the call over area and journal. Assumes nothing.
use mathlib.Core.Path.{◌≡◌, refl, sym, ap, ◌∙◌}
use mathlib.Core.Bool.{Bool, true, false}
use mathlib.Core.List.{List}
use Prim.Native.Nat.{ℕ, ◌*◌, ◌<◌}
use lib.ListN.{length}
use Rattle.base.specs.Refusals.{or_else}
use Rattle.base.proofs.Refusals.{or_else_pass}
use Rattle.answer.specs.declared.Refusal.{Refusal}
use Rattle.answer.specs.Numbers as Numbers
use Rattle.answer.specs.Answers.{Answer, refused, already, done, answer_for, is_refused, on_done}
use Rattle.answer.proofs.Answers.{answered_refuses, answered_repeats, answered_acts, answered_done, done_cases, done_both}
use Rattle.answer.proofs.Exits as Exits
use Rattle.answer.proofs.Exits.{number_some}
use Rattle.layout.specs.declared.Shape.{Shape}
use Rattle.layout.specs.Ranges.{InRanges}
use Rattle.layout.specs.Counts.{kept, stripes}
use Rattle.layout.specs.Transfers.{sender}
use Rattle.layout.proofs.SourceLaws.{source_node_lt}
use Rattle.records.specs.declared.StripeRecord.{StripeRecord}
use Rattle.journal.specs.declared.headers.JournalHeader.{JournalHeader}
use Rattle.journal.specs.Journal.{record_at, put_record}
use Rattle.growth.specs.Shared.{Outcome}
use Rattle.lent.specs.Checks.{store_refusal, sender_refusal, stripe_refusal}
use Rattle.lent.proofs.StoreLaws.{StoreLent, store_lent, sender_lent, sender_passes, stripe_lent}
use Rattle.lent.proofs.WhenDone.{on_done_once}
use Rattle.parts.specs.Own.{part_of, with_part}
use Rattle.parts.specs.AtNode.{NodeOutcome, outcome_at_node, at_node}
use Rattle.parts.proofs.Parts.{length_old}
use Rattle.parts.proofs.HandedOn.{part_on_done}

-- ---- at the node

module _ (number : ℕ) (marked : Bool) (own new : List ℕ) (r next : StripeRecord) where
  pub done_number : {a : Answer} {o : List ℕ} {p : StripeRecord}
      → ◌≡◌ {A = NodeOutcome} (record { answer = a; own = o; stripe = p }) (outcome_at_node number marked own new r next)
      → a ≡ done → number ≡ 0
  unfolding outcome_at_node
  done_number q d = (answered_done number marked (sym (ap (λ x. x.answer) q) ∙ d)).0

  left : (a : Answer) → answer_for number marked ≡ a
      → ◌≡◌ {A = NodeOutcome} (record { answer = a; own = on_done a new own; stripe = on_done a next r })
      (outcome_at_node number marked own new r next)
  unfolding outcome_at_node
  left a e = rw e

  pub refuses_by_number : (x : ℕ) → x ≡ number → (x ≡ 0 → ⊥)
      → ◌≡◌ {A = NodeOutcome} (record { answer = refused x; own = own; stripe = r }) (outcome_at_node number marked own new r next)
  refuses_by_number x e h = left (refused x) (ap (λ n. answer_for n marked) (sym e) ∙ answered_refuses x marked h)

  pub refuses : (x : Refusal) → Numbers.number x ≡ number
      → ◌≡◌ {A = NodeOutcome} (record { answer = refused (Numbers.number x); own = own; stripe = r })
      (outcome_at_node number marked own new r next)
  refuses x e = refuses_by_number (Numbers.number x) e (number_some x)

  pub repeats : 0 ≡ number → marked ≡ true → ◌≡◌ {A = NodeOutcome} (record { answer = already; own = own; stripe = r })
      (outcome_at_node number marked own new r next)
  repeats e m = left already (answered_repeats number marked (sym e) m)

  pub acts : 0 ≡ number → marked ≡ false → {o : List ℕ} {p : StripeRecord} → o ≡ new → p ≡ next
      → ◌≡◌ {A = NodeOutcome} (record { answer = done; own = o; stripe = p }) (outcome_at_node number marked own new r next)
  acts e m eo ep = rw (eo, ep) (left done (answered_acts number marked (sym e) m))

  pub another_refused : (number ≡ 0 → ⊥) → is_refused (outcome_at_node number marked own new r next).answer ≡ true
  unfolding outcome_at_node
  another_refused h = ap is_refused (answered_refuses number marked h)

-- of the record only the touched word counts; the other one comes back as it was
pub same_word : (number : ℕ) (marked : Bool) (own new : List ℕ) (x y word next : ℕ)
    → let a = outcome_at_node number marked own new (record { accepted = x; progress = word }) (record { accepted = x; progress = next }) in
    let b = outcome_at_node number marked own new (record { accepted = y; progress = word }) (record { accepted = y; progress = next }) in
    (a.answer ≡ b.answer) × (a.own ≡ b.own) × (a.stripe.progress ≡ b.stripe.progress) × (a.stripe.accepted ≡ x)
unfolding outcome_at_node
same_word number marked own new x y word next =
    let a = answer_for number marked in
    let p : ℕ → ℕ → StripeRecord = λ z v. record { accepted = z; progress = v } in (
      refl,
      refl,
      done_both (λ (m n : StripeRecord). m.progress ≡ n.progress) a a (p x next) (p x word) (p y next) (p y word) refl (λ d. refl) refl,
      done_cases (λ (m : StripeRecord). m.accepted ≡ x) a (p x next) (p x word) (λ d. refl) refl,
    )

-- what nothing refuses of a stripe's sender
pub record OwnAllowed (z : Shape) (ownBytes node w : ℕ) : Type 0 where
  pub ok : InRanges z
  pub own_long : ownBytes ≡ stripes z * z.b
  pub stripe : w < kept z
  pub its_own : node ≡ sender z w

pub own_allowed : (z : Shape) (ownBytes : ℕ) (h : JournalHeader) (word node w : ℕ) → sender_refusal z ownBytes ≡ 0
    → stripe_refusal z h word node w ≡ 0 → OwnAllowed z ownBytes node w
own_allowed z ownBytes h word node w p q =
    let l = sender_lent z ownBytes p in
    let s = stripe_lent z h word node w q in
    record { ok = l.ok; own_long = l.own_long; stripe = s.stripe; its_own = s.its_own }

-- ---- over area and journal

-- by the call's number and mark; a done call makes area and journal new
unfoldable pub as_called : (number : ℕ) (marked : Bool) (area newArea journal newJournal : List ℕ) → Outcome
as_called number marked area newArea journal newJournal =
    let a = answer_for number marked in
    record { answer = a; area = on_done a newArea area; journal = on_done a newJournal journal }

pub stops_by_number : (number : ℕ) (marked : Bool) (area newArea journal newJournal : List ℕ) (x : ℕ) → x ≡ number → (x ≡ 0 → ⊥)
    → ◌≡◌ {A = Outcome} (record { answer = refused x; area = area; journal = journal })
    (as_called number marked area newArea journal newJournal)
unfolding as_called
stops_by_number number marked area newArea journal newJournal x e h =
    let q = ap (λ n. answer_for n marked) (sym e) ∙ answered_refuses x marked h in rw q

-- what a check of the shape and the lengths that passed tells of the layout that it answered
pub lent_layout : {y z : Shape} {area_bytes journalWords : ℕ} → y ≡ z → 0 ≡ store_refusal z area_bytes journalWords
    → StoreLent y area_bytes journalWords
lent_layout {y} {z} layout e = rw layout (store_lent z _ _ (sym e))

module _ (z : Shape) (w : ℕ) (area journal : List ℕ) where
  -- the node's number is the call's, where the shape and the lengths are right
  pub same_number : store_refusal z (length area) (length journal) ≡ 0 → (later : ℕ)
      → or_else (sender_refusal z (length (part_of z (sender z w) area))) later
      ≡ or_else (store_refusal z (length area) (length journal)) later
  unfolding sender
  same_number lent later =
      let has = store_lent z (length area) (length journal) lent in
      or_else_pass _ _ (sender_passes z _ has.ok (length_old z (sender z w) (source_node_lt z has.ok w) area has.area_long refl))
      ∙ sym (or_else_pass _ _ lent)

  -- what the node makes new, put back, where its number is the call's
  pub put_back_by_number : (number lentNumber : ℕ) (marked : Bool) (new newArea : List ℕ) (next : StripeRecord) → number ≡ lentNumber
      → (number ≡ 0 → with_part z (sender z w) area new ≡ newArea)
      → at_node z (sender z w) area journal w (λ own h r. outcome_at_node number marked own new r next)
      ≡ as_called lentNumber marked area newArea journal (put_record journal w next)
  unfolding at_node outcome_at_node as_called
  put_back_by_number number lentNumber marked new newArea next same made =
      let a = answer_for number marked in
      let q : answer_for lentNumber marked ≡ a = ap (λ n. answer_for n marked) (sym same) in
      rw (
        q,
        part_on_done z (sender z w) area a new newArea (λ d. made (answered_done number marked d).0),
        on_done_once a (put_record journal w) next (record_at journal w) journal,
      )

  -- a call whose refusals for the shape and the lengths come first, and then those that its node has too
  module _ (number later : ℕ) (in_two : or_else (store_refusal z (length area) (length journal)) later ≡ number) (marked : Bool)
      (newArea : List ℕ) where
    pub stops : (newJournal : List ℕ) (x : Refusal) → Numbers.number x ≡ store_refusal z (length area) (length journal)
        → ◌≡◌ {A = Outcome} (record { answer = refused (Numbers.number x); area = area; journal = journal })
        (as_called number marked area newArea journal newJournal)
    stops newJournal x e =
        stops_by_number number marked area newArea journal newJournal (Numbers.number x) (Exits.stops x _ later e ∙ in_two) (number_some x)

    -- what the node makes new, put back
    pub handed_on : store_refusal z (length area) (length journal) ≡ 0 → (new : List ℕ) (next : StripeRecord)
        → (or_else (sender_refusal z (length (part_of z (sender z w) area))) later ≡ 0 → with_part z (sender z w) area new ≡ newArea)
        → at_node z (sender z w) area journal w
        (λ own h r. outcome_at_node (or_else (sender_refusal z (length (part_of z (sender z w) area))) later) marked own new r next)
        ≡ as_called number marked area newArea journal (put_record journal w next)
    handed_on lent new next made =
        put_back_by_number (or_else (sender_refusal z (length (part_of z (sender z w) area))) later) number marked new newArea next
        (same_number lent later ∙ in_two) made
