-- The refusals of send in parts: shape and lengths, the space's length, the stripe's, and the last three. Assumes nothing.
use mathlib.Core.Path.{◌≡◌, refl, sym, ◌∙◌}
use mathlib.Core.Bool.{true, false}
use mathlib.Core.List.{◌∷◌, ◌++◌}
use Prim.Native.Nat.{ℕ, ◌≤◌, ◌<◌}
use borrow.Author.Tests.{lt-ltb, le-ltb, eq-eqb, ne_eqb}
use Rattle.base.specs.Refusals.{first, or_else}
use Rattle.base.proofs.Refusals.{or_else_pass, first_then, in_parts}
use Rattle.answer.specs.declared.Refusal.{Refusal}
use Rattle.answer.specs.Numbers.{number}
use Rattle.answer.proofs.Exits.{stops}
use Rattle.layout.specs.declared.Shape.{Shape}
use Rattle.layout.specs.Ranges.{shape_refusal}
use Rattle.layout.specs.Counts.{transfers}
use Rattle.layout.specs.Transfers.{sender}
use Rattle.records.specs.Records.{computed_in, released_in}
use Rattle.journal.specs.declared.headers.JournalHeader.{JournalHeader}
use Rattle.journal.specs.States.{ended_refusal}
use Rattle.growth.specs.Shared.{wrong_length, store_refusals, kept_refusals}
use Rattle.growth.specs.Send.{message_length, send_refusal, transfer_refusals}
use Rattle.lent.specs.Checks.{store_refusal, sender_refusal, stripe_refusals, stripe_refusal}
use Rattle.send.specs.Own.{later_refusals, own_refusal}

pub send_parts : (z : Shape) (area_bytes journalWords spaceBytes : ℕ) (h : JournalHeader) (word w e : ℕ)
    → or_else (store_refusal z area_bytes journalWords) (first (later_refusals z spaceBytes h word (sender z w) w e))
    ≡ send_refusal z area_bytes journalWords spaceBytes h word w e
unfolding send_refusal store_refusal
send_parts z area_bytes journalWords spaceBytes h word w e =
    rw (eq-eqb (sender z w) (sender z w) refl)
    (in_parts (shape_refusal z) (store_refusals z area_bytes journalWords)
    (wrong_length spaceBytes (message_length z) ∷ (kept_refusals z h word w ++ transfer_refusals z word e)) (tt, (tt, tt)))

-- ---- at the node, past the test of the part's length, which answered the layout y

module _ {y z : Shape} (ownBytes spaceBytes : ℕ) (h : JournalHeader) (word node w e : ℕ) (layout : y ≡ z)
    (told : 0 ≡ sender_refusal z ownBytes) where
  passed : first (later_refusals z spaceBytes h word node w e) ≡ own_refusal z ownBytes spaceBytes h word node w e
  unfolding own_refusal
  passed = sym (or_else_pass _ _ (sym told))

  pub stops_at_space : (spaceBytes ≡ message_length z → ⊥) → 3 ≡ own_refusal z ownBytes spaceBytes h word node w e
  stops_at_space other = rw (ne_eqb spaceBytes (message_length z) other) at passed

  module _ (long : spaceBytes ≡ message_length z) where
    in_two : or_else (stripe_refusal z h word node w) (first (transfer_refusals z word e))
        ≡ own_refusal z ownBytes spaceBytes h word node w e
    unfolding stripe_refusal ended_refusal
    in_two = first_then (stripe_refusals z h word node w) (transfer_refusals z word e) (tt, (tt, (tt, (tt, (tt, tt)))))
        ∙ (rw (eq-eqb spaceBytes (message_length z) long) at passed)

    pub stops_at_stripe : (x : Refusal) → number x ≡ stripe_refusal y h word node w
        → number x ≡ own_refusal z ownBytes spaceBytes h word node w e
    stops_at_stripe x q = let here : number x ≡ stripe_refusal z h word node w = rw (← layout) q in stops x _ _ here ∙ in_two

    pub goes_on_law : 0 ≡ stripe_refusal y h word node w → {number : ℕ} → number ≡ first (transfer_refusals z word e)
        → number ≡ own_refusal z ownBytes spaceBytes h word node w e
    goes_on_law nothing q =
        let none : stripe_refusal z h word node w ≡ 0 = rw (← layout) (sym nothing) in
        q ∙ sym (or_else_pass (stripe_refusal z h word node w) (first (transfer_refusals z word e)) none) ∙ in_two

-- ---- the last three

module _ (z : Shape) (word e : ℕ) where
  pub late_transfer : transfers z ≤ e → 5 ≡ first (transfer_refusals z word e)
  late_transfer l = rw (le-ltb e (transfers z) l)

  module _ (there : e < transfers z) where
    pub not_computed : computed_in word ≡ false → 6 ≡ first (transfer_refusals z word e)
    not_computed c = rw (lt-ltb e (transfers z) there, c)

    module _ (computed : computed_in word ≡ true) where
      pub was_released : released_in word ≡ true → 7 ≡ first (transfer_refusals z word e)
      was_released r = rw (lt-ltb e (transfers z) there, computed, r)

      pub none_left : released_in word ≡ false → 0 ≡ first (transfer_refusals z word e)
      none_left r = rw (lt-ltb e (transfers z) there, computed, r)
