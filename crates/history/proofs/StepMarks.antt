-- A call that changes one stripe's record: which marks of the journal stay, and which one it sets. Assumes nothing.
use mathlib.Core.Path.{◌≡◌, refl, sym, ◌∙◌}
use mathlib.Core.Bool.{Bool, true, false, ◌&&◌, and-false}
use mathlib.Core.List.{List}
use mathlib.Core.Logic.{◌≢◌}
use Prim.Native.Nat.{ℕ, ◌<◌}
use native.Mathlib.Decide.{ℕ_discrete}
use lib.Dec.{ltb}
use borrow.Author.Tests.{lt-ltb, ltb-true}
use Rattle.base.specs.Tests.{if, same, same2}
use Rattle.base.proofs.Tests.{and_same, same_refl, same2_refl, not_same, not_same2_left, not_same2_right}
use Rattle.layout.specs.declared.Shape.{Shape}
use Rattle.layout.specs.Counts.{kept, transfers}
use Rattle.records.specs.declared.StripeRecord.{StripeRecord}
use Rattle.journal.specs.Journal.{record_at}
use Rattle.growth.proofs.CallJournals.{JournalStep}

-- a mark of stripe v, and one of its transfer i, as they are seen: those of no stripe and of no transfer are not set
module _ (z : Shape) where
  abbrev pub flag_seen : ℕ → Bool → Bool
  flag_seen v a = ltb v (kept z) && a

  abbrev pub mark_seen : ℕ → ℕ → Bool → Bool
  mark_seen v i a = ltb v (kept z) && (ltb i (transfers z) && a)

  -- only marks in range are seen
  mark_same : (v i : ℕ) (a b : Bool) → (v < kept z → i < transfers z → a ≡ b) → mark_seen v i a ≡ mark_seen v i b
  mark_same v i a b h =
      and_same (ltb v (kept z)) _ _ (λ p. and_same (ltb i (transfers z)) a b (λ q. h (ltb-true v (kept z) p) (ltb-true i (transfers z) q)))

  pub flag_none : (v : ℕ) (a : Bool) → (v < kept z → a ≡ false) → flag_seen v a ≡ false
  flag_none v a h = and_same (ltb v (kept z)) a false (λ p. h (ltb-true v (kept z) p)) ∙ and-false (ltb v (kept z))

  pub mark_none : (v i : ℕ) (a : Bool) → (v < kept z → i < transfers z → a ≡ false) → mark_seen v i a ≡ false
  mark_none v i a h = mark_same v i a false h ∙ rw (and-false (ltb i (transfers z))) (and-false (ltb v (kept z)))

  module _ {journal : List ℕ} {w : ℕ} {r : StripeRecord} {count : ℕ} {after : List ℕ} (s : JournalStep z journal w r count after) where
    -- what holds of the new record and of each other old one holds of each
    pub each : (P : ℕ → StripeRecord → Type 0) → P w r → ((v : ℕ) → v ≢ w → P v (record_at journal v)) → (v : ℕ) → P v (record_at after v)
    each P new old v = go (ℕ_discrete v w)
      where
        go : Dec (v ≡ w) → P v (record_at after v)
        go (yes q) = rw (q, s.own) new
        go (no d) = rw (s.other v d) (old v d)

    -- ---- what the new record has as the old one had it

    pub flag_kept : (f : StripeRecord → Bool) → f r ≡ f (record_at journal w) → (v : ℕ) → f (record_at after v) ≡ f (record_at journal v)
    flag_kept f h = each (λ v q. f q ≡ f (record_at journal v)) h (λ v d. refl)

    pub mark_kept : (f : StripeRecord → ℕ → Bool) → ((i : ℕ) → i < transfers z → f r i ≡ f (record_at journal w) i)
        → (v i : ℕ) → i < transfers z → f (record_at after v) i ≡ f (record_at journal v) i
    mark_kept f h v i m = each (λ u q. f q i ≡ f (record_at journal u) i) (h i m) (λ u d. refl) v

    pub flag_stays : (f : StripeRecord → Bool) → f r ≡ f (record_at journal w)
        → (v : ℕ) → flag_seen v (f (record_at after v)) ≡ flag_seen v (f (record_at journal v))
    flag_stays f h v = rw (flag_kept f h v)

    pub mark_stays : (f : StripeRecord → ℕ → Bool) → ((i : ℕ) → i < transfers z → f r i ≡ f (record_at journal w) i)
        → (v i : ℕ) → mark_seen v i (f (record_at after v) i) ≡ mark_seen v i (f (record_at journal v) i)
    mark_stays f h v i = mark_same v i _ _ (λ l m. mark_kept f h v i m)

    -- ---- one mark set

    pub flag_set : w < kept z → (f : StripeRecord → Bool) → f r ≡ true
        → (v : ℕ) → flag_seen v (f (record_at after v)) ≡ if (same v w) true (flag_seen v (f (record_at journal v)))
    flag_set l f h = each (λ v q. flag_seen v (f q) ≡ if (same v w) true (flag_seen v (f (record_at journal v))))
        (rw (same_refl w, lt-ltb w (kept z) l, h))
        (λ v d. rw (not_same v w d))

    pub mark_set : w < kept z → (f : StripeRecord → ℕ → Bool) (e : ℕ) → e < transfers z → f r e ≡ true
        → ((i : ℕ) → e ≢ i → f r i ≡ f (record_at journal w) i)
        → (v i : ℕ) → mark_seen v i (f (record_at after v) i) ≡ if (same2 v w i e) true (mark_seen v i (f (record_at journal v) i))
    mark_set l f e m h other v i = each (λ u q. mark_seen u i (f q i) ≡ if (same2 u w i e) true (mark_seen u i (f (record_at journal u) i)))
        (own (ℕ_discrete e i))
        (λ u d. rw (not_same2_left u w i e d))
        v
      where
        own : Dec (e ≡ i) → mark_seen w i (f r i) ≡ if (same2 w w i e) true (mark_seen w i (f (record_at journal w) i))
        own (yes q) = rw (← q, same2_refl w e, lt-ltb w (kept z) l, lt-ltb e (transfers z) m, h)
        own (no d) = rw (not_same2_right w w i e (λ q. d (sym q)), other i d)
