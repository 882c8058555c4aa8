-- What each step of a stripe leaves of its record as it was, and that a record which passes its test still does after it. Assumes nothing.
use mathlib.Core.Path.{◌≡◌, refl, sym, ◌∙◌, subst}
use mathlib.Core.Bool.{true}
use Prim.Native.Nat.{ℕ, ◌<◌}
use native.Mathlib.Decide.{ℕ_discrete}
use native.Mathlib.Omega.{arith}
use Rattle.layout.specs.declared.Shape.{Shape}
use Rattle.layout.specs.Ranges.{InRanges}
use Rattle.layout.specs.Counts.{transfers}
use Rattle.layout.proofs.Bounds.{transfers_le}
use Rattle.wire.specs.Words.{bit}
use Rattle.records.specs.declared.StripeRecord.{StripeRecord}
use Rattle.records.specs.Records.{is_accepted, is_receipted, is_computed, is_released, set_bit, accept, receipt, compute, release}
use Rattle.records.proofs.MarkLaws.{set_same, set_other, set_again}
use Rattle.records.proofs.StepLaws.{compute_released, release_computed, steps_hold}
use Rattle.growth.proofs.WholeParts.{RecordParts}

-- ---- a mark that is set stays so, and another is set only if it was

set_kept : (x e f : ℕ) → bit x f ≡ true → bit (set_bit x e) f ≡ true
set_kept x e f h = go (ℕ_discrete e f)
  where
    go : Dec (e ≡ f) → bit (set_bit x e) f ≡ true
    go (yes q) = subst (λ (i : ℕ). bit (set_bit x e) i ≡ true) q (set_same x e)
    go (no d) = set_other x e f d ∙ h

-- ---- what a step leaves

module _ (r : StripeRecord) where
  pub compute_accepted : (e : ℕ) → is_accepted (compute r) e ≡ is_accepted r e
  unfolding is_accepted compute
  compute_accepted e = refl

  pub compute_receipted : (e : ℕ) → e < 26 → is_receipted (compute r) e ≡ is_receipted r e
  unfolding is_receipted compute
  compute_receipted e l = set_other r.progress 26 e (λ q. omega arith)

  pub accept_receipted : (e f : ℕ) → is_receipted (accept r e) f ≡ is_receipted r f
  unfolding is_receipted accept
  accept_receipted e f = refl

  pub accept_computed : (e : ℕ) → is_computed (accept r e) ≡ is_computed r
  unfolding is_computed accept
  accept_computed e = refl

  pub accept_released : (e : ℕ) → is_released (accept r e) ≡ is_released r
  unfolding is_released accept
  accept_released e = refl

  pub accept_kept : (e f : ℕ) → is_accepted r f ≡ true → is_accepted (accept r e) f ≡ true
  unfolding is_accepted accept
  accept_kept e f h = set_kept r.accepted e f h

  pub receipt_accepted : (e f : ℕ) → is_accepted (receipt r e) f ≡ is_accepted r f
  unfolding is_accepted receipt
  receipt_accepted e f = refl

  pub receipt_other : (e f : ℕ) → (e ≡ f → ⊥) → is_receipted (receipt r e) f ≡ is_receipted r f
  unfolding is_receipted receipt
  receipt_other e f d = set_other r.progress e f d

  pub receipt_kept : (e f : ℕ) → is_receipted r f ≡ true → is_receipted (receipt r e) f ≡ true
  unfolding is_receipted receipt
  receipt_kept e f h = set_kept r.progress e f h

  pub receipt_computed : (e : ℕ) → e < 26 → is_computed (receipt r e) ≡ is_computed r
  unfolding is_computed receipt
  receipt_computed e l = set_other r.progress e 26 (λ q. omega arith)

  pub receipt_released : (e : ℕ) → e < 26 → is_released (receipt r e) ≡ is_released r
  unfolding is_released receipt
  receipt_released e l = set_other r.progress e 27 (λ q. omega arith)

  pub release_accepted : (e : ℕ) → is_accepted (release r) e ≡ is_accepted r e
  unfolding is_accepted release
  release_accepted e = refl

  pub release_receipted : (e : ℕ) → e < 26 → is_receipted (release r) e ≡ is_receipted r e
  unfolding is_receipted release
  release_receipted e l = set_other r.progress 27 e (λ q. omega arith)

-- ---- a step that was taken before changes nothing

module _ (r : StripeRecord) where
  pub compute_again : is_computed r ≡ true → compute r ≡ r
  unfolding is_computed compute
  compute_again h = rw (set_again r.progress 26 h)

  pub accept_again : (e : ℕ) → is_accepted r e ≡ true → accept r e ≡ r
  unfolding is_accepted accept
  accept_again e h = rw (set_again r.accepted e h)

  pub receipt_again : (e : ℕ) → is_receipted r e ≡ true → receipt r e ≡ r
  unfolding is_receipted receipt
  receipt_again e h = rw (set_again r.progress e h)

  pub release_again : is_released r ≡ true → release r ≡ r
  unfolding is_released release
  release_again h = rw (set_again r.progress 27 h)

-- ---- the test of the record

module _ (z : Shape) (ok : InRanges z) (r : StripeRecord) (p : RecordParts z r) where
  below_26 : (e : ℕ) → e < transfers z → e < 26
  below_26 e l = omega (arith, transfers_le z ok)

  pub compute_parts : RecordParts z (compute r)
  compute_parts = record {
    accepted_word_law = unfold compute in p.accepted_word_law;
    progress_word_law = (steps_hold z ok r).compute_ok p.progress_word_law;
    receipted_accepted = λ e l h. compute_accepted r e ∙ p.receipted_accepted e l (sym (compute_receipted r e (below_26 e l)) ∙ h);
    accepted_computed = λ e l h. (steps_hold z ok r).computes;
    released_receipted = λ h e l. compute_receipted r e (below_26 e l) ∙ p.released_receipted (sym (compute_released r) ∙ h) e l;
  }

  -- only a computed stripe accepts
  pub accept_parts : (e : ℕ) → e < transfers z → is_computed r ≡ true → RecordParts z (accept r e)
  accept_parts e m c = record {
    accepted_word_law = (steps_hold z ok r).accepted_ok_law e m p.accepted_word_law;
    progress_word_law = unfold accept in p.progress_word_law;
    receipted_accepted = λ f l h. accept_kept r e f (p.receipted_accepted f l (sym (accept_receipted r e f) ∙ h));
    accepted_computed = λ f l h. accept_computed r e ∙ c;
    released_receipted = λ h f l. accept_receipted r e f ∙ p.released_receipted (sym (accept_released r e) ∙ h) f l;
  }

  -- only what is accepted is receipted
  pub receipt_parts : (e : ℕ) → e < transfers z → is_accepted r e ≡ true → RecordParts z (receipt r e)
  receipt_parts e m a = record {
    accepted_word_law = unfold receipt in p.accepted_word_law;
    progress_word_law = (steps_hold z ok r).receipt_ok e m p.progress_word_law;
    receipted_accepted = λ f l h. receipt_accepted r e f ∙ within f l h (ℕ_discrete e f);
    accepted_computed = λ f l h. receipt_computed r e (below_26 e m) ∙ p.accepted_computed f l (sym (receipt_accepted r e f) ∙ h);
    released_receipted = λ h f l. receipt_kept r e f (p.released_receipted (sym (receipt_released r e (below_26 e m)) ∙ h) f l);
  }
    where
      within : (f : ℕ) → f < transfers z → is_receipted (receipt r e) f ≡ true → Dec (e ≡ f) → is_accepted r f ≡ true
      within f l h (yes q) = subst (λ (i : ℕ). is_accepted r i ≡ true) q a
      within f l h (no d) = p.receipted_accepted f l (sym (receipt_other r e f d) ∙ h)

  -- only a stripe with every transfer receipted is released
  pub release_parts : ((e : ℕ) → e < transfers z → is_receipted r e ≡ true) → RecordParts z (release r)
  release_parts every_one = record {
    accepted_word_law = unfold release in p.accepted_word_law;
    progress_word_law = (steps_hold z ok r).release_ok p.progress_word_law;
    receipted_accepted = λ e l h. release_accepted r e ∙ p.receipted_accepted e l (every_one e l);
    accepted_computed = λ e l h. release_computed r ∙ p.accepted_computed e l (sym (release_accepted r e) ∙ h);
    released_receipted = λ h e l. release_receipted r e (below_26 e l) ∙ every_one e l;
  }
