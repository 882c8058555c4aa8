-- The answer and the stripe at exit are determined, and a present block is as it was. Assumes nothing.
use mathlib.Core.Path.{◌≡◌, refl, sym, subst, ◌∙◌}
use mathlib.Core.List.{List}
use Prim.Native.Nat.{ℕ, ◌<◌}
use native.Mathlib.Omega.{arith}
use lib.ListN.{length, get_or}
use Rattle.area.specs.Area.{slot}
use Rattle.area.proofs.Slots.{slots_ext}
use Rattle.recovery.specs.RebuildAnswer.{RebuildAnswer}
use Rattle.recovery.specs.Rebuild.{rebuild_refusal, Encodes, One, Two, Rebuilds, refused, rebuilt, several, nothing}
use Rattle.recovery.proofs.Passed.{passed}

-- two encodings of the same data are the same
encodings_same : (m : ℕ → ℕ) (n k b : ℕ) (d x y : List ℕ) → 0 < b → Encodes m n k b d x → Encodes m n k b d y → x ≡ y
encodings_same m n k b d x y b0 p r = slots_ext x y b n b0 p.size r.size (λ c h. p.blocks c h ∙ sym (r.blocks c h))

module _ (m : ℕ → ℕ) (n k b : ℕ) (losses stripe : List ℕ) where
  -- not one set and also two
  one_two : (d : List ℕ) → One m n k b losses stripe d → Two m n k b losses stripe → ⊥
  one_two d o t = t.differ (o.only t.one t.one_agrees ∙ sym (o.only t.other t.other_agrees))

  some_byte : rebuild_refusal n k b (length stripe) losses ≡ 0 → 0 < b
  some_byte e = (passed n k b losses stripe e).some_byte

  pub determined : (a c : RebuildAnswer) (x y : List ℕ) → Rebuilds m n k b losses stripe a x → Rebuilds m n k b losses stripe c y → (a ≡ c)
      × (x ≡ y)
  determined a c x y (refused h) (refused g) = (refl, refl)
  determined a c x y (refused h) (rebuilt e d out o q) = absurd (omega arith)
  determined a c x y (refused h) (several e t) = absurd (omega arith)
  determined a c x y (refused h) (nothing e f) = absurd (omega arith)
  determined a c x y (rebuilt e d out o q) (refused g) = absurd (omega arith)
  determined a c x y (rebuilt e d out o q) (rebuilt e' d' out' o' q') =
      (refl, encodings_same m n k b d' out out' (some_byte e) (subst (λ (l : List ℕ). Encodes m n k b l out) (o'.only d o.agrees) q) q')
  determined a c x y (rebuilt e d out o q) (several e' t) = absurd (one_two d o t)
  determined a c x y (rebuilt e d out o q) (nothing e' f) = absurd (f d o.agrees)
  determined a c x y (several e t) (refused g) = absurd (omega arith)
  determined a c x y (several e t) (rebuilt e' d out o q) = absurd (one_two d o t)
  determined a c x y (several e t) (several e' t') = (refl, refl)
  determined a c x y (several e t) (nothing e' f) = absurd (f t.one t.one_agrees)
  determined a c x y (nothing e f) (refused g) = absurd (omega arith)
  determined a c x y (nothing e f) (rebuilt e' d out o q) = absurd (f d o.agrees)
  determined a c x y (nothing e f) (several e' t) = absurd (f t.one t.one_agrees)
  determined a c x y (nothing e f) (nothing e' f') = (refl, refl)

  pub present_same : (a : RebuildAnswer) (out : List ℕ) → Rebuilds m n k b losses stripe a out → (p : ℕ) → p < n → get_or losses p 0 ≡ 0
      → slot out b p ≡ slot stripe b p
  present_same a out (refused h) p l z = refl
  present_same a out (rebuilt e d x o q) p l z = q.blocks p l ∙ sym (o.agrees.present p l z)
  present_same a out (several e t) p l z = refl
  present_same a out (nothing e f) p l z = refl
