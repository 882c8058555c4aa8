-- The last number other than c that passes a test, as a loop finds it that asks first whether a number is c. Assumes nothing.
use mathlib.Core.Path.{◌≡◌, sym, ◌∙◌}
use mathlib.Core.Bool.{Bool, true, false, not, ◌&&◌}
use Prim.Native.Nat.{ℕ, ◌+◌}
use lib.Dec.{eqb}
use borrow.Author.Tests.{eq-eqb, ne_eqb}
use Rattle.elimination.specs.Matrix.{last_below}
use Rattle.elimination.proofs.LastLaws.{last_more, last_skip}

-- p is not c and passes
abbrev pub other_than : ℕ → (ℕ → Bool) → ℕ → Bool
other_than c f p = not (eqb p c) && f p

module _ (c : ℕ) (f : ℕ → Bool) (p : ℕ) where
  -- a turn at another number that passes, at one that does not, and at c
  pub other_more : {t : Bool} → (p ≡ c → ⊥) → t ≡ f p → t ≡ true → p + 1 ≡ last_below (other_than c f) (p + 1)
  other_more {t} d e h = last_more (other_than c f) p (rw (ne_eqb p c d) (sym e ∙ h))

  pub other_skip : {t : Bool} {q : ℕ} → (p ≡ c → ⊥) → t ≡ f p → t ≡ false → q ≡ last_below (other_than c f) p
      → q ≡ last_below (other_than c f) (p + 1)
  other_skip {t} {q} d e h l = last_skip (other_than c f) p (rw (ne_eqb p c d) (sym e ∙ h)) l

  pub own_skip : {q : ℕ} → p ≡ c → q ≡ last_below (other_than c f) p → q ≡ last_below (other_than c f) (p + 1)
  own_skip {q} e l = last_skip (other_than c f) p (rw (eq-eqb p c e)) l
