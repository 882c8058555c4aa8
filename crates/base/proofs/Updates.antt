-- Laws of updates. Assumes nothing.
use mathlib.Core.Path.{◌≡◌, refl}
use mathlib.Core.Bool.{Bool, true, false}
use mathlib.Core.Logic.{◌⊎◌, inl, inr}
use Prim.Native.Nat.{ℕ}
use Rattle.base.specs.Tests.{if, same, same2}
use Rattle.base.specs.Updates.{update, update2}
use Rattle.base.proofs.Tests.{same_refl, same_eq, same2_refl, same2_left, same2_right}

-- a statement that the test of an update decides
pub at : (x w : ℕ) (Q : Bool → Type 0) → (x ≡ w → Q true) → Q false → Q (same x w)
at x w Q p q = go (same x w) refl
  where
    go : (b : Bool) → same x w ≡ b → Q b
    go true e = p (same_eq x w e)
    go false e = q

pub at2 : (x w y e : ℕ) (Q : Bool → Type 0) → (x ≡ w → y ≡ e → Q true) → Q false → Q (same2 x w y e)
at2 x w y e Q p q = go (same2 x w y e) refl
  where
    go : (b : Bool) → same2 x w y e ≡ b → Q b
    go true h = p (same2_left x w y e h) (same2_right x w y e h)
    go false h = q

-- a mark is set: it holds there, it holds where it held, and nowhere else
pub mark_here : (f : ℕ → Bool) (w : ℕ) → update f w true w ≡ true
mark_here f w = rw (same_refl w)

pub mark_kept : (f : ℕ → Bool) (w x : ℕ) → f x ≡ true → update f w true x ≡ true
mark_kept f w x h = elim (same x w) as (λ b. if b true (f x) ≡ true) [ true ↦ refl | false ↦ h ]

pub mark_only : (f : ℕ → Bool) (w x : ℕ) → update f w true x ≡ true → (x ≡ w) ⊎ (f x ≡ true)
mark_only f w x h = go (same x w) refl h
  where
    go : (b : Bool) → same x w ≡ b → if b true (f x) ≡ true → (x ≡ w) ⊎ (f x ≡ true)
    go true e k = inl (same_eq x w e)
    go false e k = inr k

pub mark2_here : (f : ℕ → ℕ → Bool) (w e : ℕ) → update2 f w e true w e ≡ true
mark2_here f w e = rw (same2_refl w e)

pub mark2_kept : (f : ℕ → ℕ → Bool) (w e x y : ℕ) → f x y ≡ true → update2 f w e true x y ≡ true
mark2_kept f w e x y h = elim (same2 x w y e) as (λ b. if b true (f x y) ≡ true) [ true ↦ refl | false ↦ h ]

pub mark2_only : (f : ℕ → ℕ → Bool) (w e x y : ℕ) → update2 f w e true x y ≡ true → ((x ≡ w) × (y ≡ e)) ⊎ (f x y ≡ true)
mark2_only f w e x y h = go (same2 x w y e) refl h
  where
    go : (b : Bool) → same2 x w y e ≡ b → if b true (f x y) ≡ true → ((x ≡ w) × (y ≡ e)) ⊎ (f x y ≡ true)
    go true q k = inl (same2_left x w y e q, same2_right x w y e q)
    go false q k = inr k
