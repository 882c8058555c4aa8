-- Laws of the last number below a bound that passes a test, as a loop over the numbers finds it. Assumes nothing.
use mathlib.Core.Path.{◌≡◌, refl}
use mathlib.Core.Bool.{Bool, true, false}
use Prim.Native.Nat.{ℕ, zero, suc, ◌+◌, ◌≤◌}
use native.Mathlib.Nat.{le_antisymm}
use native.Mathlib.Numerals.{add-one}
use native.Mathlib.Omega.{arith}
use Rattle.base.specs.Tests.{if}
use Rattle.elimination.specs.Matrix.{last_below}

module _ (f : ℕ → Bool) where
  -- the loop's start
  pub last_none : 0 ≡ last_below f 0
  unfolding last_below
  last_none = refl

  -- a turn at a number that passes, and at one that does not
  pub last_more : (n : ℕ) → f n ≡ true → n + 1 ≡ last_below f (n + 1)
  unfolding last_below
  last_more n e = rw (add-one, e)

  pub last_skip : (n : ℕ) {q : ℕ} → f n ≡ false → q ≡ last_below f n → q ≡ last_below f (n + 1)
  unfolding last_below
  last_skip n {q} e h = rw (add-one, e) h

  -- the loop's end
  pub last_end : (n : ℕ) {m q : ℕ} → q ≡ last_below f n → n ≤ m → m ≤ n → q ≡ last_below f m
  last_end n {m} {q} h l u = rw (le_antisymm l u) at h

  -- it is counted from 1, and below the bound
  pub last_le : (n : ℕ) → last_below f n ≤ n
  unfolding last_below
  last_le zero = omega arith
  last_le (suc n) = elim (f n) as (λ b. if b (suc n) (last_below f n) ≤ suc n) [ true ↦ omega arith | false ↦ omega (arith, last_le n) ]
