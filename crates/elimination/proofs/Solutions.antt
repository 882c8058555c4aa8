-- What a reduced matrix says of the solutions that have given values at the known places. Assumes nothing.
use mathlib.Core.Path.{◌≡◌, refl, sym, ap, ap₂, ◌∙◌}
use mathlib.Core.List.{List}
use mathlib.Core.Bool.{Bool, true}
use mathlib.Core.Logic.{inl, inr}
use Prim.Native.Nat.{ℕ, zero, suc, ◌-◌, ◌<◌, ◌≤◌}
use native.Mathlib.Decide.{ℕ_discrete}
use native.Mathlib.Omega.{arith}
use lib.Bits.{bit_xor, xor_zero_r, xor_self}
use lib.Dec.{ltb}
use borrow.Author.Tests.{lt-ltb, le-ltb}
use Rattle.base.specs.Tests.{if}
use Rattle.base.proofs.Choice.{if_true, if_false}
use Rattle.gf256.specs.Field.{◌⊕◌, mul, Bytes}
use Rattle.gf256.proofs.Product.{mul_zero_r, mul_zero_l, mul_one_l}
use Rattle.gf256.proofs.Sums.{xor_sum_same, xor_sum_zero}
use Rattle.elimination.specs.Matrix.{entry, weighted, pivot_of}
use Rattle.elimination.proofs.RowLaws.{ByteList, Solves, bump, entry_lt, weighted_lt, bump_at, bump_off, bump_lt, weighted_bump}
use Rattle.elimination.proofs.Pivots.{PivotCases, None, IsLast, pivot_cases, pivot_none, pivot_last}
use Rattle.elimination.proofs.Reduced.{UnitColumn, Clean, CleanBelow}

-- no value
abbrev pub no_value : ℕ → ℕ
no_value p = 0

pub weighted_zero : (n : ℕ) (u : ℕ → ℕ) → weighted n u no_value ≡ 0
unfolding weighted
weighted_zero n u = xor_sum_same n (λ p. mul (u p) 0) no_value (λ p h. mul_zero_r (u p)) ∙ xor_sum_zero n

-- the values with what row i lacks added at its pivot
unfoldable pub fix_step : (ℕ → Bool) → ℕ → ℕ → List ℕ → ℕ → (ℕ → ℕ) → (ℕ → ℕ)
fix_step unknown k n w i y = if (ltb 0 (pivot_of unknown k w i)) (bump y (pivot_of unknown k w i - 1) (weighted n (entry w i) y)) y

-- the same for the rows below i, one after the other
unfoldable pub fix_rows : (ℕ → Bool) → ℕ → ℕ → List ℕ → ℕ → (ℕ → ℕ) → (ℕ → ℕ)
fix_rows unknown k n w zero y = y
fix_rows unknown k n w (suc i) y = fix_step unknown k n w i (fix_rows unknown k n w i y)

-- p is the pivot of no row below i
abbrev pub Free : (ℕ → Bool) → ℕ → List ℕ → ℕ → ℕ → Type 0
Free unknown k w i p = (j : ℕ) → j < i → pivot_of unknown k w j ≡ suc p → ⊥

-- z has the values y at the places that are known
abbrev pub Known : (ℕ → Bool) → ℕ → ℕ → (ℕ → ℕ) → (ℕ → ℕ) → Type 0
Known unknown k n y z = (p : ℕ) → p < n → ((p < k) → (unknown p ≡ true) → ⊥) → z p ≡ y p

module _ (unknown : ℕ → Bool) (k n : ℕ) (w : List ℕ) (kn : k ≤ n) (hw : ByteList w) (clean : CleanBelow unknown k w 4) where
  pub fix_none : (i : ℕ) (y : ℕ → ℕ) → pivot_of unknown k w i ≡ 0 → fix_step unknown k n w i y ≡ y
  unfolding fix_step
  fix_none i y e =
      if_false (ltb 0 (pivot_of unknown k w i)) (bump y (pivot_of unknown k w i - 1) (weighted n (entry w i) y)) y
      (le-ltb 0 (pivot_of unknown k w i) (omega arith))

  pub fix_some : (i p : ℕ) (y : ℕ → ℕ) → pivot_of unknown k w i ≡ suc p → fix_step unknown k n w i y ≡ bump y p (weighted n (entry w i) y)
  unfolding fix_step
  fix_some i p y e =
      if_true (ltb 0 (pivot_of unknown k w i)) (bump y (pivot_of unknown k w i - 1) (weighted n (entry w i) y)) y
      (lt-ltb 0 (pivot_of unknown k w i) (omega arith))
      ∙ ap (λ (q : ℕ). bump y q (weighted n (entry w i) y)) (let d : pivot_of unknown k w i - 1 ≡ p = omega arith in d)

  pub fix_lt : (i : ℕ) (y : ℕ → ℕ) → i ≤ 4 → Bytes y → Bytes (fix_rows unknown k n w i y)
  unfolding fix_rows
  fix_lt zero y h hy = hy
  fix_lt (suc i) y h hy = go (pivot_cases unknown k w i) (fix_lt i y (omega arith) hy)
    where
      go : PivotCases unknown k w i → Bytes (fix_rows unknown k n w i y) → Bytes (fix_step unknown k n w i (fix_rows unknown k n w i y))
      go (inl (e, z)) r = rw (fix_none i (fix_rows unknown k n w i y) e) r
      go (inr (p, e, l)) r =
          rw (fix_some i p (fix_rows unknown k n w i y) e)
          (bump_lt (fix_rows unknown k n w i y) p (weighted n (entry w i) (fix_rows unknown k n w i y)) r
          (weighted_lt n (entry w i) (fix_rows unknown k n w i y) (entry_lt w hw i)))

  -- a place that is no pivot keeps its value
  pub fix_free : (i : ℕ) (y : ℕ → ℕ) (p : ℕ) → i ≤ 4 → Free unknown k w i p → fix_rows unknown k n w i y p ≡ y p
  unfolding fix_rows
  fix_free zero y p h f = refl
  fix_free (suc i) y p h f = go (pivot_cases unknown k w i) (fix_free i y p (omega arith) (λ j hj. f j (omega arith)))
    where
      go : PivotCases unknown k w i → fix_rows unknown k n w i y p ≡ y p → fix_step unknown k n w i (fix_rows unknown k n w i y) p ≡ y p
      go (inl (e, z)) r = rw (fix_none i (fix_rows unknown k n w i y) e) r
      go (inr (q, e, l)) r =
          rw (fix_some i q (fix_rows unknown k n w i y) e)
          (bump_off (fix_rows unknown k n w i y) q _ p (λ x. f i (omega arith) (e ∙ ap suc (sym x))) ∙ r)

  pub fix_known : (y : ℕ → ℕ) → Known unknown k n y (fix_rows unknown k n w 4 y)
  fix_known y p h d = fix_free 4 y p (omega arith) (λ j hj e. go j hj e (pivot_cases unknown k w j))
    where
      go : (j : ℕ) → j < 4 → pivot_of unknown k w j ≡ suc p → PivotCases unknown k w j → ⊥
      go j hj e (inl (x, z)) = omega arith
      go j hj e (inr (q, x, l)) = let s : q ≡ p = omega arith in d (rw (← s) l.below) (rw (← s) l.is_unknown)

  -- what a clean row's pivot is
  pub at_pivot : (i p : ℕ) → i < 4 → pivot_of unknown k w i ≡ suc p → IsLast unknown k w i p × UnitColumn w i p
  at_pivot i p hi e = go (clean i hi)
    where
      go : Clean unknown k w i → IsLast unknown k w i p × UnitColumn w i p
      go (inl z) = absurd (omega (arith, pivot_none unknown k w i z))
      go (inr (q, l, c)) = let s : q ≡ p = omega (arith, pivot_last unknown k w i q l) in rw (← s) (l, c)

  -- a row's sum after the step at row i: 0 for row i if it has a pivot, the same for the others
  fix_row : (i p : ℕ) (y : ℕ → ℕ) → i < 4 → pivot_of unknown k w i ≡ suc p → weighted n (entry w i) (fix_step unknown k n w i y) ≡ 0
  fix_row i p y hi e =
      let c = at_pivot i p hi e in
      rw (fix_some i p y e)
      (weighted_bump n (entry w i) y p (weighted n (entry w i) y) (omega (arith, c.0.below))
      ∙ ap (λ (x : ℕ). weighted n (entry w i) y ⊕ mul x (weighted n (entry w i) y)) c.1.one
      ∙ ap (λ (x : ℕ). weighted n (entry w i) y ⊕ x) (mul_one_l (weighted n (entry w i) y) (weighted_lt n (entry w i) y (entry_lt w hw i)))
      ∙ xor_self (weighted n (entry w i) y))

  fix_other : (i j : ℕ) (y : ℕ → ℕ) → i < 4 → j < 4 → (j ≡ i → ⊥)
      → weighted n (entry w j) (fix_step unknown k n w i y) ≡ weighted n (entry w j) y
  fix_other i j y hi hj d = go (pivot_cases unknown k w i)
    where
      go : PivotCases unknown k w i → weighted n (entry w j) (fix_step unknown k n w i y) ≡ weighted n (entry w j) y
      go (inl (e, z)) = rw (fix_none i y e)
      go (inr (p, e, l)) =
          let c = at_pivot i p hi e in
          rw (fix_some i p y e)
          (weighted_bump n (entry w j) y p (weighted n (entry w i) y) (omega (arith, l.below))
          ∙ ap (λ (x : ℕ). weighted n (entry w j) y ⊕ mul x (weighted n (entry w i) y)) (c.1.others j hj d)
          ∙ ap (λ (x : ℕ). weighted n (entry w j) y ⊕ x)
          (mul_zero_l (weighted n (entry w i) y) (weighted_lt n (entry w i) y (entry_lt w hw i)))
          ∙ xor_zero_r (weighted n (entry w j) y))

  pub fix_later : (i j : ℕ) (y : ℕ → ℕ) → i ≤ j → j < 4 → weighted n (entry w j) (fix_rows unknown k n w i y) ≡ weighted n (entry w j) y
  unfolding fix_rows
  fix_later zero j y h hj = refl
  fix_later (suc i) j y h hj =
      fix_other i j (fix_rows unknown k n w i y) (omega arith) hj (λ e. omega arith) ∙ fix_later i j y (omega arith) hj

  fix_done : (i j p : ℕ) (y : ℕ → ℕ) → j < i → i ≤ 4 → pivot_of unknown k w j ≡ suc p
      → weighted n (entry w j) (fix_rows unknown k n w i y) ≡ 0
  unfolding fix_rows
  fix_done zero j p y h hi e = absurd (omega arith)
  fix_done (suc i) j p y h hi e = go (ℕ_discrete j i) (λ l. fix_done i j p y l (omega arith) e)
    where
      go : Dec (j ≡ i) → (j < i → weighted n (entry w j) (fix_rows unknown k n w i y) ≡ 0)
          → weighted n (entry w j) (fix_step unknown k n w i (fix_rows unknown k n w i y)) ≡ 0
      go (yes x) r = rw x (fix_row i p (fix_rows unknown k n w i y) (omega arith) (rw (← x) e))
      go (no x) r = fix_other i j (fix_rows unknown k n w i y) (omega arith) (omega arith) x ∙ r (omega arith)

  fix_idle : (i j : ℕ) (y : ℕ → ℕ) → i ≤ 4 → j < 4 → pivot_of unknown k w j ≡ 0
      → weighted n (entry w j) (fix_rows unknown k n w i y) ≡ weighted n (entry w j) y
  unfolding fix_rows
  fix_idle zero j y h hj e = refl
  fix_idle (suc i) j y h hj e = go (ℕ_discrete j i) (fix_idle i j y (omega arith) hj e)
    where
      go : Dec (j ≡ i) → weighted n (entry w j) (fix_rows unknown k n w i y) ≡ weighted n (entry w j) y
          → weighted n (entry w j) (fix_step unknown k n w i (fix_rows unknown k n w i y)) ≡ weighted n (entry w j) y
      go (yes x) r = rw (fix_none i (fix_rows unknown k n w i y) (rw (← x) e)) r
      go (no x) r = fix_other i j (fix_rows unknown k n w i y) (omega arith) hj x ∙ r

  -- every row with no unknown adds up to 0
  abbrev pub Sound : (ℕ → ℕ) → Type 0
  Sound y = (j : ℕ) → j < 4 → pivot_of unknown k w j ≡ 0 → weighted n (entry w j) y ≡ 0

  -- SOLVABLE: the fixed values solve all the equations, and have the known values
  pub fix_solves : (y : ℕ → ℕ) → Sound y → Solves n w (fix_rows unknown k n w 4 y)
  fix_solves y s j hj = go (pivot_cases unknown k w j)
    where
      go : PivotCases unknown k w j → weighted n (entry w j) (fix_rows unknown k n w 4 y) ≡ 0
      go (inl (e, z)) = fix_idle 4 j y (omega arith) hj e ∙ s j hj e
      go (inr (p, e, l)) = fix_done 4 j p y hj (omega arith) e

  -- NOT UNIQUE: an unknown place that is no pivot may have another value
  pub bump_sound : (y : ℕ → ℕ) (f v : ℕ) → v < 256 → f < k → unknown f ≡ true → Sound y → Sound (bump y f v)
  bump_sound y f v hv hf u s j hj e =
      weighted_bump n (entry w j) y f v (omega arith)
      ∙ ap₂ (λ (a b : ℕ). a ⊕ mul b v) (s j hj e) (none.zero_at f hf u)
      ∙ ap (λ (x : ℕ). 0 ⊕ x) (mul_zero_l v hv)
    where
      none : None unknown k w j
      none = elim (pivot_cases unknown k w j) [ inl r ↦ r.1 | inr r ↦ absurd (omega (arith, r.1)) ]

  -- what the fixed values have at a pivot
  pub fix_value : (i j p : ℕ) (y : ℕ → ℕ) → j < i → i ≤ 4 → pivot_of unknown k w j ≡ suc p
      → fix_rows unknown k n w i y p ≡ y p ⊕ weighted n (entry w j) y
  unfolding fix_rows
  fix_value zero j p y h hi e = absurd (omega arith)
  fix_value (suc i) j p y h hi e = go (ℕ_discrete j i) (λ l. fix_value i j p y l (omega arith) e)
    where
      c : IsLast unknown k w j p × UnitColumn w j p
      c = at_pivot j p (omega arith) e

      -- no other row has its pivot there
      alone : (o : ℕ) → o < 4 → (o ≡ j → ⊥) → pivot_of unknown k w o ≡ suc p → ⊥
      alone o ho d x = omega (arith, c.1.others o ho d, (at_pivot o p ho x).1.one)

      go : Dec (j ≡ i) → (j < i → fix_rows unknown k n w i y p ≡ y p ⊕ weighted n (entry w j) y)
          → fix_step unknown k n w i (fix_rows unknown k n w i y) p ≡ y p ⊕ weighted n (entry w j) y
      go (yes x) r =
          rw (← x) (ap (λ (f : ℕ → ℕ). f p) (fix_some j p (fix_rows unknown k n w j y) e)
          ∙ bump_at (fix_rows unknown k n w j y) p (weighted n (entry w j) (fix_rows unknown k n w j y))
          ∙ ap₂ bit_xor (fix_free j y p (omega arith) (λ o ho. alone o (omega arith) (λ q. omega arith)))
          (fix_later j j y (omega arith) (omega arith)))
      go (no x) r = other (pivot_cases unknown k w i)
        where
          other : PivotCases unknown k w i → fix_step unknown k n w i (fix_rows unknown k n w i y) p ≡ y p ⊕ weighted n (entry w j) y
          other (inl (z, v)) = ap (λ (f : ℕ → ℕ). f p) (fix_none i (fix_rows unknown k n w i y) z) ∙ r (omega arith)
          other (inr (q, z, l)) =
              ap (λ (f : ℕ → ℕ). f p) (fix_some i q (fix_rows unknown k n w i y) z)
              ∙ bump_off (fix_rows unknown k n w i y) q _ p (λ m. alone i (omega arith) (λ s. x (sym s)) (z ∙ ap suc (sym m)))
              ∙ r (omega arith)
