-- A place that is 0 in every row, and a row that is 0 at every place, stay so. Assumes nothing.
use mathlib.Core.Path.{◌≡◌, ap, ap₂, ◌∙◌}
use mathlib.Core.List.{List}
use mathlib.Core.Bool.{Bool}
use mathlib.Core.Logic.{inl, inr}
use Prim.Native.Nat.{ℕ, zero, suc, ◌<◌, ◌≤◌}
use native.Mathlib.Decide.{ℕ_discrete}
use native.Mathlib.Nat.{zero-add}
use native.Mathlib.Omega.{arith}
use Rattle.base.specs.Folds.{run}
use Rattle.gf256.specs.Field.{◌⊕◌, mul}
use Rattle.gf256.specs.Logs.{inv}
use Rattle.gf256.proofs.Product.{mul_lt, mul_zero_r, mul_zero_l}
use Rattle.gf256.proofs.Powers.{inv_lt}
use Rattle.elimination.specs.Matrix.{entry, pivot_entry, pivoted, reduce_step, reduced}
use Rattle.elimination.proofs.RowLaws.{ByteList, entry_lt, entry_pivoted, pivot_entry_own, pivot_entry_other}
use Rattle.elimination.proofs.Pivots.{PivotCases, pivot_cases}
use Rattle.elimination.proofs.Reduced.{step_none, step_some, rows_keep}

-- place p is 0 in all four rows
abbrev pub ZeroPlace : List ℕ → ℕ → Type 0
ZeroPlace w p = (j : ℕ) → j < 4 → entry w j p ≡ 0

-- row j is 0 at all twenty places
abbrev pub ZeroRow : List ℕ → ℕ → Type 0
ZeroRow w j = (p : ℕ) → p < 20 → entry w j p ≡ 0

pivoted_place : (w : List ℕ) (i q p : ℕ) → i < 4 → p < 20 → ZeroPlace w p → ZeroPlace (pivoted w i q) p
pivoted_place w i q p hi hp z j hj = entry_pivoted w i q j p hj hp ∙ go (ℕ_discrete j i)
  where
    scaled : mul (inv (entry w i q)) (entry w i p) ≡ 0
    scaled = ap (mul (inv (entry w i q))) (z i hi) ∙ mul_zero_r (inv (entry w i q))

    go : Dec (j ≡ i) → pivot_entry w i q j p ≡ 0
    go (yes e) = rw e (pivot_entry_own w i q p ∙ scaled)
    go (no d) =
        pivot_entry_other w i q j p d ∙ ap₂ (λ (a b : ℕ). a ⊕ mul (entry w j q) b) (z j hj) scaled
        ∙ ap (λ (x : ℕ). 0 ⊕ x) (mul_zero_r (entry w j q))

pivoted_row : (w : List ℕ) (i q j : ℕ) → ByteList w → q < 20 → j < 4 → (j ≡ i → ⊥) → ZeroRow w j → ZeroRow (pivoted w i q) j
pivoted_row w i q j hw hq hj d z p hp =
    entry_pivoted w i q j p hj hp ∙ pivot_entry_other w i q j p d
    ∙ ap₂ (λ (a b : ℕ). a ⊕ mul b (mul (inv (entry w i q)) (entry w i p))) (z p hp) (z q hq)
    ∙ ap (λ (x : ℕ). 0 ⊕ x) (mul_zero_l (mul (inv (entry w i q)) (entry w i p))
    (mul_lt (inv (entry w i q)) (entry w i p) (inv_lt (entry w i q) (entry_lt w hw i q))))

module _ (unknown : ℕ → Bool) (k : ℕ) (hk : k ≤ 20) where
  step_place : (i : ℕ) (w : List ℕ) (p : ℕ) → i < 4 → p < 20 → ZeroPlace w p → ZeroPlace (reduce_step unknown k i w) p
  step_place i w p hi hp z = go (pivot_cases unknown k w i)
    where
      go : PivotCases unknown k w i → ZeroPlace (reduce_step unknown k i w) p
      go (inl (e, n)) = rw (step_none unknown k i w e) z
      go (inr (q, e, l)) = rw (step_some unknown k i w q e) (pivoted_place w i q p hi hp z)

  step_row : (i : ℕ) (w : List ℕ) (j : ℕ) → ByteList w → j < 4 → ZeroRow w j → ZeroRow (reduce_step unknown k i w) j
  step_row i w j hw hj z = go (pivot_cases unknown k w i)
    where
      go : PivotCases unknown k w i → ZeroRow (reduce_step unknown k i w) j
      go (inl (e, n)) = rw (step_none unknown k i w e) z
      go (inr (q, e, l)) =
          rw (step_some unknown k i w q e) (pivoted_row w i q j hw (omega (arith, l.below)) hj
          (λ x. omega (arith, l.here, (let s : entry w i q ≡ 0 = rw (← x) (z q (omega (arith, l.below))) in s))) z)

  rows_place : (w : List ℕ) (p : ℕ) → p < 20 → ZeroPlace w p → (i : ℕ) → i ≤ 4 → ZeroPlace (run (reduce_step unknown k) 0 i w) p
  unfolding run
  rows_place w p hp z zero h = z
  rows_place w p hp z (suc i) h =
      rw (zero-add i) (step_place i (run (reduce_step unknown k) 0 i w) p (omega arith) hp (rows_place w p hp z i (omega arith)))

  rows_row : (w : List ℕ) (j : ℕ) → ByteList w → j < 4 → ZeroRow w j → (i : ℕ) → i ≤ 4 → ZeroRow (run (reduce_step unknown k) 0 i w) j
  unfolding run
  rows_row w j hw hj z zero h = z
  rows_row w j hw hj z (suc i) h =
      rw (zero-add i) (step_row i (run (reduce_step unknown k) 0 i w) j (rows_keep unknown k k w hk hk hw i (omega arith)).0.bytes hj
      (rows_row w j hw hj z i (omega arith)))

  pub reduced_place : (w : List ℕ) (p : ℕ) → p < 20 → ZeroPlace w p → ZeroPlace (reduced unknown k w) p
  unfolding reduced
  reduced_place w p hp z = rows_place w p hp z 4 (omega arith)

  pub reduced_row : (w : List ℕ) (j : ℕ) → ByteList w → j < 4 → ZeroRow w j → ZeroRow (reduced unknown k w) j
  unfolding reduced
  reduced_row w j hw hj z = rows_row w j hw hj z 4 (omega arith)
