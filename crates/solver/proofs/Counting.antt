-- Where more blocks are lost than there are rows, some lost column is no row's pivot. Assumes nothing.
use mathlib.Core.Path.{◌≡◌, refl, sym, ap, ◌∙◌}
use mathlib.Core.List.{List}
use mathlib.Core.Bool.{Bool, true, false, false≢true, ◌&&◌}
use mathlib.Core.Logic.{◌⊎◌, inl, inr}
use Prim.Native.Nat.{ℕ, zero, suc, ◌+◌, ◌-◌, ◌<◌, ◌≤◌}
use native.Mathlib.Numerals.{add-one}
use native.Mathlib.Nat.{mul-one, add-zero}
use native.Mathlib.Decide.{ℕ_discrete, dec_lt}
use native.Mathlib.Omega.{arith}
use lib.ListN.{get_or}
use lib.Dec.{eqb, ltb}
use borrow.Author.Tests.{eq-eqb, ne_eqb, lt-ltb, le-ltb}
use Rattle.base.specs.Folds.{sum, indicator}
use Rattle.base.proofs.Sums.{sum_same, sum_add, sum_split, sum_const, sum_none, sum_mono, sum_swap, sum_part}
use Rattle.code.specs.Agreement.{is_lost, lost_count}
use Rattle.elimination.specs.Matrix.{pivot_of}
use Rattle.elimination.proofs.Pivots.{PivotCases, pivot_cases}
use Rattle.elimination.proofs.Solutions.{Free}
use Rattle.elimination.proofs.Zeros.{ZeroRow, reduced_row}
use Rattle.code.specs.Fixing.{Null}
use Rattle.solver.specs.Claims.{Solvable}
use Rattle.solver.specs.Solution.{check_matrix, solved, null_vector}
use Rattle.solver.proofs.CheckMatrix.{check_bytes, idle_entry}
use Rattle.solver.proofs.Columns.{RowCases, row_cases, vector_null, vector_own}

-- how often a number is one more than a number below k: never, where it is none of these, and at most once
hit_none : (x k : ℕ) → ((p : ℕ) → p < k → x ≡ p + 1 → ⊥) → sum k (λ p. indicator (eqb x (p + 1))) ≡ 0
hit_none x k h =
    sum_same k (λ p. indicator (eqb x (p + 1))) (λ p. 0) (λ p l. rw (ne_eqb x (p + 1) (h p l)) refl) ∙ sum_none k (λ p. 0) (λ p. refl)

hit_once : (x k : ℕ) → sum k (λ p. indicator (eqb x (p + 1))) ≤ 1
unfolding sum
hit_once x zero = omega arith
hit_once x (suc k) = go (ℕ_discrete x (k + 1)) (hit_once x k)
  where
    go : Dec (x ≡ k + 1) → sum k (λ p. indicator (eqb x (p + 1))) ≤ 1
        → sum k (λ p. indicator (eqb x (p + 1))) + indicator (eqb x (k + 1)) ≤ 1
    go (yes e) r = rw (eq-eqb x (k + 1) e, hit_none x k (λ p l y. omega arith)) (omega arith)
    go (no d) r = rw (ne_eqb x (k + 1) d) (omega arith)

module _ (co : ℕ → ℕ → ℕ) (n k : ℕ) (losses : List ℕ) (ok : Solvable co n k losses) where
  abbrev w : List ℕ
  w = solved co n k losses

  -- row j's block is present
  is_present : ℕ → Bool
  is_present j = ltb (k + j) n && eqb (get_or losses (k + j) 0) 0

  -- a row that is not has no pivot
  absent : (j : ℕ) → j < 4 → is_present j ≡ false → pivot_of (is_lost losses) k w j ≡ 0
  unfolding solved is_present
  absent j hj off = go (pivot_cases (is_lost losses) k w j)
    where
      zero : ZeroRow w j
      zero =
          reduced_row (is_lost losses) k (omega (arith, ok.columns, ok.blocks)) (check_matrix co n k losses) j
          (check_bytes co n k losses ok) hj
          (λ p hp. idle_entry co n k losses ok j p hj hp off)

      go : PivotCases (is_lost losses) k w j → pivot_of (is_lost losses) k w j ≡ 0
      go (inl (e, none)) = e
      go (inr (p, e, l)) = absurd (omega (arith, l.here, zero p (omega (arith, l.below, ok.columns, ok.blocks))))

  -- a row has at most one pivot, and none where it is absent
  row_hits : (j : ℕ) → j < 4 → sum k (λ p. indicator (eqb (pivot_of (is_lost losses) k w j) (p + 1))) ≤ indicator (is_present j)
  row_hits j hj = go (is_present j) refl
    where
      go : (t : Bool) → is_present j ≡ t → sum k (λ p. indicator (eqb (pivot_of (is_lost losses) k w j) (p + 1))) ≤ indicator t
      go true e = hit_once (pivot_of (is_lost losses) k w j) k
      go false e = rw (absent j hj e) (let z = hit_none 0 k (λ p l y. omega arith) in omega arith)

  -- a present row and a lost one are one row
  row_split : (j : ℕ) → k + j < n → indicator (is_present j) + indicator (is_lost losses (k + j)) ≡ 1
  unfolding is_present is_lost
  row_split j hj = rw (lt-ltb (k + j) n hj) (go (ℕ_discrete (get_or losses (k + j) 0) 0) (ok.flags (k + j) hj))
    where
      go : Dec (get_or losses (k + j) 0 ≡ 0) → get_or losses (k + j) 0 ≤ 1
          → indicator (eqb (get_or losses (k + j) 0) 0) + indicator (eqb (get_or losses (k + j) 0) 1) ≡ 1
      go (yes e) l = rw (eq-eqb (get_or losses (k + j) 0) 0 e, ne_eqb (get_or losses (k + j) 0) 1 (λ x. omega arith)) refl
      go (no d) l = rw (ne_eqb (get_or losses (k + j) 0) 0 d, eq-eqb (get_or losses (k + j) 0) 1 (omega arith)) refl

  rows_split : sum (n - k) (λ j. indicator (is_present j)) + sum (n - k) (λ j. indicator (is_lost losses (k + j))) ≡ n - k
  rows_split =
      sym (sum_add (n - k) (λ j. indicator (is_present j)) (λ j. indicator (is_lost losses (k + j))))
      ∙ sum_same (n - k) (λ j. indicator (is_present j) + indicator (is_lost losses (k + j))) (λ j. 1) (λ j l. row_split j (omega arith))
      ∙ sum_const (n - k) 1 ∙ mul-one (n - k)

  -- the four rows are those of the stripe and some that are absent
  four_rows : sum 4 (λ j. indicator (is_present j)) ≡ sum (n - k) (λ j. indicator (is_present j))
  unfolding is_present
  four_rows =
      ap (λ (x : ℕ). sum x (λ j. indicator (is_present j))) (let e : 4 ≡ n - k + (4 - (n - k)) = omega (arith, ok.rows) in e)
      ∙ sum_split (n - k) (4 - (n - k)) (λ j. indicator (is_present j))
      ∙ ap (λ (x : ℕ). sum (n - k) (λ j. indicator (is_present j)) + x)
      (sum_same (4 - (n - k)) (λ i. indicator (is_present (n - k + i))) (λ i. 0)
      (λ i l. rw (le-ltb (k + (n - k + i)) n (omega (arith, ok.columns))) refl) ∙ sum_none (4 - (n - k)) (λ i. 0) (λ i. refl))
      ∙ add-zero (sum (n - k) (λ j. indicator (is_present j)))

  -- every lost column below c is a row's pivot; some lost column is none's
  abbrev AllPivots : ℕ → Type 0
  AllPivots c = (p : ℕ) → p < c → is_lost losses p ≡ true → (j : ℕ) × (j < 4) × (pivot_of (is_lost losses) k w j ≡ suc p)

  abbrev AnyFree : Type 0
  AnyFree = (f : ℕ) × (f < k) × (is_lost losses f ≡ true) × Free (is_lost losses) k w 4 f

  pivots : (c : ℕ) → c ≤ k → AllPivots c ⊎ AnyFree
  pivots zero h = inl (λ p l. absurd (omega arith))
  pivots (suc c) h = go (pivots c (omega arith)) (is_lost losses c) refl (row_cases co n k losses ok c)
    where
      go : AllPivots c ⊎ AnyFree
          → (t : Bool) → is_lost losses c ≡ t → RowCases co n k losses ok c
          → AllPivots (suc c) ⊎ AnyFree
      go (inr f) t e r = inr f
      go (inl all) true e (inl (z, free)) = inr (c, omega arith, e, free)
      go (inl all) true e (inr (i, z, hi, x)) =
          inl (λ p l lost. elim (dec_lt p c) [ yes m ↦ all p m lost | no m ↦ (let q : c ≡ p = omega arith in (i, hi, rw (← q) x)) ])
      go (inl all) false e r =
          inl (λ p l lost. elim (dec_lt p c) [
            | yes m ↦ all p m lost
            | no m ↦
                (let q : p ≡ c = omega arith in absurd (false≢true (sym e ∙ ap (is_lost losses) (sym q) ∙ lost)))
          ])

  -- where all are, there are at most as many as rows present
  columns_le : AllPivots k
      → sum k (λ p. indicator (is_lost losses p)) ≤ sum 4 (λ j. indicator (is_present j))
  columns_le all =
      let a =
      sum_mono k (λ p. indicator (is_lost losses p)) (λ p. sum 4 (λ j. indicator (eqb (pivot_of (is_lost losses) k w j) (p + 1))))
      (λ p l. at p l (is_lost losses p) refl) in
      let b = sum_swap k 4 (λ p j. indicator (eqb (pivot_of (is_lost losses) k w j) (p + 1))) in
      let c =
      sum_mono 4 (λ j. sum k (λ p. indicator (eqb (pivot_of (is_lost losses) k w j) (p + 1)))) (λ j. indicator (is_present j)) row_hits in
      omega arith
    where
      at : (p : ℕ) → p < k → (t : Bool) → is_lost losses p ≡ t
          → indicator t ≤ sum 4 (λ j. indicator (eqb (pivot_of (is_lost losses) k w j) (p + 1)))
      at p l false e = omega arith
      at p l true e =
          let r = all p l e in
          let q = sum_part 4 (λ j. indicator (eqb (pivot_of (is_lost losses) k w j) (p + 1))) r.0 r.1 in
          let s : indicator (eqb (pivot_of (is_lost losses) k w r.0) (p + 1)) ≡ 1 =
          rw (eq-eqb (pivot_of (is_lost losses) k w r.0) (p + 1) (r.2 ∙ sym (add-one p))) refl in
          omega arith

  pub too_many_lost : n - k < lost_count losses n → (c : ℕ) × (c < k) × (is_lost losses c ≡ true) × (y : ℕ → ℕ) × Null co n k losses y
      × (0 < y c)
  unfolding lost_count
  too_many_lost many = go (pivots k (omega arith))
    where
      count : sum n (λ p. indicator (is_lost losses p)) ≡ sum k (λ p. indicator (is_lost losses p))
          + sum (n - k) (λ j. indicator (is_lost losses (k + j)))
      count =
          ap (λ (x : ℕ). sum x (λ p. indicator (is_lost losses p))) (let e : n ≡ k + (n - k) = omega (arith, ok.columns) in e)
          ∙ sum_split k (n - k) (λ p. indicator (is_lost losses p))

      go : AllPivots k ⊎ AnyFree
          → (c : ℕ) × (c < k) × (is_lost losses c ≡ true) × (y : ℕ → ℕ) × Null co n k losses y × (0 < y c)
      go (inl all) = absurd (omega (arith, many, count, columns_le all, four_rows, rows_split))
      go (inr (f, hf, lost, free)) = (
        f,
        hf,
        lost,
        (λ p. get_or (null_vector losses k w f) p 0),
        vector_null co n k losses ok f hf lost free,
        vector_own co n k losses ok f hf lost free,
      )
