-- A step of the reduction as the code takes it: the pivot step row by row, and a row that has a pivot or none. Assumes nothing.
use mathlib.Core.Path.{◌≡◌, refl, sym, ap, ap₂, ◌∙◌}
use mathlib.Core.List.{List}
use mathlib.Core.Bool.{Bool}
use mathlib.Core.Logic.{inl, inr}
use Prim.Native.Nat.{ℕ, ◌+◌, ◌*◌, ◌/◌, ◌%◌, ◌≤◌, ◌<◌}
use native.Mathlib.Nat.{zero-add}
use native.Mathlib.Decide.{ℕ_discrete}
use native.Mathlib.Omega.{arith}
use lib.ListN.{length, get_or}
use Rattle.base.specs.Folds.{table}
use Rattle.base.proofs.Tables.{length_table, table_at, table_ext}
use Rattle.gf256.specs.Field.{◌⊕◌, mul}
use Rattle.gf256.specs.Logs.{inv}
use Rattle.area.specs.Area.{block, put}
use Rattle.area.proofs.Blocks.{length_block, block_at, put_below, put_above, put_in}
use Rattle.elimination.specs.Matrix.{entry, pivot_of, scaled_row, with_added, pivot_entry, pivoted, PivotedTo, reduce_step}
use Rattle.elimination.proofs.RowLaws.{pivot_entry_own, pivot_entry_other, pivot_entry_kept}
use Rattle.elimination.proofs.Pivots.{PivotCases, pivot_cases}
use Rattle.elimination.proofs.Reduced.{step_none, step_some}

-- ---- the pivot step, row by row

pub pivoted_none : (w : List ℕ) (i q : ℕ) → PivotedTo w i q 0 w
pivoted_none w i q = record { before = λ o p h. absurd (omega arith); after = λ o p h l k. refl }

-- row j stored
row_put : (w : List ℕ) (i q j : ℕ) (m bs : List ℕ) → PivotedTo w i q j m → j < 4 → length m ≡ 80 → length bs ≡ 20
    → ((p : ℕ) → p < 20 → get_or bs p 0 ≡ pivot_entry w i q j p) → PivotedTo w i q (j + 1) (put m (j * 20) bs)
unfolding entry
row_put w i q j m bs s hj size long each =
    record {
      before = λ o p h l. go o p h l (ℕ_discrete o j);
      after = λ o p h k l. put_above m (j * 20) bs (o * 20 + p) (omega arith) ∙ s.after o p (omega arith) k l;
    }
  where
    go : (o p : ℕ) → o < j + 1 → p < 20 → Dec (o ≡ j) → get_or (put m (j * 20) bs) (o * 20 + p) 0 ≡ pivot_entry w i q o p
    go o p h l (yes e) = rw e (put_in m (j * 20) bs p (omega arith) (omega arith) ∙ each p l)
    go o p h l (no d) = put_below m (j * 20) bs (o * 20 + p) (omega arith) ∙ s.before o p (omega arith) l

module _ (w u : List ℕ) (i q : ℕ) (e : u ≡ scaled_row w (inv (entry w i q)) i) where
  scaled_at : (p : ℕ) → p < 20 → get_or u p 0 ≡ mul (inv (entry w i q)) (entry w i p)
  unfolding scaled_row
  scaled_at p h = rw e (table_at 20 (λ p. mul (inv (entry w i q)) (entry w i p)) p h)

  block_scaled : (p : ℕ) → p < 20 → get_or (block u 0 20) p 0 ≡ mul (inv (entry w i q)) (entry w i p)
  block_scaled p h = block_at u 0 20 p h ∙ rw (zero-add p) (scaled_at p h)

  -- row i is its multiple u
  pub row_own : (j : ℕ) (m : List ℕ) {out : List ℕ} → PivotedTo w i q j m → j < 4 → length m ≡ 80 → j ≡ i
      → out ≡ put m (j * 20) (block u 0 20) → PivotedTo w i q (j + 1) out
  row_own j m {out} s hj size own x =
      rw x (row_put w i q j m (block u 0 20) s hj size (length_block u 0 20)
      (λ p h. block_scaled p h ∙ sym (ap (λ (o : ℕ). pivot_entry w i q o p) own ∙ pivot_entry_own w i q p)))

  -- to another row it is added
  pub row_other : (j : ℕ) (m : List ℕ) {out : List ℕ} → PivotedTo w i q j m → j < 4 → length m ≡ 80 → (j ≡ i → ⊥)
      → out ≡ with_added m j (entry w j q) u → PivotedTo w i q (j + 1) out
  unfolding with_added
  row_other j m {out} s hj size d x =
      rw x (row_put w i q j m (table 20 (λ p. entry m j p ⊕ mul (entry w j q) (get_or u p 0))) s hj size
      (length_table 20 (λ p. entry m j p ⊕ mul (entry w j q) (get_or u p 0))) each)
    where
      each : (p : ℕ) → p < 20 → get_or (table 20 (λ p. entry m j p ⊕ mul (entry w j q) (get_or u p 0))) p 0 ≡ pivot_entry w i q j p
      each p h =
          table_at 20 (λ p. entry m j p ⊕ mul (entry w j q) (get_or u p 0)) p h
          ∙ ap₂ (λ (a b : ℕ). a ⊕ mul (entry w j q) b) (s.after j p (omega arith) hj h) (scaled_at p h)
          ∙ sym (pivot_entry_other w i q j p d)

-- a row that is 0 at place q stays
pub row_kept : (w : List ℕ) (i q j : ℕ) (m : List ℕ) → PivotedTo w i q j m → j < 4 → (j ≡ i → ⊥) → inv (entry w i q) < 256 → entry w j q ≡ 0
    → PivotedTo w i q (j + 1) m
row_kept w i q j m s hj d byte e =
    record { before = λ o p h l. go o p h l (ℕ_discrete o j); after = λ o p h k l. s.after o p (omega arith) k l }
  where
    go : (o p : ℕ) → o < j + 1 → p < 20 → Dec (o ≡ j) → entry m o p ≡ pivot_entry w i q o p
    go o p h l (yes x) = rw x (s.after j p (omega arith) hj l ∙ sym (pivot_entry_kept w i q j p d byte e))
    go o p h l (no x) = s.before o p (omega arith) l

-- all four rows are the whole step
pub pivoted_all : (w : List ℕ) (i q j : ℕ) (m : List ℕ) → PivotedTo w i q j m → 4 ≤ j → length m ≡ 80 → m ≡ pivoted w i q
unfolding pivoted entry
pivoted_all w i q j m s h size =
    table_ext 80 (λ a. pivot_entry w i q (a / 20) (a % 20)) m size (λ a l.
    let e : a / 20 * 20 + a % 20 ≡ a = omega arith in
    ap (λ (x : ℕ). get_or m x 0) (sym e) ∙ s.before (a / 20) (a % 20) (omega arith) (omega arith))

pub length_pivoted : (w : List ℕ) (i q : ℕ) → length (pivoted w i q) ≡ 80
unfolding pivoted
length_pivoted w i q = length_table 80 (λ a. pivot_entry w i q (a / 20) (a % 20))

-- ---- row i of the reduction, which has the pivot q, or none

module _ (unknown : ℕ → Bool) (k : ℕ) (w : List ℕ) (i : ℕ) where
  -- a pivot is a place, and its entry is not 0
  pub pivot_ok : (q : ℕ) → q + 1 ≡ pivot_of unknown k w i → (q < k) × (0 < entry w i q)
  pivot_ok q e = go (pivot_cases unknown k w i)
    where
      go : PivotCases unknown k w i → (q < k) × (0 < entry w i q)
      go (inl r) = absurd (omega (arith, r.0))
      go (inr (p, x, l)) = let s : q ≡ p = omega arith in rw s (l.below, l.here)

  pub step_taken : (q : ℕ) {v : List ℕ} → q + 1 ≡ pivot_of unknown k w i → v ≡ pivoted w i q → v ≡ reduce_step unknown k i w
  step_taken q {v} e s = s ∙ sym (step_some unknown k i w q (omega arith))

  pub step_left : 0 ≡ pivot_of unknown k w i → w ≡ reduce_step unknown k i w
  step_left e = sym (step_none unknown k i w (sym e))
