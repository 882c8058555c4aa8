-- A check, and the row of a column, by the list of the rows' pivots. Assumes nothing.
use mathlib.Core.Path.{◌≡◌, refl, sym, ap, ap₂, ◌∙◌}
use mathlib.Core.List.{List}
use mathlib.Core.Bool.{Bool, true, false, not}
use Prim.Native.Nat.{ℕ, zero, suc, ◌+◌, ◌-◌, ◌*◌, ◌<◌}
use native.Mathlib.Decide.{ℕ_discrete}
use native.Mathlib.Omega.{arith}
use lib.Dec.{eqb}
use lib.ListN.{length, get_or, replicate}
use borrow.Author.Tests.{eq-eqb, ne_eqb}
use Rattle.std.specs.Option.{option_eq, is_some}
use Rattle.std.specs.Prelude.{Option, Some, None}
use Rattle.base.specs.Tests.{if}
use Rattle.base.specs.Folds.{table}
use Rattle.area.specs.Area.{block, put}
use Rattle.area.proofs.Blocks.{length_block, put_whole}
use Rattle.code.specs.Agreement.{is_lost}
use Rattle.elimination.specs.Matrix.{entry, from_one, last_below, pivot_of}
use Rattle.solver.specs.declared.Column.TheVariants.{FixedBy, OpenBy}
use Rattle.solver.specs.Solution.{Pivots, check_by, check_row, row_by, row_of, other_of, column_of}

last_same : (f g : ℕ → Bool) (n : ℕ) → ((i : ℕ) → i < n → f i ≡ g i) → last_below f n ≡ last_below g n
unfolding last_below
last_same f g zero h = refl
last_same f g (suc n) h = ap₂ (λ (t : Bool) (x : ℕ). if t (suc n) x) (h n (omega arith)) (last_same f g n (λ i l. h i (omega arith)))

module _ (losses : List ℕ) (k : ℕ) (w : List ℕ) {pivots : List (Option ℕ)} (p : Pivots losses k w pivots) where
  pub row_told : (c : ℕ) {r : ℕ} → r ≡ row_by pivots c → r ≡ row_of losses k w c
  unfolding row_by row_of
  row_told c {r} h =
      h ∙ last_same (λ i. eqb (from_one (get_or pivots i None)) (c + 1)) (λ i. eqb (pivot_of (is_lost losses) k w i) (c + 1)) 4
      (λ i l. ap (λ (x : ℕ). eqb x (c + 1)) (p.each i l))

  pub check_row_law : (i : ℕ) → i < 4 → check_by pivots w i ≡ check_row losses k w i
  unfolding check_by check_row
  check_row_law i h = ap (λ (x : ℕ). table 20 (λ p. if (eqb x 0) (entry w i p) 0)) (p.each i h)

  -- what is told of a column, by its row and the other lost column there
  pub told_alone : (c : ℕ) → 0 ≡ row_by pivots c → OpenBy c ≡ column_of losses k w c
  unfolding column_of
  told_alone c h = rw (← row_told c h)

  pub told_fixed : (c i : ℕ) → i + 1 ≡ row_by pivots c → 0 ≡ other_of losses k w i c → FixedBy i ≡ column_of losses k w c
  unfolding column_of
  told_fixed c i h o = let s : i + 1 - 1 ≡ i = omega arith in rw (← row_told c h, ne_eqb (i + 1) 0 (omega arith), s, ← o) refl

  pub told_open : (c i f : ℕ) → i + 1 ≡ row_by pivots c → f + 1 ≡ other_of losses k w i c → OpenBy f ≡ column_of losses k w c
  unfolding column_of
  told_open c i f h o =
      let s : i + 1 - 1 ≡ i = omega arith in
      let t : f + 1 - 1 ≡ f = omega arith in
      rw (← row_told c h, ne_eqb (i + 1) 0 (omega arith), s, ← o, ne_eqb (f + 1) 0 (omega arith), t) refl

-- a test for a number among options is that of the numbers counted from 1
pub eq_from_one : (o : Option ℕ) (c : ℕ) → option_eq eqb o (Some c) ≡ eqb (from_one o) (c + 1)
eq_from_one None c = sym (ne_eqb 0 (c + 1) (omega arith))
eq_from_one (Some x) c =
    elim (ℕ_discrete x c) [
      | yes e ↦ eq-eqb x c e ∙ sym (eq-eqb (x + 1) (c + 1) (omega arith))
      | no d ↦ ne_eqb x c d ∙ sym (ne_eqb (x + 1) (c + 1) (omega arith))
    ]

some_from_one : (o : Option ℕ) → eqb (from_one o) 0 ≡ not (is_some o)
some_from_one None = refl
some_from_one (Some x) = ne_eqb (x + 1) 0 (omega arith)

-- the test for no pivot
pub none_is : (o : Option ℕ) → option_eq eqb o None ≡ not (is_some o)
none_is None = refl
none_is (Some x) = refl

-- a row is copied where it has no pivot
module _ (pivots : List (Option ℕ)) (w : List ℕ) (i : ℕ) where
  pub check_copied : (u : List ℕ) {out : List ℕ} → is_some (get_or pivots i None) ≡ false → length u ≡ 20
      → out ≡ put u 0 (block w (i * 20) 20) → out ≡ check_by pivots w i
  unfolding check_by entry block
  check_copied u {out} e size h =
      h ∙ put_whole u (block w (i * 20) 20) (size ∙ sym (length_block w (i * 20) 20)) ∙ rw (some_from_one (get_or pivots i None), e) refl

  pub check_zero : is_some (get_or pivots i None) ≡ true → replicate 20 0 ≡ check_by pivots w i
  unfolding check_by table
  check_zero e = rw (some_from_one (get_or pivots i None), e) refl
