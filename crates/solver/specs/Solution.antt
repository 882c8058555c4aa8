-- What the solver answers, by elimination. That it is right is stated in Claims without it. Assumes nothing.
use Rattle.std.specs.Prelude.{◌≡◌, List, Option, None, ◌&&◌, not, ℕ, ◌+◌, ◌-◌, ◌/◌, ◌%◌, ◌<◌, ◌≤◌, eqb, ltb, get_or}
use Rattle.base.specs.Tests.{if}
use Rattle.base.specs.Folds.{table}
use Rattle.code.specs.Agreement.{is_lost}
use Rattle.elimination.specs.Matrix.{entry, from_one, has_unknown, last_below, pivot_of, reduced}
use Rattle.solver.specs.declared.Column.{Column}
use Rattle.solver.specs.declared.Column.TheVariants.{FixedBy, OpenBy}

-- the check matrix: row j says that the columns, each times its coefficient, and block k + j add up to 0; a row whose block is
-- lost, or that there is not, says nothing
unfoldable pub check_entry : (ℕ → ℕ → ℕ) → ℕ → ℕ → List ℕ → ℕ → ℕ → ℕ
check_entry co n k losses j p =
    if (ltb (k + j) n && eqb (get_or losses (k + j) 0) 0)
    (if (ltb p k) (co j p) (if (eqb p (k + j)) 1 0))
    0

unfoldable pub check_matrix : (ℕ → ℕ → ℕ) → ℕ → ℕ → List ℕ → List ℕ
check_matrix co n k losses = table 80 (λ a. check_entry co n k losses (a / 20) (a % 20))

-- the rows of m before j are those of the check matrix, the others are zero
pub record CheckedTo (co : ℕ → ℕ → ℕ) (n k : ℕ) (losses : List ℕ) (j : ℕ) (m : List ℕ) : Type 0 where
  pub before : (o p : ℕ) → o < j → p < 20 → entry m o p ≡ check_entry co n k losses o p
  pub after : (o p : ℕ) → j ≤ o → o < 4 → p < 20 → entry m o p ≡ 0

-- reduced by the lost columns
unfoldable pub solved : (ℕ → ℕ → ℕ) → ℕ → ℕ → List ℕ → List ℕ
solved co n k losses = reduced (is_lost losses) k (check_matrix co n k losses)

-- row i where it has no pivot: a check; else no check at all
unfoldable pub check_row : List ℕ → ℕ → List ℕ → ℕ → List ℕ
check_row losses k w i = table 20 (λ p. if (eqb (pivot_of (is_lost losses) k w i) 0) (entry w i p) 0)

-- row i without its factor at place c
unfoldable pub row_without : List ℕ → ℕ → ℕ → List ℕ
row_without w i c = table 20 (λ p. if (eqb p c) 0 (entry w i p))

-- one more than the row whose pivot is column c; 0 where there is none
unfoldable pub row_of : List ℕ → ℕ → List ℕ → ℕ → ℕ
row_of losses k w c = last_below (λ i. eqb (pivot_of (is_lost losses) k w i) (c + 1)) 4

-- the list has the pivots of the four rows; and check i and the row of a column by them
pub record Pivots (losses : List ℕ) (k : ℕ) (w : List ℕ) (pivots : List (Option ℕ)) : Type 0 where
  pub each : (i : ℕ) → i < 4 → from_one (get_or pivots i None) ≡ pivot_of (is_lost losses) k w i

unfoldable pub check_by : List (Option ℕ) → List ℕ → ℕ → List ℕ
check_by pivots w i = table 20 (λ p. if (eqb (from_one (get_or pivots i None)) 0) (entry w i p) 0)

unfoldable pub row_by : List (Option ℕ) → ℕ → ℕ
row_by pivots c = last_below (λ i. eqb (from_one (get_or pivots i None)) (c + 1)) 4

-- one more than the last lost column other than c in row i; 0 where there is none
unfoldable pub other_of : List ℕ → ℕ → List ℕ → ℕ → ℕ → ℕ
other_of losses k w i c = last_below (λ p. not (eqb p c) && has_unknown (is_lost losses) w i p) k

-- the null data of column f, where that is no row's pivot: 1 there, at a row's pivot the row's factor at f, else 0
unfoldable pub null_data : List ℕ → ℕ → List ℕ → ℕ → ℕ → ℕ
null_data losses k w f p = if (eqb p f) 1 (if (ltb 0 (row_of losses k w p)) (entry w (row_of losses k w p - 1) f) 0)

unfoldable pub null_vector : List ℕ → ℕ → List ℕ → ℕ → List ℕ
null_vector losses k w f = table 20 (null_data losses k w f)

-- column c: fixed by a row with no other lost column, or open by null data of the column that it names
unfoldable pub column_of : List ℕ → ℕ → List ℕ → ℕ → Column
column_of losses k w c =
    if (eqb (row_of losses k w c) 0) (OpenBy c)
    (if (eqb (other_of losses k w (row_of losses k w c - 1) c) 0) (FixedBy (row_of losses k w c - 1))
    (OpenBy (other_of losses k w (row_of losses k w c - 1) c - 1)))
