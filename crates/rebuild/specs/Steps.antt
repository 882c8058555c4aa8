-- What the inner functions of rebuild do, with the solver's matrix w. Assumes nothing.
use Rattle.std.specs.Prelude.{◌≡◌, List, Option, Bool, true, false, ℕ, ◌+◌, ◌-◌, ◌<◌, get_or}
use Rattle.base.specs.Tests.{if, every}
use Rattle.base.specs.Folds.{run}
use Rattle.area.specs.Area.{zeros, same_bytes, slot, put_slot}
use Rattle.combine.specs.Combination.{combination}
use Rattle.code.specs.Rows.{parity_row, coefficient}
use Rattle.recovery.specs.Rebuild.{stripe_multiplier}
use Rattle.code.specs.Agreement.{is_lost}
use Rattle.elimination.specs.Matrix.{entry}
use Rattle.solver.specs.declared.Column.{Column}
use Rattle.solver.specs.declared.Column.TheVariants.{FixedBy, OpenBy}
use Rattle.solver.specs.Solution.{check_row, check_by, row_without, column_of}

-- the stripe's blocks, combined with the coefficients in a list
unfoldable pub combined_blocks : ℕ → ℕ → List ℕ → List ℕ → List ℕ
combined_blocks b n u stripe = combination b n (λ p. get_or u p 0) (slot stripe b)

-- check i vanishes
unfoldable pub check_holds : ℕ → ℕ → ℕ → List ℕ → List ℕ → List ℕ → ℕ → Bool
check_holds n k b losses w stripe i = same_bytes (zeros b) (combined_blocks b n (check_row losses k w i) stripe)

unfoldable pub checks_hold : ℕ → ℕ → ℕ → List ℕ → List ℕ → List ℕ → Bool
checks_hold n k b losses w stripe = every 4 (check_holds n k b losses w stripe)

-- the same by the pivots of the rows
unfoldable pub checks_by : ℕ → ℕ → List (Option ℕ) → List ℕ → List ℕ → Bool
checks_by n b pivots w stripe = every 4 (λ i. same_bytes (zeros b) (combined_blocks b n (check_by pivots w i) stripe))

abbrev pub is_fixed : Column → Bool
is_fixed (FixedBy i) = true
is_fixed (OpenBy f) = false

abbrev pub fixing_row : Column → ℕ
fixing_row (FixedBy i) = i
fixing_row (OpenBy f) = 0

-- column c is present, or fixed
unfoldable pub column_holds : ℕ → List ℕ → List ℕ → ℕ → Bool
column_holds k losses w c = if (is_lost losses c) (is_fixed (column_of losses k w c)) true

unfoldable pub columns_hold : ℕ → List ℕ → List ℕ → Bool
columns_hold k losses w = every k (column_holds k losses w)

-- the list has, at the place of each lost column before `count`, the row that gives it
pub record FixingRows (count k : ℕ) (losses w fixing : List ℕ) : Type 0 where
  pub each : (c : ℕ) → c < count → is_lost losses c ≡ true → get_or fixing c 0 ≡ fixing_row (column_of losses k w c)
  pub rows : (c : ℕ) → get_or fixing c 0 < 4

-- column c written by row i, if it is lost
unfoldable pub column_by : ℕ → ℕ → List ℕ → List ℕ → ℕ → ℕ → List ℕ → List ℕ
column_by n b losses w i c stripe = if (is_lost losses c) (put_slot stripe b c (combined_blocks b n (row_without w i c) stripe)) stripe

abbrev pub column_step : ℕ → ℕ → ℕ → List ℕ → List ℕ → ℕ → List ℕ → List ℕ
column_step n k b losses w c stripe = column_by n b losses w (fixing_row (column_of losses k w c)) c stripe

unfoldable pub columns_written : ℕ → ℕ → ℕ → List ℕ → List ℕ → List ℕ → List ℕ
columns_written n k b losses w stripe = run (column_step n k b losses w) 0 k stripe

-- row j written, if it is lost
unfoldable pub row_step : (ℕ → ℕ) → ℕ → ℕ → List ℕ → ℕ → List ℕ → List ℕ
row_step m k b losses j stripe = if (is_lost losses (k + j)) (put_slot stripe b (k + j) (parity_row m b k j (slot stripe b))) stripe

unfoldable pub rows_written : (ℕ → ℕ) → ℕ → ℕ → ℕ → List ℕ → List ℕ → List ℕ
rows_written m n k b losses stripe = run (row_step m k b losses) 0 (n - k) stripe

-- the lost columns written, then the lost rows of document 01
unfoldable pub all_written : ℕ → ℕ → ℕ → List ℕ → List ℕ → List ℕ → List ℕ
all_written n k b losses w stripe = rows_written stripe_multiplier n k b losses (columns_written n k b losses w stripe)

-- the first rows of a list have document 01's coefficients: row j's of column c stands at 20 j + c
pub record CodeRows (count : ℕ) (rows : List ℕ) : Type 0 where
  pub each : (j c : ℕ) → j < count → c < 19 → entry rows j c ≡ coefficient stripe_multiplier j c
