-- What is claimed of the solver's answers, for any coefficients and losses: proved as `solver_holds` in proofs/SolverHolds.
-- Assumes nothing.
use Rattle.std.specs.Prelude.{◌≡◌, List, true, ◌⊎◌, ℕ, ◌+◌, ◌-◌, ◌<◌, ◌≤◌, get_or}
use Rattle.code.specs.Agreement.{is_lost, lost_count}
use Rattle.solver.specs.declared.Column.{Column}
use Rattle.solver.specs.declared.Column.TheVariants.{FixedBy, OpenBy}
use Rattle.solver.specs.Losses.{Gives, Checks}
use Rattle.code.specs.Fixing.{Null, Fixes}
use Rattle.solver.specs.Solution.{solved, check_row, row_without, null_vector, column_of}

-- at most 20 blocks, of which at most 4 are rows; coefficients are bytes; a loss byte is 0 or 1
pub record Solvable (co : ℕ → ℕ → ℕ) (n k : ℕ) (losses : List ℕ) : Type 0 where
  pub columns : k < n
  pub blocks : n ≤ 20
  pub rows : n ≤ k + 4
  pub coefficients : (j c : ℕ) → j < 4 → co j c < 256
  pub flags : (p : ℕ) → p < n → get_or losses p 0 ≤ 1

-- what the solver finds for a lost column c: coefficients over the present blocks, or null data in which it is not zero; these are zero
-- before the column that it names
pub data Found (co : ℕ → ℕ → ℕ) (n k : ℕ) (losses w : List ℕ) (c : ℕ) : Column → Type 0 where
  fixed_by : (i : ℕ) → i < 4 → Gives co n k losses c (λ p. get_or (row_without w i c) p 0) → Found co n k losses w c (FixedBy i)
  open_by : (f : ℕ) → f < k → Null co n k losses (λ p. get_or (null_vector losses k w f) p 0)
      → ((p : ℕ) → p < f → get_or (null_vector losses k w f) p 0 ≡ 0)
      → 0 < get_or (null_vector losses k w f) c 0 → Found co n k losses w c (OpenBy f)

pub record SolverClaims (co : ℕ → ℕ → ℕ) (n k : ℕ) (losses : List ℕ) : Type 0 where
  -- data agree exactly if all checks vanish
  pub checks : Checks co n k losses (λ i p. get_or (check_row losses k (solved co n k losses) i) p 0)
  -- a lost column is fixed, and then its combination, or it is open
  pub column : (c : ℕ) → c < k → is_lost losses c ≡ true
      → Found co n k losses (solved co n k losses) c (column_of losses k (solved co n k losses) c)
  -- so the answer tells whether the present blocks fix it
  pub decides : (c : ℕ) → c < k → is_lost losses c ≡ true
      → ((i : ℕ) × (column_of losses k (solved co n k losses) c ≡ FixedBy i) × Fixes co n k losses c)
      ⊎ ((f : ℕ) × (column_of losses k (solved co n k losses) c ≡ OpenBy f) × (Fixes co n k losses c → ⊥))
  -- where more blocks are lost than there are rows, some lost column is open
  pub too_many : n - k < lost_count losses n
      → (c : ℕ) × (c < k) × (is_lost losses c ≡ true) × (y : ℕ → ℕ) × Null co n k losses y × (0 < y c)
