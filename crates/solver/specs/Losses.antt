-- Combinations of the present blocks of a stripe that give a lost column, or tell whether any data agree. The loss byte of a block is 1
-- if it is lost and 0 if it is present. Assumes nothing.
use Rattle.std.specs.Prelude.{◌≡◌, List, true, ℕ, ◌<◌}
use Rattle.gf256.specs.Field.{Bytes}
use Rattle.code.specs.Agreement.{is_lost}
use Rattle.code.specs.Fixing.{encoded, Matches}
use Rattle.elimination.specs.Matrix.{weighted}

-- coefficients over the present blocks: bytes, and 0 at each of the n blocks that is lost
pub record OverPresent (n : ℕ) (losses : List ℕ) (u : ℕ → ℕ) : Type 0 where
  pub bytes : Bytes u
  pub lost : (p : ℕ) → p < n → is_lost losses p ≡ true → u p ≡ 0

-- u gives column c: it is this combination of the present blocks, whatever the data
pub record Gives (co : ℕ → ℕ → ℕ) (n k : ℕ) (losses : List ℕ) (c : ℕ) (u : ℕ → ℕ) : Type 0 where
  pub over : OverPresent n losses u
  pub value : (y : ℕ → ℕ) → Bytes y → weighted n u (encoded co k y) ≡ y c

-- four combinations of the present blocks that tell whether any data agree: they vanish for all data, and where they vanish
-- there are data that agree
pub record Checks (co : ℕ → ℕ → ℕ) (n k : ℕ) (losses : List ℕ) (u : ℕ → ℕ → ℕ) : Type 0 where
  pub over : (i : ℕ) → i < 4 → OverPresent n losses (u i)
  pub vanish : (i : ℕ) → i < 4 → (y : ℕ → ℕ) → Bytes y → weighted n (u i) (encoded co k y) ≡ 0
  pub enough : (z : ℕ → ℕ) → Bytes z → ((i : ℕ) → i < 4 → weighted n (u i) z ≡ 0) → (y : ℕ → ℕ) × Matches co n k losses z y
