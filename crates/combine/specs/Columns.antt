-- The columns of a combination as the code gets them: blocks at given offsets. Assumes nothing.
use Rattle.std.specs.Prelude.{◌≡◌, List, ℕ, ◌+◌, ◌*◌, ◌≤◌, ◌<◌, length, get_or}
use Rattle.area.specs.Area.{block}
use Rattle.combine.specs.Combination.{combination}

-- column c among the blocks of src of b bytes: the one at offset c of `at`
unfoldable pub columns_at : List ℕ → List ℕ → ℕ → ℕ → List ℕ
columns_at at src b c = block src (get_or at c 0) b

-- the combination of such columns, with the coefficients in a list
unfoldable pub combined : ℕ → ℕ → List ℕ → List ℕ → List ℕ → List ℕ
combined b n q at src = combination b n (λ c. get_or q c 0) (columns_at at src b)

-- at most 20 columns, each inside src
pub record Inside (at : List ℕ) (n b : ℕ) (src : List ℕ) : Type 0 where
  pub count : n ≤ 20
  pub fits : (c : ℕ) → c < n → get_or at c 0 + b ≤ length src

-- `at` starts with the offsets of n blocks that stand one after the other
pub record Consecutive (n b : ℕ) (at : List ℕ) : Type 0 where
  pub each : (c : ℕ) → c < n → get_or at c 0 ≡ c * b
