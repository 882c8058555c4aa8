-- The blocks of one stripe in an area, by their offsets: k columns, then r rows. Assumes nothing.
use Rattle.std.specs.Prelude.{◌≡◌, Bool, List, ◌⊎◌, ℕ, ◌+◌, ◌≤◌, ◌<◌, get_or}
use Rattle.std.specs.Int.{w64}
use Rattle.std.proofs.Common.{Fits}
use Rattle.base.specs.Folds.{run}
use Rattle.base.specs.Tests.{every}
use Rattle.area.specs.Area.{block, put, same_bytes}
use Rattle.combine.specs.Columns.{columns_at, Inside}
use Rattle.code.specs.Rows.{parity_row}

-- blocks of b bytes at u and at v have no byte in common
abbrev pub Apart : ℕ → ℕ → ℕ → Type 0
Apart b u v = (u + b ≤ v) ⊎ (v + b ≤ u)

-- `at` starts with the offsets of blocks of b bytes, each inside the area; no row has a byte of a column or of another row
pub record Stripe (at : List ℕ) (k r b : ℕ) (area : List ℕ) : Type 0 where
  pub inside : Inside at (k + r) b area
  pub beside : (c j : ℕ) → c < k → j < r → Apart b (get_or at c 0) (get_or at (k + j) 0)
  pub apart : (i j : ℕ) → i < r → j < r → (i ≡ j → ⊥) → Apart b (get_or at (k + i) 0) (get_or at (k + j) 0)

-- row j of the code with these multipliers, as the columns in the area `lent` give it
abbrev pub row_of : (ℕ → ℕ) → List ℕ → ℕ → ℕ → List ℕ → ℕ → List ℕ
row_of m at b k lent j = parity_row m b k j (columns_at at lent b)

-- the area with the first n rows in their places, as the columns in the lent one give them
unfoldable pub with_rows : (ℕ → ℕ) → List ℕ → ℕ → ℕ → ℕ → List ℕ → List ℕ
with_rows m at b k n lent = run (λ j a. put a (get_or at (k + j) 0) (row_of m at b k lent j)) 0 n lent

-- each of the first n rows is what the columns give
abbrev pub row_test : (ℕ → ℕ) → List ℕ → ℕ → ℕ → List ℕ → ℕ → Bool
row_test m at b k area j = same_bytes (block area (get_or at (k + j) 0) b) (row_of m at b k area j)

unfoldable pub rows_hold : (ℕ → ℕ) → List ℕ → ℕ → ℕ → ℕ → List ℕ → Bool
rows_hold m at b k n area = every n (row_test m at b k area)

-- the first n offsets, each x further on
pub record Moved (at after : List ℕ) (n x : ℕ) : Type 0 where
  pub each : (p : ℕ) → p < n → get_or after p 0 ≡ get_or at p 0 + x

-- each of them can be moved on by x
pub record Movable (at : List ℕ) (n x : ℕ) : Type 0 where
  pub each : (p : ℕ) → p < n → Fits w64 (get_or at p 0 + x)
