-- Where a block can be stored straight in the area that its columns are in. Assumes nothing.
use Rattle.std.specs.Prelude.{List, ◌⊎◌, ℕ, ◌+◌, ◌≤◌, ◌<◌, get_or}

-- each column begins at `to` or after it, or ends there at the latest: b bytes can be stored from `to` on, from the first to the last,
-- while the columns are read in step. So it is wherever `to` and the offsets are multiples of b; `to` may be one of the offsets
pub record Clear (at : List ℕ) (n to b : ℕ) : Type 0 where
  pub each : (c : ℕ) → c < n → (to ≤ get_or at c 0) ⊎ (get_or at c 0 + b ≤ to)
