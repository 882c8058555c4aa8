-- FORMAT §18; document 01, "Runs of calls": the store once close has succeeded. `old` is the area that begin accepted. Assumes nothing.
use Rattle.std.specs.Prelude.{◌≡◌, List, [], ◌∷◌, ℕ, suc, ◌+◌, ◌-◌, ◌*◌, ◌<◌, ltb}
use Rattle.base.specs.Tests.{if, same}
use Rattle.base.specs.Folds.{sum, indicator}
use Rattle.code.specs.Rows.{parity_row}
use Rattle.layout.specs.declared.Shape.{Shape}
use Rattle.layout.specs.Ranges.{rows}
use Rattle.layout.specs.Counts.{kept, stripes}
use Rattle.layout.specs.Closed.{new_row_node, new_data_node, new_parity_at, new_data_at}
use Rattle.layout.specs.Columns.{old_stripe, old_column}
use Rattle.protocol.specs.Transfers.{Transfer, occurrences}
use Rattle.growth.specs.Cells.{cell, column, multiplier}
use Rattle.growth.specs.ClosedArea.{closed_area}
use Rattle.history.specs.Contents.{Trace, accepted_of}

-- column c of new stripe w is the old block (g, d)
abbrev pub IsColumn : Shape → (w c g d : ℕ) → Type 0
IsColumn z w c g d = (old_stripe z w c ≡ g) × (old_column z w c ≡ d)

-- the old block (g, d) is exactly one column of exactly one new stripe, and the closed layout's cell for it holds the bytes that the block
-- had when begin accepted
pub record ThereOnce (z : Shape) (old area : List ℕ) (g d : ℕ) : Type 0 where
  pub stripe : ℕ
  pub place : ℕ
  pub stripe_lt : stripe < kept z
  pub place_lt : place < z.k + z.s
  pub is_column : IsColumn z stripe place g d
  pub only : (w c : ℕ) → w < kept z → c < z.k + z.s → IsColumn z w c g d → (w ≡ stripe) × (c ≡ place)
  pub bytes : cell z area (new_data_node z stripe place) stripe ≡ column z old g d

-- parity row j of new stripe w, as the closed layout has its cell, is fresh encoding over the k + s columns that it has
abbrev pub FreshParity : Shape → List ℕ → (w j : ℕ) → Type 0
FreshParity z area w j =
    cell z area (new_row_node z w j) w ≡ parity_row (multiplier z) z.b (z.k + z.s) j (λ c. cell z area (new_data_node z w c) w)

-- how many transfers of stripe w stand in the list
unfoldable pub of_stripe : ℕ → List Transfer → ℕ
of_stripe w [] = 0
of_stripe w (i ∷ list) = if (same w i.stripe) (suc (of_stripe w list)) (of_stripe w list)

pub record Grown (z : Shape) (old area : List ℕ) (t : Trace) : Type 0 where
  pub area_is : area ≡ closed_area z old
  pub parity : (w j : ℕ) → w < kept z → j < rows z → FreshParity z area w j
  pub there_once : (g d : ℕ) → g < stripes z → d < z.k → ThereOnce z old area g d
  -- every node has nk(k + s) data and nkr parity blocks
  pub even_data : (v : ℕ) → v < z.n + z.s → sum (kept z) (λ w. indicator (new_data_at z v w)) ≡ z.n * z.k * (z.k + z.s)
  pub even_parity : (v : ℕ) → v < z.n + z.s → sum (kept z) (λ w. indicator (new_parity_at z v w)) ≡ z.n * z.k * rows z
  -- exactly s + r - 1 blocks of each new stripe were accepted: transfers 0 to s + r - 2, each by exactly one done deliver
  pub accepted_blocks : (w : ℕ) → w < kept z → of_stripe w (accepted_of t) ≡ z.s + rows z - 1
  pub accepted_once : (w e : ℕ) → w < kept z → occurrences w e (accepted_of t) ≡ if (ltb e (z.s + rows z - 1)) 1 0
