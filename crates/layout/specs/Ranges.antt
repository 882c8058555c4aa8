-- FORMAT §4; document 01, "Shape and code": the ranges of a shape, and refusals 1 and 2. Assumes nothing.
use Rattle.std.specs.Prelude.{Bool, not, [], ◌∷◌, ℕ, ◌+◌, ◌-◌, ◌*◌, ◌≤◌, ◌<◌, leb, ltb}
use Rattle.base.specs.Tests.{all}
use Rattle.base.specs.Refusals.{refuse, first}
use Rattle.layout.specs.declared.Shape.{Shape}

-- r, the number of parity rows
abbrev pub rows : Shape → ℕ
rows z = z.n - z.k

abbrev pub within_ranges : Shape → Bool
within_ranges z =
    all (leb 1 z.k ∷ ltb z.k z.n ∷ leb 1 z.s ∷ leb (z.n + z.s) 20 ∷ leb (rows z) 4 ∷ leb 1 z.b ∷ leb z.b 4096 ∷ [])

-- the refusal of a shape, 0 where nothing refuses it
unfoldable pub shape_refusal : Shape → ℕ
shape_refusal z =
    first
    (refuse (not (within_ranges z)) 1 ∷
    refuse (not (leb (z.s * (rows z - 1)) z.n)) 2 ∷
    [])

-- the same as facts: what every law below relies on
pub record InRanges (z : Shape) : Type 0 where
  pub some_data : 1 ≤ z.k
  pub some_rows : z.k < z.n
  pub some_new : 1 ≤ z.s
  pub few_nodes : z.n + z.s ≤ 20
  pub few_rows : rows z ≤ 4
  pub some_bytes : 1 ≤ z.b
  pub few_bytes : z.b ≤ 4096
  pub fits : z.s * (rows z - 1) ≤ z.n
