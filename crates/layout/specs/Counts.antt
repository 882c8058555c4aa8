-- FORMAT §4; document 01, "Layout" and "Words and messages": the numbers of stripes and of transfers. Assumes nothing.
use Rattle.std.specs.Prelude.{ℕ, ◌+◌, ◌-◌, ◌*◌}
use Rattle.layout.specs.declared.Shape.{Shape}
use Rattle.layout.specs.Ranges.{rows}

-- the paper's P: kept stripes are numbered 0 to P - 1
unfoldable pub kept : Shape → ℕ
kept z = z.n * z.k * (z.n + z.s)

-- dissolved stripes are numbered from P on
unfoldable pub dissolved : Shape → ℕ
dissolved z = z.n * z.s * (z.n + z.s)

-- the paper's G: all stripes of a group
unfoldable pub stripes : Shape → ℕ
stripes z = kept z + dissolved z

-- the paper's T: the kept stripes below it are straight, the others swapped
unfoldable pub straight_stripes : Shape → ℕ
straight_stripes z = z.n * z.k * (z.n - z.s * (rows z - 1))

-- transfers (the paper's items) of one stripe, and of the whole growth
unfoldable pub transfers : Shape → ℕ
transfers z = z.s + rows z - 1

unfoldable pub all_transfers : Shape → ℕ
all_transfers z = kept z * transfers z
