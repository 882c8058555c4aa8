-- Which slots of a period of n have a data block of node i, by number and back: all but the r slots of its rows, which are one run
-- that may go over the period's end. These closed forms are what the code computes; that they are the listing's is proved in
-- proofs/SourceLaws. Assumes nothing.
use Rattle.std.specs.Prelude.{ℕ, suc, ◌+◌, ◌-◌, min, leb}
use Rattle.base.specs.Tests.{if}

-- the offset in a period of number b of these slots: before the run of rows, or behind it
unfoldable pub nth_offset : (r i b : ℕ) → ℕ
nth_offset r i b = if (leb (b + r) i) b (b + min r (suc i))

-- the other way: the number of the slot at offset x
unfoldable pub offset_rank : (r i x : ℕ) → ℕ
offset_rank r i x = if (leb x i) x (x - min r (suc i))
