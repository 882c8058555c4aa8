-- Document 01, "Calls": where an old block is while the growth runs. Assumes nothing.
use Rattle.std.specs.Prelude.{ℕ, ◌<◌}
use Rattle.base.specs.Tests.{if}
use Rattle.protocol.specs.Parts.{Cells, Growth}
use Rattle.protocol.specs.World.{World}

-- old block (g, d) is a column of a kept stripe, or a new block of one; the layout says which
pub data OldBlock : Type 0 where
  kept_column : (w d : ℕ) → OldBlock
  new_block : (w t : ℕ) → OldBlock

module _ (G : Growth) where
  open G use {Block, stripes, new_blocks, ends_in_row0, carrier, start}

  -- which old blocks there are; a kept stripe's columns are never touched, so any will do
  abbrev pub Exists : OldBlock → Type 0
  Exists (kept_column w d) = Unit {0}
  Exists (new_block w t) = (w < stripes) × (t < new_blocks)

  -- where new block t of w ends
  abbrev pub end_of : Cells Block → ℕ → ℕ → Block
  end_of c w t = if (ends_in_row0 w t) (c.row0 w) (c.target w (carrier t))

  -- a dissolved block is in its new place once its w is released
  unfoldable pub reads : World G → OldBlock → Block
  reads s (kept_column w d) = s.cells.column w d
  reads s (new_block w t) = if (s.journal.released w) (end_of s.cells w t) (s.cells.source w t)

  -- what it held when begin accepted
  abbrev pub held : OldBlock → Block
  held (kept_column w d) = start.column w d
  held (new_block w t) = start.source w t
