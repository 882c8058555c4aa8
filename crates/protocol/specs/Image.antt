-- What each cell holds, from what begin left and from the marks alone. Assumes nothing.
use Rattle.std.specs.Prelude.{ℕ}
use Rattle.base.specs.Tests.{if}
use Rattle.protocol.specs.Parts.{Cells, Growth}
use Rattle.protocol.specs.World.{is_closed, Journal}
use Rattle.protocol.specs.Steps.{received}

module _ (G : Growth) where
  open G use {Block, zero_block, plus, delta0, payload_from, local_move, start}

  -- row 0 of w with its delta
  abbrev pub new_row0 : ℕ → Block
  new_row0 w = plus (start.row0 w) (delta0 w (start.source w))

  -- row 0's cell after the swap's local move
  abbrev pub moved_row0 : ℕ → Block
  moved_row0 w = local_move w (start.source w) (new_row0 w)

  -- the payload of transfer e of w, however often and whenever it is sent
  abbrev pub payload_of : ℕ → ℕ → Block
  payload_of w e = payload_from w e (start.source w) (new_row0 w)

  -- its cell once it was accepted
  abbrev pub new_target : ℕ → ℕ → Block
  new_target w e = received G e (start.target w e) (payload_of w e)

  unfoldable pub cells_for : Journal → Cells Block
  cells_for j = record {
    column = start.column;
    row0 = λ w. if (j.released w) (moved_row0 w) (if (j.computed w) (new_row0 w) (start.row0 w));
    target = λ w e. if (j.accepted w e) (new_target w e) (start.target w e);
    source = λ w t. if (is_closed j.state) zero_block (if (j.released w) zero_block (start.source w t));
    dissolved_row = λ g i. if (is_closed j.state) zero_block (start.dissolved_row g i);
  }
