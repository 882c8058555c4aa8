-- `stripes::write_rows` meets its contract. Before each turn the first x bytes of every row are written. Assumes nothing.
use Prim.Native.Nat.{zero-le}
use native.Mathlib.Omega.{arith}
use Rattle.stripes.proofs.Moves.{moved_then, movable}
use Rattle.stripes.proofs.Pieces.{unmoved, no_piece, piece_stripe, piece_size, piece_turn, last_piece}
use Rattle.stripes.proofs.write_rows.Goals as goal

pub loop-x-init : goal.loop-x-init
loop-x-init c = (zero-le, c.requires.at_len.0, unmoved _ _, no_piece _ _ _ _ _)

pub write_piece-requires : goal.write_piece-requires
write_piece-requires c =
    let pre = c.requires in
    let loop = c.loop-x in
    record {
      stripe = piece_stripe _ _ _ _ _ _ pre.at_len.1 loop.x _ (omega arith) loop.invariant.2 loop.invariant.3;
      k_bound = (omega arith, omega arith, omega arith);
      all_recognised = pre.all_recognised;
    }

pub advance-requires : goal.advance-requires
advance-requires c =
    let pre = c.requires in
    let loop = c.loop-x in
    record {
      at_len = (loop.invariant.1, omega (arith, pre.at_len.1.inside.count));
      movable = movable pre.at_len.1.inside (omega arith) loop.invariant.2 (omega arith);
    }

pub loop-x-preserved : goal.loop-x-preserved
loop-x-preserved c =
    let pre = c.requires in
    let loop = c.loop-x in
    let piece = c.write_piece in
    let after = piece_turn _ _ _ _ _ _ pre.at_len.1 loop.x 512 (omega arith) loop.invariant.2 loop.invariant.3 piece.ensures in
    (omega arith, c.advance.ensures.0, moved_then loop.invariant.2 c.advance.ensures.1, after)

pub write_piece-requires-2 : goal.write_piece-requires-2
write_piece-requires-2 c =
    let pre = c.requires in
    let loop = c.loop-x in
    record {
      stripe = piece_stripe _ _ _ _ _ _ pre.at_len.1 loop.x _ (omega arith) loop.invariant.2 loop.invariant.3;
      k_bound = (omega arith, omega arith, omega arith);
      all_recognised = pre.all_recognised;
    }

pub shape_of-area : goal.shape_of-area
shape_of-area c =
    let pre = c.requires in
    let loop = c.loop-x in
    let piece = c.write_piece-2 in
    piece_size _ _ _ _ _ _ pre.at_len.1 loop.x _ (omega arith) loop.invariant.2 loop.invariant.3 piece.ensures

pub returns : goal.returns
returns c =
    let pre = c.requires in
    let loop = c.loop-x in
    let piece = c.write_piece-2 in
    last_piece _ _ _ _ _ loop.x _ (omega arith)
    (piece_turn _ _ _ _ _ _ pre.at_len.1 loop.x _ (omega arith) loop.invariant.2 loop.invariant.3 piece.ensures)
