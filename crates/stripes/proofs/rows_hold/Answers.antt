-- `stripes::rows_hold` meets its contract. Before each turn the first x bytes of every row hold. Assumes nothing.
use mathlib.Core.Bool.{not}
use mathlib.Core.Path.{ap}
use mathlib.Core.Path.{refl}
use Prim.Native.Nat.{zero-le}
use native.Mathlib.Omega.{arith}
use Rattle.stripes.proofs.Moves.{moved_then, movable}
use Rattle.stripes.proofs.Pieces.{unmoved, moved_inside}
use Rattle.stripes.proofs.Holding.{holds_none, piece_more, piece_fails, piece_end}
use Rattle.stripes.proofs.rows_hold.Goals as goal

pub loop-x-init : goal.loop-x-init
loop-x-init c = (zero-le, c.requires.at_len.0, unmoved _ _, holds_none _ _ _ _ _)

pub piece_holds-requires : goal.piece_holds-requires
piece_holds-requires c =
    let pre = c.requires in
    let loop = c.loop-x in
    record {
      inside = moved_inside _ _ _ _ pre.at_len.1 loop.x _ (omega arith) loop.invariant.2 _ refl;
      k_bound = (omega arith, omega arith, omega arith);
      all_recognised = pre.all_recognised;
    }

pub returns-then-not-piece_holds : goal.returns-then-not-piece_holds
returns-then-not-piece_holds c =
    let loop = c.loop-x in
    piece_fails _ _ _ _ _ loop.x _ loop.invariant.2 _ _ (omega arith) c.piece_holds.ensures (ap not c.if-not-piece_holds.true)

pub advance-requires : goal.advance-requires
advance-requires c =
    let pre = c.requires in
    let loop = c.loop-x in
    record {
      at_len = (loop.invariant.1, omega (arith, pre.at_len.1.count));
      movable = movable pre.at_len.1 (omega arith) loop.invariant.2 (omega arith);
    }

pub loop-x-preserved : goal.loop-x-preserved
loop-x-preserved c =
    let loop = c.loop-x in
    let held = c.piece_holds in
    let more = piece_more _ _ _ _ _ loop.x _ loop.invariant.2 _ loop.invariant.3 held.ensures (ap not c.if-not-piece_holds.false) in
    (omega arith, c.advance.ensures.0, moved_then loop.invariant.2 c.advance.ensures.1, more)

pub piece_holds-requires-2 : goal.piece_holds-requires-2
piece_holds-requires-2 c =
    let pre = c.requires in
    let loop = c.loop-x in
    record {
      inside = moved_inside _ _ _ _ pre.at_len.1 loop.x _ (omega arith) loop.invariant.2 _ refl;
      k_bound = (omega arith, omega arith, omega arith);
      all_recognised = pre.all_recognised;
    }

pub returns : goal.returns
returns c =
    let loop = c.loop-x in
    piece_end _ _ _ _ _ loop.x _ loop.invariant.2 _ _ _ (omega arith) loop.invariant.3 c.piece_holds-2.ensures
