-- `stripes::advance` meets its contract. Before turn p the first p offsets have moved, and the others have not. Assumes nothing.
use mathlib.Core.Path.{refl}
use Prim.Native.Nat.{zero-le}
use native.Mathlib.Omega.{arith}
use lib.ListN.{length-set}
use Rattle.stripes.proofs.Moves.{moved_more, kept_more}
use Rattle.stripes.proofs.advance.Goals as goal

pub loop-p-init : goal.loop-p-init
loop-p-init c = (zero-le, c.requires.at_len.0, λ q l. absurd (omega arith), λ q l. refl)

pub overflow_add-at : goal.overflow_add-at
overflow_add-at c =
    let loop = c.loop-p in
    rw (loop.invariant.3 loop.p (omega arith)) (c.requires.movable.each loop.p (omega arith))

pub loop-p-preserved : goal.loop-p-preserved
loop-p-preserved c =
    let loop = c.loop-p in
    let first = c.args.at.now in
    let moved = moved_more first loop.at loop.p _ loop.invariant.2 loop.invariant.3 (omega arith) in
    (omega arith, simp length-set (omega arith), moved, kept_more first loop.at loop.p _ loop.invariant.3)

pub returns : goal.returns
returns c = (c.loop-p.invariant.1, record { each = λ p l. c.loop-p.invariant.2 p (omega arith) })
