-- `area::copy_within` meets its contract. Before turn i the first i bytes are stored; the block that is read is still as it was. Assumes
-- nothing.
use mathlib.Core.Path.{refl, ap, ◌∙◌}
use Prim.Native.Nat.{zero-le}
use native.Mathlib.Omega.{arith}
use lib.ListN.{length-set}
use Rattle.area.specs.Area.{put}
use Rattle.area.proofs.Writes.{writes_none}
use Rattle.area.proofs.Blocks.{block_def}
use Rattle.area.proofs.Loops.{turn, apart, done}
use Rattle.area.proofs.copy_within.Goals as goal

pub loop-i-init : goal.loop-i-init
loop-i-init c = (zero-le, writes_none _ _ _, refl)

pub overflow_add-area : goal.overflow_add-area
overflow_add-area c = omega arith

pub bounds-area-from : goal.bounds-area-from
bounds-area-from c = omega arith

pub overflow_add-area-in-loop-i : goal.overflow_add-area-in-loop-i
overflow_add-area-in-loop-i c = omega arith

pub bounds-area-at : goal.bounds-area-at
bounds-area-at c = omega arith

pub overflow_step-i : goal.overflow_step-i
overflow_step-i c = omega arith

pub loop-i-smaller : goal.loop-i-smaller
loop-i-smaller c = omega arith

pub loop-i-preserved : goal.loop-i-preserved
loop-i-preserved c =
    let loop = c.loop-i in
    let pre = c.requires in
    let loop-test = c.loop-i-test in
    (omega arith, turn _ _ _ _ loop.invariant.1 (apart _ _ _ _ _ _ loop.invariant.1 pre.fact loop-test.true), simp length-set (omega arith))

pub shape_of-area : goal.shape_of-area
shape_of-area c = omega arith

pub returns : goal.returns
returns c = done _ _ _ _ c.loop-i.invariant.1 c.loop-i.invariant.0 c.loop-i-test.false ∙ ap (put _ _) (block_def _ _ _)
