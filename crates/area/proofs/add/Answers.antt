-- `area::add` meets its contract. Before turn i the first i bytes are added. Assumes nothing.
use mathlib.Core.Path.{refl, ap, ◌∙◌}
use Prim.Native.Nat.{zero-le}
use native.Mathlib.Omega.{arith}
use lib.ListN.{length-set}
use Rattle.area.specs.Area.{put}
use Rattle.area.proofs.Writes.{writes_none}
use Rattle.area.proofs.Sums.{xor_blocks_blocks}
use Rattle.area.proofs.Loops.{turn, here, done}
use Rattle.area.proofs.add.Goals as goal

pub loop-i-init : goal.loop-i-init
loop-i-init c = (zero-le, writes_none _ _ _, refl)

pub overflow_add-dst : goal.overflow_add-dst
overflow_add-dst c = omega arith

pub bounds-dst-at : goal.bounds-dst-at
bounds-dst-at c = omega arith

pub overflow_add-dst-in-loop-i : goal.overflow_add-dst-in-loop-i
overflow_add-dst-in-loop-i c = omega arith

pub bounds-src-from : goal.bounds-src-from
bounds-src-from c = omega arith

pub overflow_add-dst-in-loop-i-2 : goal.overflow_add-dst-in-loop-i-2
overflow_add-dst-in-loop-i-2 c = omega arith

pub bounds-dst-at-in-loop-i : goal.bounds-dst-at-in-loop-i
bounds-dst-at-in-loop-i c = omega arith

pub overflow_step-i : goal.overflow_step-i
overflow_step-i c = omega arith

pub loop-i-smaller : goal.loop-i-smaller
loop-i-smaller c = omega arith

pub loop-i-preserved : goal.loop-i-preserved
loop-i-preserved c =
    let loop = c.loop-i in
    (omega arith, turn _ _ _ _ loop.invariant.1 (rw (here _ _ _ _ loop.invariant.1)), simp length-set (omega arith))

pub shape_of-dst : goal.shape_of-dst
shape_of-dst c = omega arith

pub returns : goal.returns
returns c =
    let loop = c.loop-i in
    done _ _ _ _ loop.invariant.1 loop.invariant.0 c.loop-i-test.false ∙ ap (put _ _) (xor_blocks_blocks _ _ _ _ _)
