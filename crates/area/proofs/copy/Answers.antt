-- `area::copy` meets its contract. Before turn i the first i bytes are stored. Assumes nothing.
use mathlib.Core.Path.{refl, ap, ◌∙◌}
use Prim.Native.Nat.{zero-le}
use native.Mathlib.Omega.{arith}
use lib.ListN.{length-set}
use Rattle.area.specs.Area.{put}
use Rattle.area.proofs.Writes.{writes_none}
use Rattle.area.proofs.Blocks.{block_def}
use Rattle.area.proofs.Loops.{turn, done}
use Rattle.area.proofs.copy.Goals as goal

pub loop-i-init : goal.loop-i-init
loop-i-init c = (zero-le, writes_none _ _ _, refl)

pub overflow_add-dst : goal.overflow_add-dst
overflow_add-dst c = omega arith

pub bounds-src-from : goal.bounds-src-from
bounds-src-from c = omega arith

pub overflow_add-dst-in-loop-i : goal.overflow_add-dst-in-loop-i
overflow_add-dst-in-loop-i c = omega arith

pub bounds-dst-at : goal.bounds-dst-at
bounds-dst-at c = omega arith

pub overflow_step-i : goal.overflow_step-i
overflow_step-i c = omega arith

pub loop-i-smaller : goal.loop-i-smaller
loop-i-smaller c = omega arith

pub loop-i-preserved : goal.loop-i-preserved
loop-i-preserved c = (omega arith, turn _ _ _ _ c.loop-i.invariant.1 refl, simp length-set (omega arith))

pub shape_of-dst : goal.shape_of-dst
shape_of-dst c = omega arith

pub returns : goal.returns
returns c = done _ _ _ _ c.loop-i.invariant.1 c.loop-i.invariant.0 c.loop-i-test.false ∙ ap (put _ _) (block_def _ _ _)
