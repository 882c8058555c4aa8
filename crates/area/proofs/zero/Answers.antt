-- `area::zero` meets its contract. Before turn i the first i bytes are zeroed. Assumes nothing.
use mathlib.Core.Path.{refl}
use Prim.Native.Nat.{zero-le}
use native.Mathlib.Omega.{arith}
use lib.ListN.{length-set}
use Rattle.area.specs.Area.{zeros}
use Rattle.area.proofs.Writes.{writes_none}
use Rattle.area.proofs.Loops.{turn, done}
use Rattle.area.proofs.zero.Goals as goal

pub loop-i-init : goal.loop-i-init
loop-i-init c = (zero-le, writes_none _ _ _, refl)

pub overflow_add-area : goal.overflow_add-area
overflow_add-area c = omega arith

pub bounds-area-at : goal.bounds-area-at
bounds-area-at c = omega arith

pub overflow_step-i : goal.overflow_step-i
overflow_step-i c = omega arith

pub loop-i-smaller : goal.loop-i-smaller
loop-i-smaller c = omega arith

pub loop-i-preserved : goal.loop-i-preserved
loop-i-preserved c = (omega arith, turn _ _ _ _ c.loop-i.invariant.1 refl, simp length-set (omega arith))

pub shape_of-area : goal.shape_of-area
shape_of-area c = omega arith

pub returns : goal.returns
unfolding zeros
returns c = done _ _ _ _ c.loop-i.invariant.1 c.loop-i.invariant.0 c.loop-i-test.false
