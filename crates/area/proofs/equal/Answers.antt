-- `area::equal` meets its contract. What is collected before turn i is 0 exactly if the first i bytes are the same. Assumes nothing.
use Prim.Native.Nat.{zero-le}
use native.Mathlib.Omega.{arith}
use Rattle.area.proofs.Compare.{collected_none, collected_more, same_block, other_block}
use Rattle.area.proofs.equal.Goals as goal

pub loop-i-init : goal.loop-i-init
loop-i-init c = (zero-le, collected_none _ _ _ _)

pub overflow_add-differ : goal.overflow_add-differ
overflow_add-differ c = omega arith

pub bounds-x-at : goal.bounds-x-at
bounds-x-at c = omega arith

pub overflow_add-differ-in-loop-i : goal.overflow_add-differ-in-loop-i
overflow_add-differ-in-loop-i c = omega arith

pub bounds-y-from : goal.bounds-y-from
bounds-y-from c = omega arith

pub overflow_step-i : goal.overflow_step-i
overflow_step-i c = omega arith

pub loop-i-smaller : goal.loop-i-smaller
loop-i-smaller c = omega arith

pub loop-i-preserved : goal.loop-i-preserved
loop-i-preserved c = (omega arith, collected_more _ _ _ _ _ _ c.loop-i.invariant.1)

pub returns-then-differ-eq0 : goal.returns-then-differ-eq0
returns-then-differ-eq0 c = same_block _ _ _ _ _ _ c.loop-i.i c.loop-i.invariant.1 (omega arith) c.if-differ-eq0.true

pub returns : goal.returns
returns c = other_block _ _ _ _ _ _ c.loop-i.i c.loop-i.invariant.1 (omega arith) c.if-differ-eq0.false
