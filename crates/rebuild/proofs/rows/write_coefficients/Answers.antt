-- `rebuild::rows::write_coefficients` meets its contract. Before turn c the first c coefficients are stored. Assumes nothing.
use mathlib.Core.Path.{refl}
use Prim.Native.Nat.{zero-le}
use native.Mathlib.Omega.{arith}
use lib.ListN.{length-set}
use Rattle.area.proofs.Writes.{writes_none}
use Rattle.area.proofs.Loops.{turn}
use Rattle.rebuild.proofs.CodeRowLaws.{code_rows_more}
use Rattle.rebuild.proofs.rows.write_coefficients.Goals as goal

pub fill-requires : goal.fill-requires
fill-requires c = omega arith

pub loop-c-init : goal.loop-c-init
loop-c-init c = (zero-le, writes_none _ _ _, refl)

pub bounds-q-c : goal.bounds-q-c
bounds-q-c c = omega arith

pub overflow_mul-rows : goal.overflow_mul-rows
overflow_mul-rows c = omega arith

pub overflow_add-rows : goal.overflow_add-rows
overflow_add-rows c = omega arith

pub bounds-rows-j : goal.bounds-rows-j
bounds-rows-j c = omega arith

pub overflow_step-c : goal.overflow_step-c
overflow_step-c c = omega arith

pub loop-c-smaller : goal.loop-c-smaller
loop-c-smaller c = omega arith

pub loop-c-preserved : goal.loop-c-preserved
loop-c-preserved c = (omega arith, turn _ _ _ _ c.loop-c.invariant.1 refl, simp length-set (omega arith))

pub shape_of-rows : goal.shape_of-rows
shape_of-rows c = omega arith

pub returns : goal.returns
returns c =
    let args = c.args in
    let pre = c.requires in
    let fill = c.fill in
    let loop = c.loop-c in
    code_rows_more args.j _ _ fill.ensures (omega arith) (omega arith) pre.code_rows _ loop.invariant.1 (omega arith)
