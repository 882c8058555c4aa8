-- `rebuild::rows::code_rows` meets its contract. Before turn j the first j rows are there. Assumes nothing.
use mathlib.Core.Path.{◌≡◌, refl}
use Prim.Native.Nat.{zero-le}
use native.Mathlib.Omega.{arith}
use Rattle.rebuild.proofs.CodeRowLaws.{code_rows_none}
use Rattle.rebuild.proofs.rows.code_rows.Goals as goal

pub loop-j-init : goal.loop-j-init
loop-j-init c = (zero-le, code_rows_none _, refl)

pub slice_bounds-write_coefficients-end : goal.slice_bounds-write_coefficients-end
slice_bounds-write_coefficients-end c = omega arith

pub write_coefficients-requires : goal.write_coefficients-requires
write_coefficients-requires c = record { code_rows = c.loop-j.invariant.1; j_bound = omega arith }

pub overflow_step-j : goal.overflow_step-j
overflow_step-j c = omega arith

pub loop-j-smaller : goal.loop-j-smaller
loop-j-smaller c = omega arith

pub loop-j-preserved : goal.loop-j-preserved
loop-j-preserved c = (omega arith, c.write_coefficients.ensures, omega arith)

pub returns : goal.returns
returns c = let e : c.loop-j.j ≡ 4 = omega arith in rw (← e) c.loop-j.invariant.1
