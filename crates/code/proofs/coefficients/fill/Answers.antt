-- `code::coefficients::fill` meets its contract. Before turn t the first t coefficients are filled in. Assumes nothing.
use mathlib.Core.Path.{◌≡◌}
use Prim.Native.Nat.{◌+◌, zero-le}
use native.Mathlib.Omega.{arith}
use lib.ListN.{length-set}
use Rattle.code.proofs.CoefficientTable.{coefficient_at, filled_none, filled_more}
use Rattle.code.proofs.coefficients.fill.Goals as goal

pub loop-t-init : goal.loop-t-init
loop-t-init c = (zero-le, omega arith, filled_none _ _ _)

pub overflow_add-q : goal.overflow_add-q
overflow_add-q c = omega arith

pub offset_bounds-table-j : goal.offset_bounds-table-j
offset_bounds-table-j c = omega arith

pub bounds-table-j : goal.bounds-table-j
bounds-table-j c = omega arith

pub bounds-table-from : goal.bounds-table-from
bounds-table-from c = omega arith

pub bounds-q-t : goal.bounds-q-t
bounds-q-t c = omega arith

pub overflow_step-t : goal.overflow_step-t
overflow_step-t c = omega arith

pub loop-t-smaller : goal.loop-t-smaller
loop-t-smaller c = omega arith

pub loop-t-preserved : goal.loop-t-preserved
loop-t-preserved c =
    let args = c.args in
    let loop = c.loop-t in (
      omega arith,
      simp length-set (omega arith),
      filled_more args.j args.from loop.t _ loop.q loop.invariant.2 (omega arith)
          (coefficient_at args.j (args.from + loop.t) (omega arith) (omega arith)),
    )

pub returns : goal.returns
returns c = let e : c.loop-t.t ≡ c.args.count = omega arith in rw (← e) c.loop-t.invariant.2
