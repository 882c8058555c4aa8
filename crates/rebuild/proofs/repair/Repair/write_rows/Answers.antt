-- `rebuild::repair::Repair::write_rows` meets its contract. Before turn j the rows before j are written. Assumes nothing.
use mathlib.Core.Path.{refl}
use Prim.Native.Nat.{zero-le}
use native.Mathlib.Omega.{arith}
use Rattle.base.proofs.Runs.{run_start, run_turn, run_end}
use Rattle.rebuild.specs.Steps.{rows_written}
use Rattle.rebuild.proofs.repair.Repair.write_rows.Goals as goal

pub overflow_sub-j-end : goal.overflow_sub-j-end
overflow_sub-j-end c = omega (arith, c.args.self.now.sizes)

pub loop-j-init : goal.loop-j-init
loop-j-init c = (zero-le, run_start _ _, refl)

pub write_row-requires : goal.write_row-requires
write_row-requires c =
    let sizes = c.args.self.now.sizes in
    (omega (arith, sizes), omega (arith, sizes), omega arith)

pub overflow_step-j : goal.overflow_step-j
overflow_step-j c = omega (arith, c.args.self.now.sizes)

pub loop-j-smaller : goal.loop-j-smaller
loop-j-smaller c = omega (arith, c.args.self.now.sizes)

pub loop-j-preserved : goal.loop-j-preserved
loop-j-preserved c =
    let loop = c.loop-j in
    let write-row = c.write_row in
    (omega (arith, c.args.self.now.sizes), run_turn _ _ _ loop.invariant.1 write-row.ensures, omega (arith, c.args.self.now.sizes))

pub shape_of-stripe : goal.shape_of-stripe
shape_of-stripe c = omega (arith, c.args.self.now.sizes)

pub returns : goal.returns
unfolding rows_written
returns c = run_end _ _ _ c.loop-j.invariant.1 (omega (arith, c.args.self.now.sizes)) (omega (arith, c.args.self.now.sizes))
