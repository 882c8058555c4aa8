-- `rebuild::repair::Repair::write_columns` meets its contract. Before turn c the columns before c are written. Assumes nothing.
use mathlib.Core.Path.{refl}
use Prim.Native.Nat.{zero-le}
use native.Mathlib.Omega.{arith}
use Rattle.base.proofs.Runs.{run_start, run_turn, run_end}
use Rattle.rebuild.specs.Steps.{columns_written}
use Rattle.rebuild.proofs.StoreLaws.{column_step_law}
use Rattle.rebuild.proofs.repair.Repair.write_columns.Goals as goal

pub loop-c-init : goal.loop-c-init
loop-c-init c = (zero-le, run_start _ _, refl)

pub offset_bounds-fixing-c : goal.offset_bounds-fixing-c
offset_bounds-fixing-c c = omega (arith, c.args.self.now.sizes)

pub bounds-fixing-c : goal.bounds-fixing-c
bounds-fixing-c c = omega (arith, c.args.self.now.sizes)

pub write_column-requires : goal.write_column-requires
write_column-requires c =
    let pre = c.requires in
    let loop = c.loop-c in
    (pre.fixing_rows.rows loop.c, omega (arith, c.args.self.now.sizes), omega (arith, pre.room))

pub overflow_step-c : goal.overflow_step-c
overflow_step-c c = omega (arith, c.args.self.now.sizes)

pub loop-c-smaller : goal.loop-c-smaller
loop-c-smaller c = omega (arith, c.args.self.now.sizes)

pub loop-c-preserved : goal.loop-c-preserved
loop-c-preserved c =
    let pre = c.requires in
    let loop = c.loop-c in
    let write-column = c.write_column in (
      omega (arith, c.args.self.now.sizes),
      run_turn _ _ _ loop.invariant.1
          (column_step_law _ _ _ _ _ _ _ _ (pre.fixing_rows.each loop.c (omega (arith, c.args.self.now.sizes))) write-column.ensures),
      omega (arith, c.args.self.now.sizes),
    )

pub shape_of-stripe : goal.shape_of-stripe
shape_of-stripe c = omega (arith, c.args.self.now.sizes)

pub returns : goal.returns
unfolding columns_written
returns c = run_end _ _ _ c.loop-c.invariant.1 (omega (arith, c.args.self.now.sizes)) (omega (arith, c.args.self.now.sizes))
