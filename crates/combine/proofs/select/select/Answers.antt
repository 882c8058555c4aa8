-- `combine::select::select` meets its contract. Before turn c the columns below c are selected. Assumes nothing.
use native.Mathlib.Omega.{arith}
use lib.ListN.{length-set}
use Rattle.combine.proofs.SelectLaws.{selected_start, selected_turn}
use Rattle.combine.proofs.select.select.Goals as goal

pub loop-c-init : goal.loop-c-init
loop-c-init c = (omega arith, selected_start _ _ _ _)

pub loop-c-preserved : goal.loop-c-preserved
loop-c-preserved c =
    let loop = c.loop-c in
    (simp length-set (omega arith), selected_turn _ _ loop.sel _ loop.c loop.s loop.invariant.1 (omega (arith, loop.invariant.1.few)))
