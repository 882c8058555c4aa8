-- `stripes::piece_holds` meets its contract. Before turn j the first j rows hold. Assumes nothing.
use mathlib.Core.Bool.{not}
use mathlib.Core.Path.{ap}
use mathlib.Core.Path.{refl}
use Prim.Native.Nat.{zero-le}
use native.Mathlib.Omega.{arith}
use Rattle.base.proofs.Tests.{every_none, every_stop, every_turn, every_end}
use Rattle.stripes.specs.Stripes.{rows_hold}
use Rattle.stripes.proofs.Turns.{columns_inside, row_fits}
use Rattle.stripes.proofs.piece_holds.Goals as goal

pub loop-j-init : goal.loop-j-init
loop-j-init c = (zero-le, every_none _)

pub row_holds-requires : goal.row_holds-requires
row_holds-requires c =
    let args = c.args in
    let pre = c.requires in
    let inside = columns_inside _ _ _ _ _ pre.inside refl in
    record {
      inside = inside;
      b_in_bounds = (row_fits _ _ _ _ _ pre.inside args.area.now refl _ (omega arith), omega arith, omega arith, omega arith);
      recognised = pre.all_recognised.each _ (omega arith);
    }

pub returns-then-not-row_holds : goal.returns-then-not-row_holds
unfolding rows_hold
returns-then-not-row_holds c =
    let loop = c.loop-j in
    every_stop _ _ loop.j (omega arith) c.row_holds.ensures (ap not c.if-not-row_holds.true)

pub loop-j-preserved : goal.loop-j-preserved
loop-j-preserved c =
    let loop = c.loop-j in
    (omega arith, every_turn _ _ loop.invariant.1 c.row_holds.ensures (ap not c.if-not-row_holds.false))

pub returns : goal.returns
unfolding rows_hold
returns c = every_end _ _ c.loop-j.invariant.1 (omega arith) (omega arith)
