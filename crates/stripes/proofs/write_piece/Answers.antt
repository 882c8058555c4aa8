-- `stripes::write_piece` meets its contract. Before turn j the first j rows are written. Assumes nothing.
use mathlib.Core.Path.{◌≡◌, ap, ◌∙◌}
use Prim.Native.Nat.{zero-le}
use native.Mathlib.Omega.{arith}
use lib.ListN.{length}
use Rattle.stripes.proofs.RowBytes.{length_rows}
use Rattle.stripes.proofs.Turns.{rows_start, columns_inside, row_fits, row_clear, row_turn}
use Rattle.stripes.proofs.write_piece.Goals as goal

pub loop-j-init : goal.loop-j-init
loop-j-init c = (zero-le, rows_start _ _ _ _ _)

pub write_row-requires : goal.write_row-requires
write_row-requires c =
    let pre = c.requires in
    let loop = c.loop-j in
    let same = ap length loop.invariant.1 ∙ length_rows _ _ _ _ _ _ in
    record {
      inside = columns_inside _ _ _ _ _ pre.stripe.inside same;
      b_in_bounds = (row_fits _ _ _ _ _ pre.stripe.inside loop.area same _ (omega arith), omega arith, omega arith, omega arith);
      clear = row_clear _ _ _ _ _ pre.stripe _ (omega arith);
      recognised = pre.all_recognised.each _ (omega arith);
    }

pub loop-j-preserved : goal.loop-j-preserved
loop-j-preserved c =
    let pre = c.requires in
    let loop = c.loop-j in
    (omega arith, row_turn _ _ _ _ _ pre.stripe _ loop.j (omega arith) loop.invariant.1 c.write_row.ensures)

pub shape_of-area : goal.shape_of-area
shape_of-area c = ap length c.loop-j.invariant.1 ∙ length_rows _ _ _ _ _ _

pub returns : goal.returns
returns c =
    let e : c.loop-j.j ≡ c.args.rows = omega arith in
    rw (← e) c.loop-j.invariant.1
