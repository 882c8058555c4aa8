-- `tiles::blocks::within_by` meets its contract. Before each turn the first t tiles are stored. Assumes nothing.
use mathlib.Core.Path.{◌≡◌, refl, ap, ◌∙◌}
use Prim.Native.Nat.{◌+◌, ◌*◌, ◌/◌, ◌%◌}
use native.Mathlib.Omega.{arith}
use lib.ListN.{length}
use Rattle.area.proofs.Writes.{writes_none, length_writes}
use Rattle.tiles.proofs.TileLaws.{tile_block, rest_block, within_turn, within_end}
use Rattle.tiles.proofs.blocks.within_by.Goals as goal

pub loop-t-init : goal.loop-t-init
loop-t-init g c = (refl, writes_none _ _ _)

pub loop-t-preserved : goal.loop-t-preserved
loop-t-preserved g c =
    let loop = c.loop-t in
    let next : loop.t * 256 + 256 ≡ (loop.t + 1) * 256 = omega arith in
    let e =
    within_turn g.row.M _ _ _ _ _ c.requires.clear (loop.t * 256) 256 loop.invariant.1 (omega arith)
    (tile_block _ _ _ _ _ _ c.horner.ensures) c.copy.ensures in
    (ap length e ∙ length_writes _ _ _ _, rw next at e)

pub returns-then-rest-gt0 : goal.returns-then-rest-gt0
returns-then-rest-gt0 g c =
    let loop = c.loop-t in
    let rest = c.args.b % 256 in
    let all : loop.t ≡ c.args.b / 256 = omega arith in
    let x = c.args.b / 256 * 256 in
    let e = rest_block g.row.M _ _ _ _ rest c.small-sum.ensures (omega arith) c.horner-then-rest-gt0.ensures _ in
    within_end g.row.M _ _ _ _ _ c.requires.clear (x + rest)
    (within_turn g.row.M _ _ _ _ _ c.requires.clear x rest (rw all at loop.invariant.1) (omega arith) e c.copy-then-rest-gt0.ensures)
    (omega arith) (omega arith)

pub returns-else-rest-gt0 : goal.returns-else-rest-gt0
returns-else-rest-gt0 g c =
    within_end g.row.M _ _ _ _ _ c.requires.clear (c.loop-t.t * 256) c.loop-t.invariant.1 (omega arith) (omega arith)
