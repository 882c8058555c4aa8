-- `tiles::blocks::block_by` meets its contract. Before each turn the first t tiles are stored. Assumes nothing.
use mathlib.Core.Path.{◌≡◌, refl, ap, ◌∙◌}
use Prim.Native.Nat.{◌+◌, ◌*◌, ◌/◌}
use native.Mathlib.Omega.{arith}
use lib.ListN.{length}
use Rattle.area.proofs.Writes.{writes_none, length_writes}
use Rattle.tiles.proofs.TileLaws.{tile_block, block_turn, block_end, block_rest}
use Rattle.tiles.proofs.blocks.block_by.Goals as goal

pub loop-t-init : goal.loop-t-init
loop-t-init g c = (refl, writes_none _ _ _)

pub loop-t-preserved : goal.loop-t-preserved
loop-t-preserved g c =
    let loop = c.loop-t in
    let next : loop.t * 256 + 256 ≡ (loop.t + 1) * 256 = omega arith in
    let e = block_turn g.row.M _ _ _ _ (loop.t * 256) 256 loop.invariant.1 (tile_block _ _ _ _ _ _ c.horner.ensures) c.copy.ensures in
    (ap length e ∙ length_writes _ _ _ _, rw next at e)

pub returns-then-rest-out : goal.returns-then-rest-out
returns-then-rest-out g c =
    let loop = c.loop-t in
    let all : loop.t ≡ length c.args.out.now / 256 = omega arith in
    block_rest _ _ _ _ _ _ (rw all at loop.invariant.1) loop.invariant.0 (omega arith) c.horner-then-rest-out.ensures

pub returns-else-rest-out : goal.returns-else-rest-out
returns-else-rest-out g c = block_end _ _ _ _ _ (c.loop-t.t * 256) c.loop-t.invariant.1 (omega arith) (omega arith)
