-- `tiles::blocks::block_by` meets its contract. Before each turn the first t tiles are stored. Assumes nothing.
use mathlib.Core.Path.{◌≡◌}
use Prim.Native.Nat.{◌*◌}
use lib.ListN.{length}
use Rattle.area.specs.Area.{writes}
use Rattle.powers.specs.Powers.{power_byte}
use Rattle.tiles.proofs.blocks.block_by.Given as goal

abbrev pub invariant-loop-t : goal.invariant-loop-t
invariant-loop-t g l = (length l.out ≡ length l.initial.out)
    × (l.out ≡ writes l.initial.out 0 (power_byte g.row.M l.at l.src l.n 0) (l.t * 256))
