-- `tiles::blocks::within_by` meets its contract. Before each turn the first t tiles are stored. Assumes nothing.
use mathlib.Core.Path.{◌≡◌}
use Prim.Native.Nat.{◌*◌}
use lib.ListN.{length}
use Rattle.area.specs.Area.{writes}
use Rattle.powers.specs.Powers.{power_byte}
use Rattle.tiles.proofs.blocks.within_by.Given as goal

abbrev pub invariant-loop-t : goal.invariant-loop-t
invariant-loop-t g l = (length l.area ≡ length l.initial.area)
    × (l.area ≡ writes l.initial.area l.to (power_byte g.row.M l.at l.initial.area l.n 0) (l.t * 256))
