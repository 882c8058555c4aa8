-- `parts::new_offsets` meets its contract. Before turn t the first t offsets are there. Assumes nothing.
use mathlib.Core.Path.{◌≡◌}
use Prim.Native.Nat.{ℕ, ◌*◌, ◌<◌}
use lib.ListN.{length, get_or}
use Rattle.layout.specs.Sources.{source_slot}
use Rattle.parts.proofs.new_offsets.Given as goal

abbrev pub invariant-loop-t : goal.invariant-loop-t
invariant-loop-t l = (length l.at ≡ 20) × ((u : ℕ) → u < l.t → get_or l.at u 0 ≡ source_slot l.z.shape l.w u * l.z.shape.b)
