-- A node's own part of the area: slot g of the part is the node's cell g. Assumes nothing.
use Rattle.std.specs.Prelude.{◌≡◌, List, ℕ, ◌*◌, ◌<◌, get_or}
use borrow.Rule.Slice.PartMut.{put_mid, mid_of}
use Rattle.area.specs.Area.{slot}
use Rattle.layout.specs.declared.Shape.{Shape}
use Rattle.layout.specs.Addresses.{node_slots, node_start}
use Rattle.layout.specs.Sources.{source_slot}

-- the part of node v, and the area with another part in its place
abbrev pub part_of : Shape → ℕ → List ℕ → List ℕ
part_of z v area = mid_of (node_start z v * z.b) (node_slots z v * z.b) area

abbrev pub with_part : Shape → ℕ → List ℕ → List ℕ → List ℕ
with_part z v area own = put_mid (node_start z v * z.b) (node_slots z v * z.b) area own

-- new block t of w, in the part of the node that it comes from
unfoldable pub own_new : Shape → List ℕ → ℕ → ℕ → List ℕ
own_new z own w t = slot own z.b (source_slot z w t)

-- `at` starts with the offsets of the s new blocks of w in that part
pub record NewOffsets (z : Shape) (w : ℕ) (at : List ℕ) : Type 0 where
  pub each : (t : ℕ) → t < z.s → get_or at t 0 ≡ source_slot z w t * z.b
