-- FORMAT §5; document 01, "Layout": the slots of a node, and where they stand in the area. Assumes nothing.
use Rattle.std.specs.Prelude.{ℕ, ◌+◌, ◌*◌, ltb}
use Rattle.base.specs.Tests.{if}
use Rattle.base.specs.Folds.{sum}
use Rattle.layout.specs.declared.Shape.{Shape}
use Rattle.layout.specs.Counts.{kept, stripes}

-- old nodes are 0 to n - 1 and have G slots, new ones n to n + s - 1 and have P
unfoldable pub node_slots : Shape → ℕ → ℕ
node_slots z v = if (ltb v z.n) (stripes z) (kept z)

-- nodes in order: the slots of all nodes before node v
unfoldable pub node_start : Shape → ℕ → ℕ
node_start z v = sum v (node_slots z)

-- slots in order: the number of node v's slot g among all slots of the area
unfoldable pub address : Shape → ℕ → ℕ → ℕ
address z v g = node_start z v + g

-- all slots, and all bytes of the area
unfoldable pub area_slots : Shape → ℕ
area_slots z = z.n * stripes z + z.s * kept z

unfoldable pub area_length : Shape → ℕ
area_length z = area_slots z * z.b
