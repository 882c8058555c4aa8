-- Where a block's first byte is, in its first place and in its new one. Assumes nothing.
use mathlib.Core.Path.{◌≡◌, refl}
use mathlib.Core.Bool.{true, false}
use mathlib.Core.List.{List}
use Prim.Native.Nat.{ℕ, ◌+◌, ◌*◌, ◌≤◌, ◌<◌}
use native.Mathlib.Omega.{arith}
use Rattle.layout.specs.declared.Shape.{Shape}
use Rattle.layout.specs.Ranges.{InRanges}
use Rattle.layout.specs.Counts.{kept, stripes}
use Rattle.layout.specs.Addresses.{node_slots, address, area_length}
use Rattle.layout.specs.Nodes.{data_node}
use Rattle.layout.specs.Closed.{new_data_node}
use Rattle.layout.specs.Columns.{new_stripe, new_column, has_moved, standing_node, standing_slot}
use Rattle.layout.proofs.AddressLaws.{slots_old, kept_slots, cell_inside}
use Rattle.layout.proofs.ColumnLaws.{standing}
use Rattle.growth.specs.Read.{released_by, offset_of}

-- the slots of a stripe on an old node, and of a kept stripe on any
pub old_slot : (z : Shape) (v g : ℕ) → v < z.n → g < stripes z → g < node_slots z v
old_slot z v g l h = rw (slots_old z v l) h

pub kept_slot : (z : Shape) (v w : ℕ) → w < kept z → w < node_slots z v
kept_slot z v w h = let l = kept_slots z v in omega arith

module _ (z : Shape) (ok : InRanges z) (journal : List ℕ) (g d : ℕ) (h : g < stripes z) (l : d < z.k) where
  pub inside : offset_of z journal g d + z.b ≤ area_length z
  unfolding offset_of
  inside =
      let s = standing z ok g d h l in
      cell_inside z (standing_node z (released_by journal) g d) (standing_slot z (released_by journal) g d) (s.node (released_by journal))
      (s.slot (released_by journal))

  first_place : has_moved z (released_by journal) g d ≡ false → address z (data_node z g d) g * z.b ≡ offset_of z journal g d
  unfolding offset_of standing_node standing_slot
  first_place m = rw m

  new_place : has_moved z (released_by journal) g d ≡ true
      → address z (new_data_node z (new_stripe z g d) (new_column z g d)) (new_stripe z g d) * z.b ≡ offset_of z journal g d
  unfolding offset_of standing_node standing_slot
  new_place m = rw m

  -- the same of what the code computes: v the node, w the new stripe, c its column, x the slot's number
  pub before : (v x : ℕ) → has_moved z (released_by journal) g d ≡ false → v ≡ data_node z g d → x ≡ address z v g
      → (x * z.b ≡ offset_of z journal g d) × (x * z.b + z.b ≤ area_length z)
  before v x m p q = rw (q, p, first_place m) (refl, inside)

  pub after : (w c v x : ℕ) → has_moved z (released_by journal) g d ≡ true → w ≡ new_stripe z g d → c ≡ new_column z g d
      → v ≡ new_data_node z w c
      → x ≡ address z v w → (x * z.b ≡ offset_of z journal g d) × (x * z.b + z.b ≤ area_length z)
  after w c v x m p q r o = rw (o, r, q, p, new_place m) (refl, inside)
