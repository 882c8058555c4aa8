-- What deliver does to a node's own part of the area is what it does to the node's cell. Assumes nothing.
use mathlib.Core.Path.{◌≡◌, ap, ◌∙◌}
use mathlib.Core.List.{List}
use Prim.Native.Nat.{ℕ, ◌+◌, ◌*◌, ◌≤◌, ◌<◌}
use native.Mathlib.Omega.{arith}
use lib.ListN.{length}
use Rattle.area.specs.Area.{block}
use Rattle.area.proofs.Blocks.{length_block}
use Rattle.area.proofs.Slots.{room}
use Rattle.layout.specs.declared.Shape.{Shape}
use Rattle.layout.specs.Counts.{kept}
use Rattle.layout.specs.Addresses.{node_slots, area_length}
use Rattle.layout.proofs.AddressLaws.{kept_slots}
use Rattle.growth.specs.Cells.{put_cell}
use Rattle.growth.specs.Deliver.{received, delivered_area}
use Rattle.growth.proofs.BlockLaws.{length_received}
use Rattle.parts.specs.Own.{part_of, with_part}
use Rattle.parts.proofs.Parts.{own_cell, put_part}
use Rattle.deliver.specs.Own.{own_delivered}

-- every node has a slot for each kept stripe
slot_there : (z : Shape) (v w : ℕ) → w < kept z → w < node_slots z v
slot_there z v w stripe = omega (arith, kept_slots z v)

pub slot_fits : (z : Shape) (v w : ℕ) → w < kept z → (ownBytes : ℕ) → ownBytes ≡ node_slots z v * z.b → w * z.b + z.b ≤ ownBytes
slot_fits z v w stripe ownBytes long = rw long (room w (node_slots z v) z.b (slot_there z v w stripe))

pub delivered_part : (z : Shape) (v : ℕ) → v < z.n + z.s → (area : List ℕ) → length area ≡ area_length z → (w : ℕ) → w < kept z
    → (e : ℕ) (message : List ℕ)
    → with_part z v area (own_delivered z (part_of z v area) w e message) ≡ delivered_area z area v w e message
unfolding own_delivered delivered_area
delivered_part z v there area long w stripe e message =
    let here = slot_there z v w stripe in
    put_part z v there area long w _ here (length_received z e _ _ (length_block message 16 z.b))
    ∙ ap (λ old. put_cell z area v w (received z e old (block message 16 z.b))) (own_cell z v there area long w here)
