-- Laws of cells: what was put in one is there, every other is as it was, and they are the whole area. Assumes nothing.
use mathlib.Core.Path.{◌≡◌, sym}
use mathlib.Core.List.{List}
use Prim.Native.Nat.{ℕ, ◌+◌, ◌<◌}
use native.Mathlib.Omega.{arith}
use lib.ListN.{length}
use Rattle.area.proofs.Slots.{length_put_slot, length_slot, slot_same, slot_other, slots_ext}
use Rattle.layout.specs.declared.Shape.{Shape}
use Rattle.layout.specs.Ranges.{InRanges}
use Rattle.layout.specs.Addresses.{node_slots, address, area_slots, area_length}
use Rattle.layout.proofs.AddressLaws.{address_inside, address_only, address_hit}
use Rattle.growth.specs.Cells.{cell, put_cell}

module _ (z : Shape) where
  pub length_cell : (area : List ℕ) (v g : ℕ) → length (cell z area v g) ≡ z.b
  unfolding cell
  length_cell area v g = length_slot area z.b (address z v g)

  pub length_put_cell : (area : List ℕ) (v g : ℕ) (block : List ℕ) → length (put_cell z area v g block) ≡ length area
  unfolding put_cell
  length_put_cell area v g block = length_put_slot area z.b (address z v g) block

  pub cell_same : (area : List ℕ) (v g : ℕ) (block : List ℕ) → length area ≡ area_length z → v < z.n + z.s → g < node_slots z v
      → length block ≡ z.b → cell z (put_cell z area v g block) v g ≡ block
  unfolding cell put_cell area_length
  cell_same area v g block long lv lg lb =
      slot_same area z.b (address z v g) (area_slots z) block lb (address_inside z v g lv lg) (omega arith)

  pub cell_other : (area : List ℕ) (v g u h : ℕ) (block : List ℕ) → g < node_slots z v → h < node_slots z u → length block ≡ z.b
      → (v ≡ u → g ≡ h → ⊥) → cell z (put_cell z area v g block) u h ≡ cell z area u h
  unfolding cell put_cell
  cell_other area v g u h block lg lh lb differ =
      slot_other area z.b (address z v g) (address z u h) block lb
      (λ e. let p = address_only z v u g h lg lh e in differ p.0 p.1)

  -- two areas with the same cells are the same
  pub area_ext : InRanges z → (a b : List ℕ) → length a ≡ area_length z → length b ≡ area_length z
      → ((v g : ℕ) → v < z.n + z.s → g < node_slots z v → cell z a v g ≡ cell z b v g) → a ≡ b
  unfolding cell area_length
  area_ext ok a b la lb h = slots_ext a b z.b (area_slots z) ok.some_bytes la lb
      (λ p l. let q = address_hit z p l in rw (sym q.4) (h q.0 q.1 q.2 q.3))
