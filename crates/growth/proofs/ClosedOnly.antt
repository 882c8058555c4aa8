-- The closed area is the only one with its cells: the n + s blocks of a new stripe take its slot on every node. Assumes nothing.
use mathlib.Core.Path.{◌≡◌, sym, ◌∙◌, subst}
use mathlib.Core.List.{List}
use Prim.Native.Nat.{ℕ, ◌+◌, ◌<◌}
use native.Mathlib.Decide.{dec_lt}
use native.Mathlib.Omega.{arith}
use Rattle.layout.specs.declared.Shape.{Shape}
use Rattle.layout.specs.Ranges.{InRanges}
use Rattle.layout.specs.Counts.{kept, stripes}
use Rattle.layout.specs.Addresses.{node_slots}
use Rattle.layout.proofs.AddressLaws.{slots_old, slots_new}
use Rattle.layout.proofs.ClosedLaws.{block_at, new_node_block}
use Rattle.growth.specs.Cells.{cell}
use Rattle.growth.specs.ClosedArea.{closed_area}
use Rattle.growth.specs.Claims.{ClosedCells}
use Rattle.growth.proofs.CellLaws.{area_ext}
use Rattle.growth.proofs.ClosedCells.{closed_cells}

module _ (z : Shape) (ok : InRanges z) (begun area : List ℕ) (cells : ClosedCells z begun area) where
  -- below slot P the cell is some block's of its stripe; from there on only old nodes have one
  same_cell : (v g : ℕ) → v < z.n + z.s → g < node_slots z v → cell z area v g ≡ cell z (closed_area z begun) v g
  same_cell v g lv lg = go (dec_lt g (kept z)) (dec_lt v z.n)
    where
      go : Dec (g < kept z) → Dec (v < z.n) → cell z area v g ≡ cell z (closed_area z begun) v g
      go (yes l) x =
          let block = new_node_block z ok g v lv in
          subst (λ (u : ℕ). cell z area u g ≡ cell z (closed_area z begun) u g) block.1
          (cells.stripe g (block_at z v g) l block.0 ∙ sym ((closed_cells z ok begun).stripe g (block_at z v g) l block.0))
      go (no l) (yes m) =
          let under : g < stripes z = omega (arith, slots_old z v m) in
          cells.others v g m (omega arith) under ∙ sym ((closed_cells z ok begun).others v g m (omega arith) under)
      go (no l) (no m) = absurd (omega (arith, slots_new z v (omega arith)))

  pub closed_only : area ≡ closed_area z begun
  closed_only = area_ext z ok area (closed_area z begun) cells.long (closed_cells z ok begun).long same_cell
