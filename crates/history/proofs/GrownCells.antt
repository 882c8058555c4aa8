-- The area of a closed growth, cell by cell: in slots below P the blocks of the new stripes, zeros from there on. Assumes nothing.
use mathlib.Core.Path.{◌≡◌, sym, ap, ap₂, ◌∙◌}
use mathlib.Core.Bool.{◌&&◌}
use mathlib.Core.List.{List}
use Prim.Native.Nat.{ℕ, ◌+◌, ◌-◌, ◌<◌}
use native.Mathlib.Omega.{arith}
use lib.Dec.{eqb}
use lib.ListN.{length}
use Rattle.base.specs.Tests.{if}
use Rattle.area.specs.Area.{zeros}
use Rattle.layout.specs.declared.Shape.{Shape}
use Rattle.layout.specs.Ranges.{rows}
use Rattle.layout.specs.Counts.{kept, transfers}
use Rattle.layout.specs.Addresses.{area_length}
use Rattle.layout.specs.Closed.{swapped, swap_index}
use Rattle.layout.proofs.ClosedLaws.{turn_lt}
use Rattle.protocol.specs.Parts.{Growth}
use Rattle.protocol.specs.Image.{new_row0}
use Rattle.protocol.specs.Claims as Protocol
use Rattle.growth.specs.Cells.{column, row, new_block}
use Rattle.growth.specs.Begin.{begun_area}
use Rattle.growth.specs.ClosedArea.{new_stripe_row}
use Rattle.growth.specs.Claims.{ClosedCells}
use Rattle.growth.proofs.NewStripes.{Ended, block_there}
use Rattle.history.specs.Begun.{Begun}
use Rattle.history.proofs.Growths.{cells_of, growth_of}
use Rattle.history.proofs.RoleCells.{seen_column, seen_row, seen_delta, seen_new, seen_dissolved}
use Rattle.history.proofs.BegunCells.{start_column, start_source, fresh_row0, brought, fresh_row}

module _ (z : Shape) (begun : List ℕ) (number : ℕ) (f : Begun z begun number) (area : List ℕ)
    (cells : Protocol.ClosedCells (growth_of z (begun_area z begun)) (cells_of z area)) where
  abbrev G : Growth
  G = growth_of z (begun_area z begun)

  pub ended : (w : ℕ) → w < kept z → Ended z begun area w
  unfolding row column transfers
  ended w l = record {
    columns = λ d m. sym (seen_column z area w d l m) ∙ cells.columns w d ∙ start_column z begun number f w d l m;
    row0 =
        sym (seen_row z area w 0 l (omega (arith, f.in_ranges.some_rows)))
        ∙ cells.rows0 w l
        ∙ ap₂ (if (swapped z w)) (start_source z begun number f w (swap_index z w) l (turn_lt z f.in_ranges w)) row0_fresh;
    later_rows = λ e m.
        sym (seen_delta z area w e l m) ∙ cells.targets w e l (omega (arith, f.in_ranges.some_new)) ∙ fresh_row z begun number f w l e m;
    new_nodes = λ t m.
        sym (seen_new z area w t l m)
        ∙ cells.targets w (rows z - 1 + t) l (omega (arith, f.in_ranges.some_rows))
        ∙ brought z begun number f w l t m
        ∙ ap (λ (x : List ℕ). if (swapped z w && eqb t (swap_index z w)) x (new_block z begun w t)) row0_fresh;
  }
    where
      row0_fresh : new_row0 G w ≡ new_stripe_row z begun w 0
      row0_fresh = fresh_row0 z begun number f w l

  pub grown_cells : length area ≡ area_length z → ClosedCells z begun area
  grown_cells long = record {
    long = long;
    stripe = λ w e l m. block_there z f.in_ranges begun area w l (ended w l) e m;
    others = seen_dissolved z area f.in_ranges (zeros z.b) cells.sources cells.dissolved_rows;
  }
