-- No row of a stripe has a byte of a column or of another row. Assumes nothing.
use mathlib.Core.Path.{◌≡◌, sym, ap, ◌∙◌}
use mathlib.Core.List.{List}
use Prim.Native.Nat.{ℕ, ◌+◌, ◌-◌, ◌≤◌, ◌<◌}
use native.Mathlib.Decide.{dec_lt}
use native.Mathlib.Omega.{arith}
use lib.ListN.{length, get_or}
use Rattle.area.proofs.Slots.{apart_slots}
use Rattle.combine.specs.Columns.{Inside}
use Rattle.stripes.specs.Stripes.{Stripe}
use Rattle.layout.specs.declared.Shape.{Shape}
use Rattle.layout.specs.Ranges.{rows, InRanges}
use Rattle.layout.specs.Counts.{stripes}
use Rattle.layout.specs.Addresses.{address, area_length}
use Rattle.layout.specs.Nodes.{row_node, data_node}
use Rattle.layout.proofs.Cycle.{place_of}
use Rattle.layout.proofs.NodeLaws.{place_row, place_data}
use Rattle.layout.proofs.AddressLaws.{address_only}
use Rattle.cells.specs.Offsets.{StripeOffsets}
use Rattle.cells.proofs.ColumnLaws.{row_slot, column_slot, row_inside, column_inside}

module _ (z : Shape) (ok : InRanges z) (g : ℕ) (there : g < stripes z) where
  -- ---- two of its blocks that have different places

  row_column : (j d : ℕ) → j < rows z → d < z.k → address z (row_node z g j) g ≡ address z (data_node z g d) g → ⊥
  row_column j d l u e =
      let node = address_only z (row_node z g j) (data_node z g d) g g (row_slot z ok g there j) (column_slot z ok g there d) e in
      let place : j ≡ rows z + d = sym (place_row z ok g j l) ∙ ap (place_of z.n g) node.0 ∙ place_data z ok g d u in
      omega arith

  row_row : (i j : ℕ) → i < rows z → j < rows z → (i ≡ j → ⊥) → address z (row_node z g j) g ≡ address z (row_node z g i) g → ⊥
  row_row i j l u ne e =
      let node = address_only z (row_node z g j) (row_node z g i) g g (row_slot z ok g there j) (row_slot z ok g there i) e in
      ne (sym (sym (place_row z ok g j u) ∙ ap (place_of z.n g) node.0 ∙ place_row z ok g i l))

  module _ {at : List ℕ} (offsets : StripeOffsets z g at) (area : List ℕ) (long : length area ≡ area_length z) where
    column_fits : (d : ℕ) → d < z.k → get_or at d 0 + z.b ≤ length area
    column_fits d l = rw (offsets.columns.each d l, long) (column_inside z ok g there d)

    row_fits : (p j : ℕ) → z.k + j ≡ p → j < rows z → get_or at p 0 + z.b ≤ length area
    row_fits p j e l = rw (← e, offsets.each j l, long) (row_inside z ok g there j)

    pub inside_there : Inside at (z.k + rows z) z.b area
    inside_there =
        record {
          count = omega arith;
          fits = λ p l. elim (dec_lt p z.k) [ yes h ↦ column_fits p h | no h ↦ row_fits p (p - z.k) (omega arith) (omega arith) ];
        }

    pub stripe_there : Stripe at z.k (rows z) z.b area
    stripe_there =
        record {
          inside = inside_there;
          beside = λ d j l u. rw (offsets.columns.each d l, offsets.each j u)
              (apart_slots (address z (row_node z g j) g) (address z (data_node z g d) g) z.b (row_column j d u l));
          apart = λ i j l u ne. rw (offsets.each i l, offsets.each j u)
              (apart_slots (address z (row_node z g j) g) (address z (row_node z g i) g) z.b (row_row i j l u ne));
        }
