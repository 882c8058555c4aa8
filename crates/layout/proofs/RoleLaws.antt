-- Every cell has one role and every role one cell. Assumes nothing.
use mathlib.Core.Path.{◌≡◌, refl, sym, ap, ◌∙◌}
use mathlib.Core.Bool.{Bool, true, false, ◌&&◌}
use Prim.Native.Nat.{ℕ, ◌+◌, ◌-◌, ◌≤◌, ◌<◌}
use native.Mathlib.Nat.{add-sub_cancel_left}
use native.Mathlib.Decide.{dec_lt}
use native.Mathlib.Omega.{arith}
use lib.Dec.{leb, ltb}
use borrow.Author.Tests.{leb-true, lt-ltb, le-ltb, le-leb}
use Rattle.base.specs.Tests.{if}
use Rattle.base.proofs.Tests.{and_left, and_right, and_both, first_lt, second_lt}
use Rattle.layout.specs.declared.Shape.{Shape}
use Rattle.layout.specs.Ranges.{rows, InRanges}
use Rattle.layout.specs.Counts.{kept, stripes}
use Rattle.layout.specs.Addresses.{node_slots}
use Rattle.layout.specs.Nodes.{row_node, data_node, has_data, column_on}
use Rattle.layout.specs.Roles.{row_on, Role, kept_data, kept_row, source, dissolved_row, new_cell, role_exists, role_node, role_slot}
use Rattle.layout.specs.Roles.{data_role, row_role, role_at}
use Rattle.layout.specs.Sources.{source_node, source_slot, source_column, target_stripe, target_index}
use Rattle.layout.specs.Claims.{HasRole, HasCell}
use Rattle.layout.proofs.NodeLaws.{row_node_lt, data_node_lt, column_on_law, row_on_law, data_there, row_there, data_found, row_found}
use Rattle.layout.proofs.AddressLaws.{slots_old, slots_new, kept_slots}
use Rattle.layout.proofs.SourceLaws.{taken, given, source_node_lt}

-- a role is there and has this cell
record Fills (z : Shape) (a : Role) (v g : ℕ) : Type 0 where
  there : role_exists z a ≡ true
  node : role_node z a ≡ v
  slot : role_slot z a ≡ g

module _ (z : Shape) (ok : InRanges z) where
  -- ---- the role of a cell

  data_fills : (g d : ℕ) → g < stripes z → d < z.k → Fills z (data_role z g d) (data_node z g d) g
  unfolding data_role
  data_fills g d h l = go (dec_lt g (kept z))
    where
      go : Dec (g < kept z) → Fills z (data_role z g d) (data_node z g d) g
      go (yes a) = rw (lt-ltb g (kept z) a) (record {
        there = and_both (ltb g (kept z)) (ltb d z.k) (lt-ltb g (kept z) a) (lt-ltb d z.k l);
        node = refl;
        slot = refl;
      })
      go (no a) =
          let x = given z ok g d (omega arith) h l in
          rw (le-ltb g (kept z) (omega arith)) (record {
            there =
                and_both (ltb (target_stripe z g d) (kept z)) (ltb (target_index z g d) z.s)
                (lt-ltb (target_stripe z g d) (kept z) x.stripe) (lt-ltb (target_index z g d) z.s x.index);
            node = x.node;
            slot = x.slot;
          })

  row_fills : (g j : ℕ) → g < stripes z → j < rows z → Fills z (row_role z g j) (row_node z g j) g
  unfolding row_role
  row_fills g j h l = go (dec_lt g (kept z))
    where
      go : Dec (g < kept z) → Fills z (row_role z g j) (row_node z g j) g
      go (yes a) =
          rw (lt-ltb g (kept z) a) (record {
            there = and_both (ltb g (kept z)) (ltb j (rows z)) (lt-ltb g (kept z) a) (lt-ltb j (rows z) l);
            node = refl;
            slot = refl;
          })
      go (no a) = rw (le-ltb g (kept z) (omega arith)) (record {
        there =
            and_both (leb (kept z) g) (ltb g (stripes z) && ltb j (rows z)) (le-leb (kept z) g (omega arith))
            (and_both (ltb g (stripes z)) (ltb j (rows z)) (lt-ltb g (stripes z) h) (lt-ltb j (rows z) l));
        node = refl;
        slot = refl;
      })

  cell_fills : (v g : ℕ) → v < z.n + z.s → g < node_slots z v → Fills z (role_at z v g) v g
  unfolding role_at
  cell_fills v g l h = go (dec_lt v z.n)
    where
      old : v < z.n → g < stripes z → (t : Bool) → has_data z v g ≡ t
          → Fills z (if t (data_role z g (column_on z g v)) (row_role z g (row_on z g v))) v g
      old a m true e = let c = data_found z ok v g a e in rw c.1 at (data_fills g (column_on z g v) m c.0)
      old a m false e = let c = row_found z ok v g a e in rw c.1 at (row_fills g (row_on z g v) m c.0)

      go : Dec (v < z.n) → Fills z (role_at z v g) v g
      go (yes a) = rw (lt-ltb v z.n a) (old a (rw (slots_old z v a) at h) (has_data z v g) refl)
      go (no a) =
          let m : g < kept z = rw (slots_new z v (omega arith)) at h in
          let t : v - z.n < z.s = omega arith in
          rw (le-ltb v z.n (omega arith)) (record {
            there = and_both (ltb g (kept z)) (ltb (v - z.n) z.s) (lt-ltb g (kept z) m) (lt-ltb (v - z.n) z.s t);
            node = omega arith;
            slot = refl;
          })

  pub cell_role : (v g : ℕ) → v < z.n + z.s → g < node_slots z v → HasRole z v g
  cell_role v g l h = let f = cell_fills v g l h in record { there = f.there; node = f.node; slot = f.slot }

  -- ---- the cell of a role

  below_kept : (v w : ℕ) → w < kept z → w < node_slots z v
  below_kept v w h = let l = kept_slots z v in omega arith

  below_stripes : (v g : ℕ) → v < z.n → g < stripes z → g < node_slots z v
  below_stripes v g l h = rw (slots_old z v l) h

  data_cell : (g d : ℕ) → d < z.k → role_at z (data_node z g d) g ≡ data_role z g d
  unfolding role_at
  data_cell g d l = rw (lt-ltb (data_node z g d) z.n (data_node_lt z ok g d), data_there z ok g d l, column_on_law z ok g d l)

  row_cell : (g j : ℕ) → j < rows z → role_at z (row_node z g j) g ≡ row_role z g j
  unfolding role_at
  row_cell g j l = rw (lt-ltb (row_node z g j) z.n (row_node_lt z ok g j), row_there z ok g j l, row_on_law z ok g j l)

  kept_data_cell : (w d : ℕ) → w < kept z → d < z.k → HasCell z (kept_data w d)
  unfolding data_role
  kept_data_cell w d h l =
      record {
        node = omega (arith, data_node_lt z ok w d);
        slot = below_kept (data_node z w d) w h;
        role = data_cell w d l
            ∙ rw (lt-ltb w (kept z) h);
      }

  kept_row_cell : (w j : ℕ) → w < kept z → j < rows z → HasCell z (kept_row w j)
  unfolding row_role
  kept_row_cell w j h l =
      record {
        node = omega (arith, row_node_lt z ok w j);
        slot = below_kept (row_node z w j) w h;
        role = row_cell w j l
            ∙ rw (lt-ltb w (kept z) h);
      }

  source_cell : (w t : ℕ) → w < kept z → t < z.s → HasCell z (source w t)
  unfolding data_role
  source_cell w t h l =
      let x = taken z ok w t h l in
      let g : ℕ = source_slot z w t in
      let d : ℕ = source_column z w t in
      record {
        node = omega (arith, source_node_lt z ok w);
        slot = below_stripes (source_node z w) g (source_node_lt z ok w) x.under;
        role =
            ap (λ (v : ℕ). role_at z v g) (sym x.node) ∙ data_cell g d x.column
            ∙ rw (le-ltb g (kept z) x.from, x.stripe, x.index);
      }

  dissolved_row_cell : (g j : ℕ) → kept z ≤ g → g < stripes z → j < rows z → HasCell z (dissolved_row g j)
  unfolding row_role
  dissolved_row_cell g j a h l = record {
    node = omega (arith, row_node_lt z ok g j);
    slot = below_stripes (row_node z g j) g (row_node_lt z ok g j) h;
    role = row_cell g j l ∙ rw (le-ltb g (kept z) a);
  }

  new_cell_cell : (w t : ℕ) → w < kept z → t < z.s → HasCell z (new_cell w t)
  unfolding role_at
  new_cell_cell w t h l = record {
    node = omega arith;
    slot = below_kept (z.n + t) w h;
    role = rw (le-ltb (z.n + t) z.n (omega arith), add-sub_cancel_left z.n t);
  }

  pub role_cell : (a : Role) → role_exists z a ≡ true → HasCell z a
  role_cell (kept_data w d) e = kept_data_cell w d (first_lt w (kept z) (ltb d z.k) e) (second_lt (ltb w (kept z)) d z.k e)
  role_cell (kept_row w j) e = kept_row_cell w j (first_lt w (kept z) (ltb j (rows z)) e) (second_lt (ltb w (kept z)) j (rows z) e)
  role_cell (source w t) e = source_cell w t (first_lt w (kept z) (ltb t z.s) e) (second_lt (ltb w (kept z)) t z.s e)
  role_cell (dissolved_row g j) e =
      let a : leb (kept z) g ≡ true = and_left (leb (kept z) g) (ltb g (stripes z) && ltb j (rows z)) e in
      let b : ltb g (stripes z) && ltb j (rows z) ≡ true = and_right (leb (kept z) g) (ltb g (stripes z) && ltb j (rows z)) e in
      dissolved_row_cell g j (leb-true (kept z) g a) (first_lt g (stripes z) (ltb j (rows z)) b)
      (second_lt (ltb g (stripes z)) j (rows z) b)
  role_cell (new_cell w t) e = new_cell_cell w t (first_lt w (kept z) (ltb t z.s) e) (second_lt (ltb w (kept z)) t z.s e)
