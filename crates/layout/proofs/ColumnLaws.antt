-- Every old block is exactly one column of exactly one new stripe; where a block stands meanwhile. Assumes nothing.
use mathlib.Core.Path.{◌≡◌, refl, sym}
use mathlib.Core.Bool.{Bool, true, false, ◌&&◌}
use Prim.Native.Nat.{ℕ, ◌+◌, ◌-◌, ◌<◌}
use native.Mathlib.Nat.{add-sub_cancel_left}
use native.Mathlib.Decide.{dec_lt}
use native.Mathlib.Omega.{arith}
use lib.Dec.{leb}
use borrow.Author.Tests.{lt-ltb, le-ltb, le-leb, lt-leb}
use Rattle.base.specs.Tests.{if}
use Rattle.layout.specs.declared.Shape.{Shape}
use Rattle.layout.specs.Ranges.{rows, InRanges}
use Rattle.layout.specs.Counts.{kept, stripes}
use Rattle.layout.specs.Addresses.{node_slots}
use Rattle.layout.specs.Nodes.{data_node}
use Rattle.layout.specs.Sources.{source_slot, target_index}
use Rattle.layout.specs.Closed.{new_data_node}
use Rattle.layout.specs.Columns.{new_stripe, new_column, old_stripe, old_column, has_moved, standing_node, standing_slot}
use Rattle.layout.specs.Claims.{Becomes, ComesFrom, Standing}
use Rattle.layout.proofs.NodeLaws.{data_node_lt}
use Rattle.layout.proofs.AddressLaws.{slots_old, kept_slots}
use Rattle.layout.proofs.SourceLaws.{taken, given}
use Rattle.layout.proofs.ClosedLaws.{new_block_node_law, block_column}

module _ (z : Shape) (ok : InRanges z) where
  pub becomes : (g d : ℕ) → g < stripes z → d < z.k → Becomes z g d
  unfolding new_stripe new_column old_stripe old_column
  becomes g d h l = go (dec_lt g (kept z))
    where
      go : Dec (g < kept z) → Becomes z g d
      go (yes a) = record {
        stripe = rw (lt-ltb g (kept z) a) a;
        column = rw (lt-ltb g (kept z) a) (omega arith);
        back_stripe = rw (lt-ltb g (kept z) a, lt-ltb d z.k l);
        back_column = rw (lt-ltb g (kept z) a, lt-ltb d z.k l);
      }
      go (no a) =
          let x = given z ok g d (omega arith) h l in
          let t : ℕ = target_index z g d in
          let no-kept = le-ltb g (kept z) (omega arith) in
          let no_old = le-ltb (z.k + t) z.k (omega arith) in
          record {
            stripe = rw no-kept x.stripe;
            column = rw no-kept (omega (arith, x.index));
            back_stripe = rw (no-kept, no_old, add-sub_cancel_left z.k t) x.slot;
            back_column = rw (no-kept, no_old, add-sub_cancel_left z.k t) x.column;
          }

  pub comes : (w c : ℕ) → w < kept z → c < z.k + z.s → ComesFrom z w c
  unfolding new_stripe new_column old_stripe old_column stripes
  comes w c h l = go (dec_lt c z.k)
    where
      go : Dec (c < z.k) → ComesFrom z w c
      go (yes a) = record {
        stripe = rw (lt-ltb c z.k a) (omega arith);
        column = rw (lt-ltb c z.k a) a;
        back_stripe = rw (lt-ltb c z.k a, lt-ltb w (kept z) h);
        back_column = rw (lt-ltb c z.k a, lt-ltb w (kept z) h);
      }
      go (no a) =
          let x = taken z ok w (c - z.k) h (omega arith) in
          let e : z.k + (c - z.k) ≡ c = omega arith in
          let no_old = le-ltb c z.k (omega arith) in
          let no-kept = le-ltb (source_slot z w (c - z.k)) (kept z) x.from in
          record {
            stripe = rw no_old x.under;
            column = rw no_old x.column;
            back_stripe = rw (no_old, no-kept) x.stripe;
            back_column = rw (no_old, no-kept, x.index) e;
          }

  -- ---- where block (g, d) stands

  new_data_node_lt : (w c : ℕ) → c < z.k + z.s → new_data_node z w c < z.n + z.s
  new_data_node_lt w c l = rw (← block_column z ok w c) (new_block_node_law z ok w (rows z + c) (omega arith)).0

  -- a kept stripe's block stays
  kept_stripe : (g d : ℕ) → g < kept z → new_stripe z g d ≡ g
  unfolding new_stripe
  kept_stripe g d a = rw (lt-ltb g (kept z) a)

  kept_node : (g d : ℕ) → g < kept z → d < z.k → new_data_node z (new_stripe z g d) (new_column z g d) ≡ data_node z g d
  unfolding new_stripe new_column new_data_node
  kept_node g d a l = rw (lt-ltb g (kept z) a, lt-ltb d z.k l)

  pub standing : (g d : ℕ) → g < stripes z → d < z.k → Standing z g d
  unfolding standing_node standing_slot has_moved
  standing g d h l = record {
    node = λ released. node (leb (kept z) g && released (new_stripe z g d));
    slot = λ released. slot (leb (kept z) g && released (new_stripe z g d));
    first_node = at_first (leb (kept z) g) (new_data_node z (new_stripe z g d) (new_column z g d)) (data_node z g d);
    first_slot = at_first (leb (kept z) g) (new_stripe z g d) g;
    last_node = at_last_node (dec_lt g (kept z));
    last_slot = at_last_slot (dec_lt g (kept z));
  }
    where
      there : Becomes z g d
      there = becomes g d h l

      node : (moved : Bool) → if moved (new_data_node z (new_stripe z g d) (new_column z g d)) (data_node z g d) < z.n + z.s
      node true = new_data_node_lt (new_stripe z g d) (new_column z g d) there.column
      node false = omega (arith, data_node_lt z ok g d)

      slot : (moved : Bool) → if moved (new_stripe z g d) g < node_slots z
          (if moved (new_data_node z (new_stripe z g d) (new_column z g d)) (data_node z g d))
      slot true =
          let a = there.stripe in
          let b = kept_slots z (new_data_node z (new_stripe z g d) (new_column z g d)) in
          omega arith
      slot false = rw (slots_old z (data_node z g d) (data_node_lt z ok g d)) h

      at_first : (a : Bool) (x y : ℕ) → if (a && false) x y ≡ y
      at_first true x y = refl
      at_first false x y = refl

      at_last_node : Dec (g < kept z) → if (leb (kept z) g && true) (new_data_node z (new_stripe z g d) (new_column z g d))
          (data_node z g d)
          ≡ new_data_node z (new_stripe z g d) (new_column z g d)
      at_last_node (yes a) = rw (lt-leb (kept z) g a) (sym (kept_node g d a l))
      at_last_node (no a) = rw (le-leb (kept z) g (omega arith))

      at_last_slot : Dec (g < kept z) → if (leb (kept z) g && true) (new_stripe z g d) g ≡ new_stripe z g d
      at_last_slot (yes a) = rw (lt-leb (kept z) g a) (sym (kept_stripe g d a))
      at_last_slot (no a) = rw (le-leb (kept z) g (omega arith))
