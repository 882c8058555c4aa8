-- A row that holds becomes the fresh row over the k + s columns by its delta: compute does it to row 0, deliver to the others. Assumes
-- nothing.
use mathlib.Core.Path.{◌≡◌, sym, ap₂, ◌∙◌}
use mathlib.Core.Bool.{true}
use mathlib.Core.List.{List}
use Prim.Native.Nat.{ℕ, ◌+◌, ◌-◌, ◌<◌}
use native.Mathlib.Omega.{arith}
use borrow.Author.Tests.{lt-ltb, le-ltb}
use lib.ListN.{length}
use Rattle.base.proofs.Tests.{every_at}
use Rattle.area.specs.Area.{xor_blocks}
use Rattle.area.proofs.Sums.{length_xor_blocks}
use Rattle.area.proofs.Blocks.{same_bytes_eq}
use Rattle.code.proofs.Laws.{parity_row_same, delta_same, growth_laws}
use Rattle.layout.specs.declared.Shape.{Shape}
use Rattle.layout.specs.Ranges.{rows, InRanges}
use Rattle.layout.specs.Counts.{kept}
use Rattle.layout.specs.Addresses.{area_length}
use Rattle.layout.specs.Columns.{old_stripe, old_column}
use Rattle.layout.specs.Nodes.{row_node}
use Rattle.layout.specs.Transfers.{transfer_kind}
use Rattle.layout.proofs.SourceLaws.{taken}
use Rattle.layout.proofs.NodeLaws.{row_node_lt}
use Rattle.layout.proofs.AddressLaws.{kept_slots}
use Rattle.growth.specs.Cells.{column, row, multiplier, parity_of, new_block, delta_of}
use Rattle.growth.specs.Begin.{stripe_holds}
use Rattle.growth.specs.Compute.{computed_area}
use Rattle.growth.specs.Send.{payload_from, payload}
use Rattle.growth.specs.Deliver.{received}
use Rattle.growth.specs.ClosedArea.{new_stripe_column, new_stripe_row}
use Rattle.growth.specs.Claims.{FreshRows}
use Rattle.growth.proofs.CellLaws.{cell_same}

module _ (z : Shape) (ok : InRanges z) (area : List ℕ) (w : ℕ) (l : w < kept z) where
  -- ---- the columns of the new stripe: those of the kept one, then its new blocks

  pub kept_column_law : (c : ℕ) → c < z.k → new_stripe_column z area w c ≡ column z area w c
  unfolding new_stripe_column old_stripe old_column
  kept_column_law c h = rw (lt-ltb c z.k h)

  pub new_column_law : (t : ℕ) → t < z.s → new_stripe_column z area w (z.k + t) ≡ new_block z area w t
  unfolding new_stripe_column old_stripe old_column column new_block
  new_column_law t h =
      let e : z.k + t - z.k ≡ t = omega arith in
      rw (le-ltb (z.k + t) z.k (omega arith), e, (taken z ok w t l h).node)

  -- the fresh row is the old one with its delta
  pub fresh_row : (j : ℕ) → new_stripe_row z area w j ≡ xor_blocks z.b (parity_of z area w j) (delta_of z j (new_block z area w))
  unfolding new_stripe_row parity_of delta_of
  fresh_row j =
      (growth_laws (multiplier z)).grown z.b z.k z.s j (new_stripe_column z area w)
      ∙ ap₂ (xor_blocks z.b)
      (parity_row_same (multiplier z) z.b z.k j (new_stripe_column z area w) (column z area w) kept_column_law)
      (delta_same (multiplier z) z.b z.k z.s j (λ t. new_stripe_column z area w (z.k + t)) (new_block z area w) new_column_law)

  module _ (holds : stripe_holds z area w ≡ true) where
    row_holds : (j : ℕ) → j < rows z → row z area w j ≡ parity_of z area w j
    unfolding stripe_holds
    row_holds j h = same_bytes_eq (row z area w j) (parity_of z area w j) (every_at (rows z) _ holds j h)

    grown_row : (j : ℕ) → j < rows z → xor_blocks z.b (row z area w j) (delta_of z j (new_block z area w)) ≡ new_stripe_row z area w j
    grown_row j h = rw (row_holds j h) (sym (fresh_row j))

    computed_row : length area ≡ area_length z → row z (computed_area z area w) w 0 ≡ new_stripe_row z area w 0
    unfolding row computed_area
    computed_row long =
        cell_same z area (row_node z w 0) w _ long (omega (arith, row_node_lt z ok w 0)) (omega (arith, kept_slots z (row_node z w 0)))
        (length_xor_blocks z.b _ _)
        ∙ grown_row 0 (omega (arith, ok.some_rows))

    delivered_row : (e : ℕ) → e < rows z - 1 → received z e (row z area w (e + 1)) (payload z area w e) ≡ new_stripe_row z area w (e + 1)
    unfolding received payload payload_from transfer_kind
    delivered_row e h = rw (lt-ltb e (rows z - 1) h) (grown_row (e + 1) (omega arith))

pub fresh_rows : (z : Shape) → InRanges z → (area : List ℕ) → length area ≡ area_length z → (w : ℕ) → w < kept z
    → stripe_holds z area w ≡ true → FreshRows z area w
fresh_rows z ok area long w l holds =
    record { computed = computed_row z ok area w l holds long; delivered = delivered_row z ok area w l holds }
