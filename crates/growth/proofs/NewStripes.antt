-- A stripe whose cells hold what the calls bring there in the end is the new stripe, on the nodes of the closed layout. Assumes nothing.
use mathlib.Core.Path.{◌≡◌, refl, sym, ap, ◌∙◌}
use mathlib.Core.Bool.{Bool, true, false, ◌&&◌, and-false}
use mathlib.Core.List.{List}
use Prim.Native.Nat.{ℕ, zero, suc, ◌+◌, ◌-◌, ◌<◌}
use native.Mathlib.Decide.{dec_lt}
use native.Mathlib.Numerals.{add-one}
use native.Mathlib.Omega.{arith}
use lib.Dec.{eqb}
use borrow.Author.Tests.{lt-ltb, le-ltb, ne_eqb, eqb-true}
use Rattle.base.specs.Tests.{if}
use Rattle.base.proofs.Tests.{eqb_same, and_left, and_right}
use Rattle.code.specs.Rows.{parity_row}
use Rattle.code.proofs.Laws.{parity_row_same}
use Rattle.layout.specs.declared.Shape.{Shape}
use Rattle.layout.specs.Ranges.{rows, InRanges}
use Rattle.layout.specs.Counts.{kept}
use Rattle.layout.specs.Nodes.{row_node, data_node}
use Rattle.layout.specs.Sources.{source_node}
use Rattle.layout.specs.Closed.{swapped, swap_index, new_row_node, new_block_node, new_data_node, new_node}
use Rattle.layout.proofs.TransferLaws.{sender_row_0}
use Rattle.layout.proofs.ClosedLaws.{turn_lt}
use Rattle.growth.specs.Cells.{cell, column, new_block, multiplier}
use Rattle.growth.specs.ClosedArea.{new_stripe_column, new_stripe_row, new_stripe_block}
use Rattle.growth.proofs.LocalCells.{source_sender}
use Rattle.growth.proofs.FreshRows.{kept_column_law, new_column_law}

-- the kept stripe's columns; in row 0's place the fresh row, or of a swapped stripe the new block that moved there; the other fresh rows
-- where rows were; on each new node its new block, or of a swapped stripe's y row 0
pub record Ended (z : Shape) (old area : List ℕ) (w : ℕ) : Type 0 where
  pub columns : (d : ℕ) → d < z.k → cell z area (data_node z w d) w ≡ column z old w d
  pub row0 : cell z area (row_node z w 0) w ≡ if (swapped z w) (new_block z old w (swap_index z w)) (new_stripe_row z old w 0)
  pub later_rows : (e : ℕ) → e < rows z - 1 → cell z area (row_node z w (e + 1)) w ≡ new_stripe_row z old w (e + 1)
  pub new_nodes : (t : ℕ) → t < z.s
      → cell z area (z.n + t) w ≡ if (swapped z w && eqb t (swap_index z w)) (new_stripe_row z old w 0) (new_block z old w t)

module _ (z : Shape) (ok : InRanges z) (old area : List ℕ) (w : ℕ) (l : w < kept z) (ended : Ended z old area w) where
  -- a swapped stripe's row 0 went to the new node whose turn it is; every other row is where it was
  row_there : (j : ℕ) → j < rows z → cell z area (new_row_node z w j) w ≡ new_stripe_row z old w j
  unfolding new_row_node
  row_there zero m = go (swapped z w) refl
    where
      go : (b : Bool) → swapped z w ≡ b → cell z area (if (b && true) (z.n + swap_index z w) (row_node z w 0)) w ≡ new_stripe_row z old w 0
      go true e = ended.new_nodes (swap_index z w) (turn_lt z ok w) ∙ rw (e, eqb_same (swap_index z w))
      go false e = ended.row0 ∙ rw e
  row_there (suc e) m = rw (ne_eqb (suc e) 0 (omega arith), and-false (swapped z w), sym (add-one e)) (ended.later_rows e (omega arith))

  -- a new block is in row 0's place if that is its end, and else on its new node
  new_there : (t : ℕ) → t < z.s → cell z area (new_block_node z w t) w ≡ new_block z old w t
  unfolding new_block_node
  new_there t m = go (swapped z w && eqb t (swap_index z w)) refl
    where
      go : (b : Bool) → swapped z w && eqb t (swap_index z w) ≡ b → cell z area (if b (source_node z w) (z.n + t)) w ≡ new_block z old w t
      go true e =
          let turns = eqb-true t (swap_index z w) (and_right (swapped z w) _ e) in
          ap (λ (v : ℕ). cell z area v w) (source_sender z w ∙ sender_row_0 z ok w)
          ∙ ended.row0
          ∙ rw (and_left (swapped z w) _ e, turns)
      go false e = ended.new_nodes t m ∙ rw e

  pub column_there : (c : ℕ) → c < z.k + z.s → cell z area (new_data_node z w c) w ≡ new_stripe_column z old w c
  unfolding new_data_node
  column_there c m = go (dec_lt c z.k)
    where
      go : Dec (c < z.k) → cell z area (new_data_node z w c) w ≡ new_stripe_column z old w c
      go (yes h) = rw (lt-ltb c z.k h) (ended.columns c h ∙ sym (kept_column_law z ok old w l c h))
      go (no h) =
          let t : ℕ = c - z.k in
          let there : t < z.s = omega arith in
          let back : z.k + t ≡ c = omega arith in
          rw (le-ltb c z.k (omega arith))
          (new_there t there ∙ sym (new_column_law z ok old w l t there) ∙ ap (new_stripe_column z old w) back)

  pub block_there : (e : ℕ) → e < z.n + z.s → cell z area (new_node z w e) w ≡ new_stripe_block z old w e
  unfolding new_node new_stripe_block
  block_there e m = go (dec_lt e (rows z))
    where
      go : Dec (e < rows z) → cell z area (new_node z w e) w ≡ new_stripe_block z old w e
      go (yes h) = rw (lt-ltb e (rows z) h) (row_there e h)
      go (no h) = rw (le-ltb e (rows z) (omega arith)) (column_there (e - rows z) (omega (arith, ok.some_rows)))

  -- its rows are fresh encoding over the columns that the area has
  pub rows_fresh : (j : ℕ) → j < rows z
      → cell z area (new_row_node z w j) w ≡ parity_row (multiplier z) z.b (z.k + z.s) j (λ c. cell z area (new_data_node z w c) w)
  unfolding new_stripe_row
  rows_fresh j m =
      row_there j m
      ∙ parity_row_same (multiplier z) z.b (z.k + z.s) j (new_stripe_column z old w) (λ c. cell z area (new_data_node z w c) w)
      (λ c h. sym (column_there c h))
