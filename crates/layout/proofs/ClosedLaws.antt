-- The closed layout: in slot w each of the n + s nodes has exactly one block of new stripe w. Assumes nothing.
use mathlib.Core.Path.{◌≡◌, refl, sym, ap, ◌∙◌}
use mathlib.Core.Bool.{Bool}
use Prim.Native.Nat.{ℕ, suc, ◌+◌, ◌-◌, ◌≤◌, ◌<◌}
use native.Mathlib.Nat.{mod-lt, add-sub_cancel_left}
use native.Mathlib.Omega.{arith}
use lib.Dec.{leb, ltb}
use borrow.Author.Tests.{le-leb, lt-leb}
use Rattle.base.specs.Folds.{indicator}
use Rattle.base.proofs.Tests.{Leb, holds, fails, leb_view}
use Rattle.layout.specs.declared.Shape.{Shape}
use Rattle.layout.specs.Ranges.{rows, InRanges}
use Rattle.layout.specs.Nodes.{row_node, data_node}
use Rattle.layout.specs.Sources.{source_node}
use Rattle.layout.specs.Closed.{swapped, swap_index, new_row_node, new_block_node, new_data_node, new_node, new_parity_at, new_data_at}
use Rattle.layout.proofs.ListingLaws.{some_eqb}
use Rattle.layout.proofs.OneStripe.{row_in, data_in, home_in, block_in, home_block, block_home}

-- the block that node v has in slot w: a row if below r, else a column
unfoldable pub block_at : Shape → ℕ → ℕ → ℕ
block_at z v w = block_in z.n w (swapped z w) (swap_index z w) v

module _ (z : Shape) (ok : InRanges z) where
  pub turn_lt : (w : ℕ) → swap_index z w < z.s
  unfolding swap_index
  turn_lt w = mod-lt _ ok.some_new

  -- the n + s blocks of new stripe w and the n + s nodes, one to one
  pub new_block_node_law : (w e : ℕ) → e < z.n + z.s → (new_node z w e < z.n + z.s) × (block_at z (new_node z w e) w ≡ e)
  unfolding new_node new_row_node new_data_node new_block_node row_node data_node source_node block_at home_in row_in data_in
  new_block_node_law w e l = block_home z.n z.k z.s w (swap_index z w) (swapped z w) ok.some_data ok.some_rows (turn_lt w) e l

  pub new_node_block : (w v : ℕ) → v < z.n + z.s → (block_at z v w < z.n + z.s) × (new_node z w (block_at z v w) ≡ v)
  unfolding new_node new_row_node new_data_node new_block_node row_node data_node source_node block_at home_in row_in data_in
  new_node_block w v l = home_block z.n z.k z.s w (swap_index z w) (swapped z w) ok.some_data ok.some_rows (turn_lt w) v l

  -- rows and columns among the blocks
  pub block_row : (w j : ℕ) → j < rows z → new_node z w j ≡ new_row_node z w j
  unfolding new_node
  block_row w j l = rw (le-leb (suc j) (rows z) l)

  pub block_column : (w c : ℕ) → new_node z w (rows z + c) ≡ new_data_node z w c
  unfolding new_node
  block_column w c = rw (lt-leb (suc (rows z + c)) (rows z) (omega arith), add-sub_cancel_left (rows z) c)

  pub nodes_differ : (w a b : ℕ) → a < z.n + z.s → b < z.n + z.s → new_node z w a ≡ new_node z w b → a ≡ b
  nodes_differ w a b l m e = sym (new_block_node_law w a l).1 ∙ ap (λ (v : ℕ). block_at z v w) e ∙ (new_block_node_law w b m).1

  pub new_parity_at_law : (v w : ℕ) → v < z.n + z.s → new_parity_at z v w ≡ ltb (block_at z v w) (rows z)
  unfolding new_parity_at
  new_parity_at_law v w l = some_eqb (new_row_node z w) (rows z) v (suc (block_at z v w)) (rows z) there back
    where
      there : block_at z v w < rows z → (j : ℕ) × (j < rows z) × (new_row_node z w j ≡ v)
      there y = (block_at z v w, y, sym (block_row w (block_at z v w) y) ∙ (new_node_block w v l).1)

      back : (j : ℕ) → j < rows z → new_row_node z w j ≡ v → block_at z v w < rows z
      back j m e = rw (ap (λ (x : ℕ). block_at z x w) (sym e ∙ sym (block_row w j m)) ∙ (new_block_node_law w j (omega arith)).1) m

  pub new_data_at_law : (v w : ℕ) → v < z.n + z.s → new_data_at z v w ≡ leb (rows z) (block_at z v w)
  unfolding new_data_at
  new_data_at_law v w l = some_eqb (new_data_node z w) (z.k + z.s) v (rows z) (block_at z v w) there back
    where
      there : rows z ≤ block_at z v w → (c : ℕ) × (c < z.k + z.s) × (new_data_node z w c ≡ v)
      there y =
          let c : ℕ = block_at z v w - rows z in
          let g : rows z + c ≡ block_at z v w = omega arith in
          (c, omega (arith, (new_node_block w v l).0), sym (block_column w c) ∙ ap (new_node z w) g ∙ (new_node_block w v l).1)

      back : (c : ℕ) → c < z.k + z.s → new_data_node z w c ≡ v → rows z ≤ block_at z v w
      back c m e =
          rw (ap (λ (x : ℕ). block_at z x w) (sym e ∙ sym (block_column w c)) ∙ (new_block_node_law w (rows z + c) (omega arith)).1)
          (omega arith)

  -- in each slot a node has a parity block or a data block, and not both
  pub one_block : (v w : ℕ) → v < z.n + z.s → indicator (new_parity_at z v w) + indicator (new_data_at z v w) ≡ 1
  one_block v w l =
      rw (new_parity_at_law v w l, new_data_at_law v w l)
      (go (ltb (block_at z v w) (rows z)) (leb (rows z) (block_at z v w)) (leb_view (suc (block_at z v w)) (rows z))
      (leb_view (rows z) (block_at z v w)))
    where
      go : (a b : Bool) → Leb (suc (block_at z v w)) (rows z) a → Leb (rows z) (block_at z v w) b → indicator a + indicator b ≡ 1
      go a b (holds p) (holds q) = omega arith
      go a b (holds p) (fails q) = refl
      go a b (fails p) (holds q) = refl
      go a b (fails p) (fails q) = omega arith
