-- The transfers of a stripe go from the node of row 0 to different other nodes, each to its block's place in the closed layout. Assumes
-- nothing.
use mathlib.Core.Path.{◌≡◌, refl, sym, ap, ◌∙◌}
use mathlib.Core.Bool.{Bool, true, false, ◌&&◌}
use Prim.Native.Nat.{ℕ, ◌+◌, ◌-◌, ◌≤◌, ◌<◌}
use native.Mathlib.Nat.{add-zero}
use native.Mathlib.Decide.{dec_lt}
use native.Mathlib.Omega.{arith}
use lib.Dec.{eqb}
use borrow.Author.Tests.{lt-ltb, le-ltb, eqb-true, ne_eqb}
use Rattle.base.specs.Tests.{if}
use Rattle.layout.specs.declared.Shape.{Shape}
use Rattle.layout.specs.Ranges.{rows, InRanges}
use Rattle.layout.specs.Counts.{transfers}
use Rattle.layout.specs.Nodes.{row_node}
use Rattle.layout.specs.Sources.{source_node}
use Rattle.layout.specs.Closed.{swapped, swap_index, new_row_node, new_block_node}
use Rattle.layout.specs.Transfers.{new_node_of, sender, receiver, transfer_kind}
use Rattle.layout.specs.Claims.{Brings}
use Rattle.layout.proofs.Cycle.{place_of}
use Rattle.layout.proofs.NodeLaws.{row_node_lt, place_row}

-- the kind of a block's transfer: parity where the test is true, else data
abbrev block_kind : Bool → ℕ
block_kind parity = if parity 3 2

module _ (z : Shape) (ok : InRanges z) where
  pub sender_row_0 : (w : ℕ) → sender z w ≡ row_node z w 0
  unfolding sender source_node row_node
  sender_row_0 w = rw add-zero

  pub receiver_delta : (w e : ℕ) → e < rows z - 1 → receiver z w e ≡ row_node z w (e + 1)
  unfolding receiver
  receiver_delta w e l = rw (lt-ltb e (rows z - 1) l)

  pub receiver_new : (w e : ℕ) → rows z - 1 ≤ e → receiver z w e ≡ z.n + new_node_of z e
  unfolding receiver
  receiver_new w e l = rw (le-ltb e (rows z - 1) l)

  -- rows 0 to r - 1 stand on different nodes
  rows_differ : (w i j : ℕ) → i < rows z → j < rows z → row_node z w i ≡ row_node z w j → i ≡ j
  rows_differ w i j l m e = sym (place_row z ok w i l) ∙ ap (place_of z.n w) e ∙ place_row z ok w j m

  pub receivers_differ : (w e f : ℕ) → e < transfers z → f < transfers z → receiver z w e ≡ receiver z w f → e ≡ f
  unfolding transfers
  receivers_differ w e f l m p = go (dec_lt e (rows z - 1)) (dec_lt f (rows z - 1))
    where
      go : Dec (e < rows z - 1) → Dec (f < rows z - 1) → e ≡ f
      go (yes a) (yes b) =
          let q = rows_differ w (e + 1) (f + 1) (omega arith) (omega arith) (sym (receiver_delta w e a) ∙ p ∙ receiver_delta w f b) in
          omega arith
      go (yes a) (no b) =
          let q = receiver_delta w e a in
          let o = receiver_new w f (omega arith) in
          let x = row_node_lt z ok w (e + 1) in
          absurd (omega arith)
      go (no a) (yes b) =
          let q = receiver_new w e (omega arith) in
          let o = receiver_delta w f b in
          let x = row_node_lt z ok w (f + 1) in
          absurd (omega arith)
      go (no a) (no b) =
          let q = receiver_new w e (omega arith) in
          let o = receiver_new w f (omega arith) in
          omega arith

  brings_delta : (w e : ℕ) → e < rows z - 1 → Brings z w e
  unfolding transfer_kind new_row_node
  brings_delta w e l =
      let r = receiver_delta w e l in
      let k : transfer_kind z w e ≡ 1 = rw (lt-ltb e (rows z - 1) l) in
      record {
        node = omega (arith, r, row_node_lt z ok w (e + 1));
        away = λ p. let q = rows_differ w (e + 1) 0 (omega arith) (omega arith) (sym r ∙ p ∙ sender_row_0 w) in absurd (omega arith);
        delta = λ _. r ∙ rw (ne_eqb (e + 1) 0 (omega arith)) (right (swapped z w));
        new_block_law = λ p. absurd (omega arith);
        parity = λ p. absurd (omega arith);
      }
    where
      right : (t : Bool) → row_node z w (e + 1) ≡ if (t && false) (z.n + swap_index z w) (row_node z w (e + 1))
      right true = refl
      right false = refl

  brings_block : (w e : ℕ) → rows z - 1 ≤ e → e < transfers z → Brings z w e
  unfolding transfer_kind new_row_node new_block_node transfers
  brings_block w e l h =
      let r = receiver_new w e l in
      let t : Bool = swapped z w && eqb (new_node_of z e) (swap_index z w) in
      record {
        node = omega arith;
        away = λ p. let a = sender_row_0 w in let b = row_node_lt z ok w 0 in absurd (omega arith);
        delta = λ p. absurd (not_1 t (rw (le-ltb e (rows z - 1) l) at p));
        new_block_law = λ p. r ∙ stays t (rw (le-ltb e (rows z - 1) l) at p);
        parity = λ p. r ∙ turns (swapped z w) (eqb (new_node_of z e) (swap_index z w)) refl (rw (le-ltb e (rows z - 1) l) at p);
      }
    where
      not_1 : (t : Bool) → block_kind t ≡ 1 → ⊥
      not_1 true e = absurd (omega arith)
      not_1 false e = absurd (omega arith)

      stays : (t : Bool) → block_kind t ≡ 2 → z.n + new_node_of z e ≡ if t (source_node z w) (z.n + new_node_of z e)
      stays true e = absurd (omega arith)
      stays false e = refl

      turns : (a b : Bool) → eqb (new_node_of z e) (swap_index z w) ≡ b → block_kind (a && b) ≡ 3
          → z.n + new_node_of z e ≡ if (a && true) (z.n + swap_index z w) (row_node z w 0)
      turns true true q p = ap (λ (x : ℕ). z.n + x) (eqb-true (new_node_of z e) (swap_index z w) q)
      turns true false q p = absurd (omega arith)
      turns false b q p = absurd (omega arith)

  pub brings : (w e : ℕ) → e < transfers z → Brings z w e
  brings w e h = go (dec_lt e (rows z - 1))
    where
      go : Dec (e < rows z - 1) → Brings z w e
      go (yes a) = brings_delta w e a
      go (no a) = brings_block w e (omega arith) h
