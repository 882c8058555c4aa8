-- Laws of two areas with the same cells of a node, and of an area that differs in no other node's cells. Assumes nothing.
use mathlib.Core.Path.{◌≡◌, refl, sym, ◌∙◌}
use mathlib.Core.List.{List}
use Prim.Native.Nat.{ℕ, zero, suc, ◌+◌, ◌<◌}
use native.Mathlib.Nat.{zero-add}
use native.Mathlib.Decide.{ℕ_discrete}
use native.Mathlib.Omega.{arith}
use lib.ListN.{length}
use Rattle.base.specs.Folds.{run}
use Rattle.code.proofs.Laws.{delta_same}
use Rattle.layout.specs.declared.Shape.{Shape}
use Rattle.layout.specs.Ranges.{InRanges}
use Rattle.layout.specs.Counts.{kept}
use Rattle.layout.specs.Addresses.{node_slots, area_length}
use Rattle.layout.specs.Sources.{source_node, source_slot}
use Rattle.layout.specs.Transfers.{sender}
use Rattle.layout.proofs.AddressLaws.{slots_old, kept_slots}
use Rattle.layout.proofs.SourceLaws.{source_node_lt, taken}
use Rattle.layout.proofs.TransferLaws.{sender_row_0}
use Rattle.growth.specs.Cells.{cell, put_cell, row, multiplier, new_block, delta_of}
use Rattle.growth.specs.Local.{SameCells, OnlyCells}
use Rattle.growth.proofs.CellLaws.{length_put_cell, cell_same, cell_other}
use Rattle.growth.proofs.RunLaws.{run_length}

-- the node that has row 0 and the new blocks of w, by its three names
pub source_sender : (z : Shape) (w : ℕ) → source_node z w ≡ sender z w
unfolding sender
source_sender z w = refl

module _ (z : Shape) (v : ℕ) where
  -- a block put in the same cell of the node
  pub same_put : (a b : List ℕ) (g : ℕ) (x y : List ℕ) → x ≡ y → length x ≡ z.b → length a ≡ area_length z → v < z.n + z.s
      → g < node_slots z v
      → SameCells z v a b → SameCells z v (put_cell z a v g x) (put_cell z b v g y)
  same_put a b g x y e lx la lv lg s = rw (sym e) (record {
    long = length_put_cell z a v g x ∙ (s.long ∙ sym (length_put_cell z b v g x));
    cells = λ h lh. go h lh (ℕ_discrete g h);
  })
    where
      go : (h : ℕ) → h < node_slots z v → Dec (g ≡ h) → cell z (put_cell z a v g x) v h ≡ cell z (put_cell z b v g x) v h
      go h lh (yes q) = rw (sym q) (cell_same z a v g x la lv lg lx ∙ sym (cell_same z b v g x (sym s.long ∙ la) lv lg lx))
      go h lh (no d) =
          cell_other z a v g v h x lg lh lx (λ p q. d q) ∙ (s.cells h lh ∙ sym (cell_other z b v g v h x lg lh lx (λ p q. d q)))

  pub only_put : (a : List ℕ) (g : ℕ) (x : List ℕ) → length x ≡ z.b → g < node_slots z v → OnlyCells z v a (put_cell z a v g x)
  only_put a g x lx lg = record {
    long = length_put_cell z a v g x;
    others = λ u h d lh. cell_other z a v g u h x lg lh lx (λ p q. d (sym p));
  }

  pub only_none : (a : List ℕ) → OnlyCells z v a a
  only_none a = record { long = refl; others = λ u g d l. refl }

  pub only_then : (a b c : List ℕ) → OnlyCells z v a b → OnlyCells z v b c → OnlyCells z v a c
  only_then a b c p q = record { long = q.long ∙ p.long; others = λ u g d l. q.others u g d l ∙ p.others u g d l }

  -- a run of steps, each of which does so
  module _ (step : ℕ → List ℕ → List ℕ) where
    pub same_run : (n : ℕ) (a b : List ℕ) → length a ≡ area_length z → ((q : ℕ) (c : List ℕ) → length (step q c) ≡ length c)
        → ((q : ℕ) → q < n → (c d : List ℕ) → length c ≡ area_length z → SameCells z v c d → SameCells z v (step q c) (step q d))
        → SameCells z v a b → SameCells z v (run step 0 n a) (run step 0 n b)
    unfolding run
    same_run zero a b la long each s = s
    same_run (suc n) a b la long each s = rw (zero-add n)
        (each n (omega arith) _ _ (run_length step long 0 n a ∙ la) (same_run n a b la long (λ q l. each q (omega arith)) s))

    pub only_run : (n : ℕ) (a : List ℕ) → ((q : ℕ) → q < n → (c : List ℕ) → OnlyCells z v c (step q c)) → OnlyCells z v a (run step 0 n a)
    unfolding run
    only_run zero a each = only_none a
    only_run (suc n) a each =
        rw (zero-add n) (only_then a (run step 0 n a) _ (only_run n a (λ q l. each q (omega arith))) (each n (omega arith) _))

-- ---- what a call on kept stripe w reads on its node

module _ (z : Shape) (ok : InRanges z) (w : ℕ) (l : w < kept z) where
  pub sender_slots : w < node_slots z (sender z w)
  sender_slots = let k = kept_slots z (sender z w) in omega arith

  pub sender_there : sender z w < z.n + z.s
  unfolding sender
  sender_there = let q = source_node_lt z ok w in omega arith

  pub source_inside : (t : ℕ) → t < z.s → source_slot z w t < node_slots z (sender z w)
  unfolding sender
  source_inside t h = rw (slots_old z (source_node z w) (source_node_lt z ok w)) (taken z ok w t l h).under

  module _ (a b : List ℕ) (s : SameCells z (sender z w) a b) where
    pub row0_same : row z a w 0 ≡ row z b w 0
    unfolding row
    row0_same = rw (sym (sender_row_0 z ok w)) (s.cells w sender_slots)

    pub news_same : (t : ℕ) → t < z.s → new_block z a w t ≡ new_block z b w t
    unfolding new_block
    news_same t h = rw (source_sender z w) (s.cells (source_slot z w t) (source_inside t h))

    pub deltas_same : (j : ℕ) → delta_of z j (new_block z a w) ≡ delta_of z j (new_block z b w)
    unfolding delta_of
    deltas_same j = delta_same (multiplier z) z.b z.k z.s j (new_block z a w) (new_block z b w) news_same
