-- Compute depends on the header, its node's cells and its word alone, and changes nothing else. Assumes nothing.
use mathlib.Core.Path.{◌≡◌, refl, sym, ap}
use mathlib.Core.List.{List}
use Prim.Native.Nat.{ℕ, ◌<◌}
use lib.ListN.{length}
use Rattle.answer.specs.Answers.{done}
use Rattle.answer.proofs.Answers.{answered_done, done_cases, done_both}
use Rattle.area.proofs.Sums.{length_xor_blocks}
use Rattle.layout.specs.declared.Shape.{Shape}
use Rattle.layout.specs.Ranges.{InRanges}
use Rattle.layout.specs.Counts.{kept}
use Rattle.layout.specs.Addresses.{area_length}
use Rattle.layout.specs.Transfers.{sender}
use Rattle.layout.proofs.TransferLaws.{sender_row_0}
use Rattle.records.specs.Records as Records
use Rattle.journal.specs.Journal.{header_of, record_at}
use Rattle.journal.proofs.PutLaws.{pair_inside}
use Rattle.growth.specs.Cells.{row, new_block, delta_of}
use Rattle.growth.specs.Compute.{computed_area, computed_journal, compute}
use Rattle.growth.specs.Local.{SameCells, SameProgress, OnlyCells, OnlyProgress, ComputeLocal}
use Rattle.growth.proofs.Allowed.{ComputeAllowed, compute_allowed}
use Rattle.growth.proofs.LocalCells.{same_put, only_put, only_none, sender_slots, sender_there, row0_same, deltas_same}
use Rattle.growth.proofs.LocalWords.{only_sent_none, same_sent, only_sent}

module _ (z : Shape) (w : ℕ) where
  module _ (ok : InRanges z) (l : w < kept z) where
    same_computed : (a b : List ℕ) → length a ≡ area_length z → SameCells z (sender z w) a b
        → SameCells z (sender z w) (computed_area z a w) (computed_area z b w)
    unfolding computed_area
    same_computed a b la s = rw (sym (sender_row_0 z ok w))
        (same_put z (sender z w) a b w _ _ (rw (row0_same z ok w l a b s, deltas_same z ok w l a b s 0)) (length_xor_blocks z.b _ _) la
        (sender_there z ok w l) (sender_slots z ok w l) s)

    only_computed : (a : List ℕ) → OnlyCells z (sender z w) a (computed_area z a w)
    unfolding computed_area
    only_computed a = rw (sym (sender_row_0 z ok w))
        (only_put z (sender z w) a w _ (length_xor_blocks z.b (row z a w 0) (delta_of z 0 (new_block z a w))) (sender_slots z ok w l))

  compute_done : (a i : List ℕ) → (compute z a i w).answer ≡ done
      → ComputeAllowed z (length a) (length i) (header_of i) (record_at i w).progress w
  unfolding compute
  compute_done a i e = compute_allowed z _ _ _ _ w (answered_done _ (Records.computed_in (record_at i w).progress) e).0

  compute_same : (a b i j : List ℕ) → SameCells z (sender z w) a b → SameProgress w i j
      → (compute z a i w).answer ≡ (compute z b j w).answer
  unfolding compute
  compute_same a b i j s t = rw (s.long, t.long, t.header, t.word)

  pub compute_local : ComputeLocal z w
  unfolding compute computed_journal Records.compute
  compute_local = record {
    answer = compute_same;
    area =
        λ a b i j s t. done_both (SameCells z (sender z w)) (compute z a i w).answer (compute z b j w).answer _ _ _ _
        (compute_same a b i j s t)
        (λ e. let m = compute_done a i e in same_computed m.ok m.stripe a b m.area_long s) s;
    journal = λ a b i j s t. done_both (SameProgress w) (compute z a i w).answer (compute z b j w).answer _ _ _ _
        (compute_same a b i j s t)
        (λ e. let m = compute_done a i e in
        same_sent w i j _ _ (pair_inside z i w m.journal_long m.stripe) (ap (λ x. Records.set_bit x 26) t.word) t) t;
    only_cells = λ a i. done_cases (OnlyCells z (sender z w) a) (compute z a i w).answer _ _
        (λ e. let m = compute_done a i e in only_computed m.ok m.stripe a) (only_none z (sender z w) a);
    only_word = λ a i. done_cases (OnlyProgress w i) (compute z a i w).answer _ _
        (λ e. let m = compute_done a i e in only_sent w i _ (pair_inside z i w m.journal_long m.stripe) refl) (only_sent_none w i);
  }
