-- Release depends on the header, its node's cells and its word alone, and changes nothing else. Assumes nothing.
use mathlib.Core.Path.{◌≡◌, refl, ap, ◌∙◌}
use mathlib.Core.List.{List}
use Prim.Native.Nat.{ℕ, ◌<◌}
use lib.ListN.{length}
use Rattle.base.proofs.Choice.{if_cases, if_both}
use Rattle.answer.specs.Answers.{done}
use Rattle.answer.proofs.Answers.{answered_done, done_cases, done_both}
use Rattle.area.proofs.Blocks.{length_zeros}
use Rattle.layout.specs.declared.Shape.{Shape}
use Rattle.layout.specs.Ranges.{InRanges}
use Rattle.layout.specs.Counts.{kept}
use Rattle.layout.specs.Addresses.{area_length}
use Rattle.layout.specs.Sources.{source_node}
use Rattle.layout.specs.Closed.{swapped, swap_index}
use Rattle.layout.specs.Transfers.{sender}
use Rattle.layout.proofs.ClosedLaws.{turn_lt}
use Rattle.records.specs.Records as Records
use Rattle.journal.specs.Journal.{header_of, record_at}
use Rattle.journal.proofs.PutLaws.{pair_inside}
use Rattle.growth.specs.Release.{moved_area, zero_sources, released_area, released_journal, release}
use Rattle.growth.specs.Local.{SameCells, SameProgress, OnlyCells, OnlyProgress, ReleaseLocal}
use Rattle.growth.proofs.CellLaws.{length_put_cell}
use Rattle.growth.proofs.BlockLaws.{length_new_block}
use Rattle.growth.proofs.LengthLaws.{length_moved}
use Rattle.growth.proofs.Allowed.{ReleaseAllowed, release_allowed}
use Rattle.growth.proofs.ReleaseCells.{own_slot, own_source, own_node}
use Rattle.growth.proofs.LocalCells.{same_put, only_put, only_none, only_then, same_run, only_run, news_same}
use Rattle.growth.proofs.LocalWords.{only_sent_none, same_sent, only_sent}

module _ (z : Shape) (w : ℕ) where
  module _ (ok : InRanges z) (l : w < kept z) where
    same_moved : (a b : List ℕ) → length a ≡ area_length z → SameCells z (sender z w) a b
        → SameCells z (sender z w) (moved_area z a w) (moved_area z b w)
    unfolding moved_area sender
    same_moved a b la s = if_both (SameCells z (source_node z w)) (swapped z w) _ _ _ _
        (λ p. same_put z (source_node z w) a b w _ _ (news_same z ok w l a b s (swap_index z w) (turn_lt z ok w))
        (length_new_block z a w (swap_index z w)) la
        (own_node z ok w l) (own_slot z ok w l) s) (λ p. s)

    only_moved : (a : List ℕ) → OnlyCells z (sender z w) a (moved_area z a w)
    unfolding moved_area sender
    only_moved a = if_cases (OnlyCells z (source_node z w) a) (swapped z w) _ _
        (λ p. only_put z (source_node z w) a w _ (length_new_block z a w (swap_index z w)) (own_slot z ok w l))
        (λ p. only_none z (source_node z w) a)

    same_released : (a b : List ℕ) → length a ≡ area_length z → SameCells z (sender z w) a b
        → SameCells z (sender z w) (released_area z a w) (released_area z b w)
    unfolding released_area zero_sources sender
    same_released a b la s = same_run z (source_node z w) _ z.s (moved_area z a w) (moved_area z b w) (length_moved z a w ∙ la)
        (λ t c. length_put_cell z c _ _ _)
        (λ t h c d lc q. same_put z (source_node z w) c d _ _ _ refl (length_zeros z.b) lc (own_node z ok w l) (own_source z ok w l t h)
        q)
        (same_moved a b la s)

    only_released : (a : List ℕ) → OnlyCells z (sender z w) a (released_area z a w)
    unfolding released_area zero_sources sender
    only_released a = only_then z (source_node z w) a (moved_area z a w) _ (only_moved a)
        (only_run z (source_node z w) _ z.s (moved_area z a w)
        (λ t h c. only_put z (source_node z w) c _ _ (length_zeros z.b) (own_source z ok w l t h)))

  release_done : (a i : List ℕ) → (release z a i w).answer ≡ done
      → ReleaseAllowed z (length a) (length i) (header_of i) (record_at i w).progress w
  unfolding release
  release_done a i e = release_allowed z _ _ _ _ w (answered_done _ (Records.released_in (record_at i w).progress) e).0

  release_same : (a b i j : List ℕ) → SameCells z (sender z w) a b → SameProgress w i j
      → (release z a i w).answer ≡ (release z b j w).answer
  unfolding release
  release_same a b i j s t = rw (s.long, t.long, t.header, t.word)

  pub release_local : ReleaseLocal z w
  unfolding release released_journal Records.release
  release_local = record {
    answer = release_same;
    area =
        λ a b i j s t. done_both (SameCells z (sender z w)) (release z a i w).answer (release z b j w).answer _ _ _ _
        (release_same a b i j s t)
        (λ e. let m = release_done a i e in same_released m.ok m.stripe a b m.area_long s) s;
    journal = λ a b i j s t. done_both (SameProgress w) (release z a i w).answer (release z b j w).answer _ _ _ _
        (release_same a b i j s t)
        (λ e. let m = release_done a i e in
        same_sent w i j _ _ (pair_inside z i w m.journal_long m.stripe) (ap (λ x. Records.set_bit x 27) t.word) t) t;
    only_cells = λ a i. done_cases (OnlyCells z (sender z w) a) (release z a i w).answer _ _
        (λ e. let m = release_done a i e in only_released m.ok m.stripe a) (only_none z (sender z w) a);
    only_word = λ a i. done_cases (OnlyProgress w i) (release z a i w).answer _ _
        (λ e. let m = release_done a i e in only_sent w i _ (pair_inside z i w m.journal_long m.stripe) refl) (only_sent_none w i);
  }
