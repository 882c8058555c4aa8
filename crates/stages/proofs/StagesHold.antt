-- All that is claimed of the cells at any point of a growth. Assumes nothing.
use mathlib.Core.Path.{◌≡◌, sym, ap, ◌∙◌}
use mathlib.Core.List.{List}
use Prim.Native.Nat.{ℕ, ◌<◌}
use lib.ListN.{length}
use Rattle.layout.specs.declared.Shape.{Shape}
use Rattle.layout.specs.Ranges.{InRanges}
use Rattle.layout.specs.Counts.{kept}
use Rattle.layout.specs.Addresses.{area_length}
use Rattle.growth.proofs.CellLaws.{area_ext}
use Rattle.stages.specs.Cells.{cell_now}
use Rattle.stages.specs.Journals.{SameMarks}
use Rattle.stages.specs.Claims.{AnyPoint, AllCellsSame, EachStripe, StagesHold}
use Rattle.stages.proofs.SameJournals.{journal_by_marks}
use Rattle.stages.proofs.ReleasedStripes.{released}
use Rattle.stages.proofs.ClosedPoints.{once_closed}
use Rattle.stages.proofs.OldBlocks.{old_block}
use Rattle.stages.proofs.EveryPoint.{every_history}
use Rattle.stages.proofs.SameStripes.{same_stripe}
use Rattle.stages.proofs.FreshStripes.{fresh}

-- ---- marks decide

module _ (z : Shape) (old : List ℕ) (number : ℕ) (x y a b : List ℕ) (p : AnyPoint z old number x a) (q : AnyPoint z old number y b)
    (same : SameMarks z a b) where
  same_journal : a ≡ b
  same_journal = journal_by_marks z number a b p.journal_good q.journal_good same

  same_area : x ≡ y
  same_area = area_ext z p.begun.in_ranges x y p.area_long q.area_long
      (λ v g lv lg. p.cells v g lv lg ∙ ap (λ j. cell_now z old j v g) same_journal ∙ sym (q.cells v g lv lg))

each_stripe : (z : Shape) (old : List ℕ) (number : ℕ) (area journal : List ℕ) → AnyPoint z old number area journal
    → (w : ℕ) → w < kept z → EachStripe z old area journal w
each_stripe z old number area journal p w l =
    record { uncomputed = fresh z old number area journal p w l; released = released z old number area journal p w l }

area_by_cells : (z : Shape) → InRanges z → (a b : List ℕ) → length a ≡ area_length z → length b ≡ area_length z → AllCellsSame z a b → a ≡ b
area_by_cells = area_ext

pub stages_hold : StagesHold
stages_hold = record {
  every_history = every_history;
  each_stripe = each_stripe;
  once_closed = once_closed;
  old_blocks = old_block;
  area_by_cells = area_by_cells;
  journal_by_marks = journal_by_marks;
  by_stage_alone = same_stripe;
  by_marks_alone = λ z old number x y a b p q same. (same_area z old number x y a b p q same, same_journal z old number x y a b p q same);
}
