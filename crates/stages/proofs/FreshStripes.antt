-- A stripe that is not computed is as begin left it. Assumes nothing.
use mathlib.Core.Path.{◌≡◌, sym, ◌∙◌}
use mathlib.Core.Bool.{false}
use mathlib.Core.List.{List, []}
use Prim.Native.Nat.{ℕ, ◌<◌}
use native.Mathlib.Omega.{arith}
use Rattle.base.proofs.Tests.{off, clash}
use Rattle.code.proofs.Laws.{parity_row_same}
use Rattle.layout.specs.declared.Shape.{Shape}
use Rattle.layout.specs.Ranges.{rows, InRanges}
use Rattle.layout.specs.Counts.{kept, stripes, transfers}
use Rattle.layout.specs.Nodes.{row_node, data_node}
use Rattle.layout.proofs.NodeLaws.{row_node_lt, data_node_lt}
use Rattle.records.specs.declared.StripeRecord.{StripeRecord}
use Rattle.records.specs.Records.{is_accepted, is_computed, is_released}
use Rattle.journal.specs.Journal.{record_at}
use Rattle.journal.specs.Fresh.{fresh_journal}
use Rattle.protocol.specs.Histories.{after_all, EachWasSent}
use Rattle.growth.specs.Cells.{cell, column, row, parity_of, multiplier}
use Rattle.growth.specs.Begin.{begun_area}
use Rattle.growth.proofs.WholeParts.{RecordParts, whole_parts}
use Rattle.growth.proofs.BeginCells.{begin_cells}
use Rattle.history.specs.Begun.{Begun, begun_contents}
use Rattle.history.proofs.FreshJournals.{fresh_computed, fresh_released, fresh_accepted}
use Rattle.stages.specs.Journals.{SameStage}
use Rattle.stages.specs.Claims.{AnyPoint, SameStripe, FreshStripe}
use Rattle.stages.proofs.EveryPoint.{every_history}
use Rattle.stages.proofs.SameStripes.{same_stripe}

-- what begin left is a point of the growth, the one after no call
begin_point : (z : Shape) (old : List ℕ) (number : ℕ) → Begun z old number
    → AnyPoint z old number (begun_area z old) (fresh_journal z number)
unfolding after_all EachWasSent begun_contents
begin_point z old number b = every_history z old number b [] tt

module _ (z : Shape) (old : List ℕ) (number : ℕ) (area journal : List ℕ) (p : AnyPoint z old number area journal)
    (w : ℕ) (l : w < kept z) (uncomputed : is_computed (record_at journal w) ≡ false) where
  abbrev ok : InRanges z
  ok = p.begun.in_ranges

  abbrev marks : StripeRecord
  marks = record_at journal w

  parts : RecordParts z marks
  parts = (whole_parts z journal p.journal_good.whole).records w l

  -- ---- nothing is marked

  unaccepted : (e : ℕ) → e < transfers z → is_accepted marks e ≡ false
  unaccepted e m = off (λ a. clash (parts.accepted_computed e m a) uncomputed)

  unreleased : is_released marks ≡ false
  unfolding transfers
  unreleased =
      let some : 0 < transfers z = omega (arith, ok.some_new, ok.some_rows) in
      off (λ r. clash (parts.receipted_accepted 0 some (parts.released_receipted r 0 some)) (unaccepted 0 some))

  as_fresh : SameStage z journal (fresh_journal z number) w
  as_fresh =
      let small = p.begun.number_small in
      record {
        computed = uncomputed ∙ sym (fresh_computed z ok number small w l);
        accepted = λ e m. unaccepted e m ∙ sym (fresh_accepted z ok number small w l e m);
        released = unreleased ∙ sym (fresh_released z ok number small w l);
      }

  as_begun : SameStripe z area (begun_area z old) w
  as_begun =
      same_stripe z old number area (begun_area z old) journal (fresh_journal z number) p (begin_point z old number p.begun) w l as_fresh

  -- ---- its parity

  left : (v : ℕ) → v < z.n → cell z area v w ≡ cell z old v w
  unfolding stripes
  left v m = as_begun.slot v (omega arith) ∙ (begin_cells z ok old p.begun.long).old v w m (omega arith)

  old_parity : (j : ℕ) → j < rows z → row z area w j ≡ parity_of z area w j
  unfolding row column parity_of stripes
  old_parity j m =
      left (row_node z w j) (row_node_lt z ok w j)
      ∙ p.begun.parity w j (omega arith) m
      ∙ parity_row_same (multiplier z) z.b z.k j (column z old w) (column z area w)
      (λ d h. sym (left (data_node z w d) (data_node_lt z ok w d)))

  pub fresh : FreshStripe z old area w
  fresh = record { as_begun = as_begun; parity = old_parity }
