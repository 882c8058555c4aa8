-- Every old block stands where read looks for it, with the bytes that it had when begin accepted. Assumes nothing.
use mathlib.Core.Path.{◌≡◌, refl, sym, ap₂, ◌∙◌}
use mathlib.Core.Bool.{Bool, true, false}
use mathlib.Core.List.{List}
use Prim.Native.Nat.{ℕ, ◌≤◌, ◌<◌}
use native.Mathlib.Decide.{dec_lt}
use native.Mathlib.Omega.{arith}
use lib.Dec.{ltb}
use borrow.Author.Tests.{lt-ltb, le-ltb, le-leb, lt-leb}
use Rattle.base.proofs.Tests.{and_both}
use Rattle.layout.specs.declared.Shape.{Shape}
use Rattle.layout.specs.Ranges.{InRanges}
use Rattle.layout.specs.Counts.{kept, stripes}
use Rattle.layout.specs.Nodes.{data_node}
use Rattle.layout.specs.Sources.{target_stripe, target_index}
use Rattle.layout.specs.Closed.{new_data_node}
use Rattle.layout.specs.Columns.{new_stripe, new_column, has_moved, standing_node, standing_slot}
use Rattle.layout.specs.Roles.{kept_data, source}
use Rattle.layout.proofs.SourceLaws.{given}
use Rattle.layout.proofs.ColumnLaws.{becomes}
use Rattle.records.specs.Records.{is_released}
use Rattle.journal.specs.Journal.{record_at}
use Rattle.growth.specs.Cells.{cell, column, new_block}
use Rattle.growth.specs.ClosedArea.{new_stripe_column}
use Rattle.growth.proofs.NewStripes.{column_there}
use Rattle.history.proofs.RoleNames.{source_exists}
use Rattle.stages.specs.Cells.{held_by}
use Rattle.stages.specs.Claims.{AnyPoint, Stands}
use Rattle.stages.proofs.ReleasedStripes.{ended}

module _ (z : Shape) (old : List ℕ) (number : ℕ) (area journal : List ℕ) (p : AnyPoint z old number area journal) where
  abbrev ok : InRanges z
  ok = p.begun.in_ranges

  kept_block : (g d : ℕ) → g < kept z → d < z.k → cell z area (data_node z g d) g ≡ column z old g d
  unfolding held_by
  kept_block g d l m = p.roles (kept_data g d) (and_both (ltb g (kept z)) (ltb d z.k) (lt-ltb g (kept z) l) (lt-ltb d z.k m))

  module _ (g d : ℕ) (a : kept z ≤ g) (h : g < stripes z) (m : d < z.k) where
    abbrev w : ℕ
    w = new_stripe z g d

    -- in its column's place
    moved_block : is_released (record_at journal w) ≡ true → cell z area (new_data_node z w (new_column z g d)) w ≡ column z old g d
    unfolding new_stripe_column
    moved_block out =
        let b = becomes z ok g d h m in
        column_there z ok old area w b.stripe (ended z old number area journal p w b.stripe out) (new_column z g d) b.column
        ∙ ap₂ (column z old) b.back_stripe b.back_column

    -- in its first place
    unmoved_block : is_released (record_at journal w) ≡ false → cell z area (data_node z g d) g ≡ column z old g d
    unfolding held_by new_block column new_stripe
    unmoved_block out =
        let x = given z ok g d a h m in
        let t = target_index z g d in
        let s = target_stripe z g d in
        ap₂ (cell z area) (sym x.node) (sym x.slot)
        ∙ p.roles (source s t) (source_exists z s t x.stripe x.index)
        ∙ rw (rw (le-ltb g (kept z) a) at out) (ap₂ (cell z old) x.node x.slot)

  pub old_block : (g d : ℕ) → g < stripes z → d < z.k → Stands z old area journal g d
  unfolding standing_node standing_slot has_moved
  old_block g d h m = go (dec_lt g (kept z)) (is_released (record_at journal (new_stripe z g d))) refl
    where
      go : Dec (g < kept z) → (b : Bool) → is_released (record_at journal (new_stripe z g d)) ≡ b → Stands z old area journal g d
      go (yes l) b e = rw (lt-leb (kept z) g l) (kept_block g d l m)
      go (no l) true e = rw (le-leb (kept z) g (omega arith), e) (moved_block g d (omega arith) h m e)
      go (no l) false e = rw (le-leb (kept z) g (omega arith), e) (unmoved_block g d (omega arith) h m e)
