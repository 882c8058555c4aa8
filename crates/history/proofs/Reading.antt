-- Every old block can be read at every point, where the growth without bytes reads it: locate is done, and the stretch it names holds what
-- the block held when begin accepted. Assumes nothing.
use mathlib.Core.Path.{◌≡◌, sym, ap₂, ◌∙◌}
use mathlib.Core.Bool.{Bool, true, false}
use mathlib.Core.List.{List}
use Prim.Native.Nat.{ℕ, ◌+◌, ◌≤◌, ◌<◌}
use native.Mathlib.Nat.{add-sub_cancel_left}
use native.Mathlib.Decide.{dec_lt}
use native.Mathlib.Omega.{arith}
use lib.ListN.{length}
use borrow.Author.Tests.{lt-ltb, le-ltb, le-leb, lt-leb}
use Rattle.base.specs.Tests.{if}
use Rattle.base.proofs.Refusals.{first_none, or_else_pass}
use Rattle.area.specs.Area.{slot}
use Rattle.layout.specs.declared.Shape.{Shape}
use Rattle.layout.specs.Ranges.{shape_refusal}
use Rattle.layout.specs.Counts.{kept, stripes}
use Rattle.layout.specs.Nodes.{data_node}
use Rattle.layout.specs.Sources.{target_stripe, target_index}
use Rattle.layout.specs.Closed.{new_block_node, new_data_node}
use Rattle.layout.specs.Columns.{new_stripe, new_column, has_moved, standing_node, standing_slot}
use Rattle.layout.specs.Roles.{source}
use Rattle.layout.specs.Claims.{Given}
use Rattle.layout.proofs.RangeLaws.{accepted}
use Rattle.layout.proofs.SourceLaws.{given}
use Rattle.layout.proofs.ColumnLaws.{becomes}
use Rattle.records.specs.Records.{is_released}
use Rattle.records.specs.Conditions.{progress_ok}
use Rattle.journal.specs.Journal.{header_of, record_at}
use Rattle.protocol.specs.Reading.{OldBlock, kept_column, new_block, Exists, end_of, reads, held}
use Rattle.growth.specs.Cells as Cells
use Rattle.growth.specs.Cells.{cell, column}
use Rattle.growth.specs.Shared.{damaged_header}
use Rattle.growth.specs.Begin.{begun_area}
use Rattle.growth.specs.Read.{touches_word, read_refusals, read_refusal, released_by, offset_of, locate}
use Rattle.growth.proofs.WholeParts.{whole_parts}
use Rattle.growth.proofs.NotRefused.{right_length, within_range, sound_word}
use Rattle.growth.proofs.ReadLaws.{read_cells}
use Rattle.history.specs.Contents.{Contents}
use Rattle.history.specs.Begun.{Begun}
use Rattle.history.specs.Claims.{Readable}
use Rattle.history.proofs.Growths.{seen, cells_of, growth_of, view_of, Fit}
use Rattle.history.proofs.RoleCells.{seen_column, seen_source, seen_end}
use Rattle.history.proofs.BegunCells.{start_column, start_source}

module _ (z : Shape) (begun : List ℕ) (number : ℕ) (f : Begun z begun number) (c : Contents) (fit : Fit z number c) where
  -- ---- nothing refuses a read in range, in any state

  unrefused : (g d : ℕ) → g < stripes z → d < z.k → read_refusal z (length c.area) c.journal g d ≡ 0
  unfolding read_refusal
  unrefused g d l m =
      let whole = whole_parts z c.journal fit.whole in
      let word = sound_word (touches_word z g d) (progress_ok z (record_at c.journal (new_stripe z g d)).progress)
      (whole.records (new_stripe z g d) (becomes z f.in_ranges g d l m).stripe).progress_word_law in
      let area = right_length _ _ fit.area_long in
      let words = right_length _ _ fit.journal_long in
      let header : (damaged_header z (header_of c.journal)).applies ≡ false = rw whole.header in
      let stripe = within_range g (stripes z) l in
      let place = within_range d z.k m in
      or_else_pass (shape_refusal z) _ (accepted z f.in_ranges)
      ∙ first_none (read_refusals z (length c.area) c.journal g d) (area, (words, (header, (word, (stripe, (place, tt))))))

  -- ---- the cell in which a block stands now

  abbrev released : ℕ → Bool
  released = released_by c.journal

  -- a dissolved block is a new block's
  held_there : (g d w t : ℕ) → Given z g d w t → seen z (begun_area z begun) (source w t) ≡ cell z begun (data_node z g d) g
  unfolding Cells.new_block
  held_there g d w t x = start_source z begun number f w t x.stripe x.index ∙ ap₂ (cell z begun) x.node x.slot

  -- it is in its first place before its stripe's release, and after it where it ends
  moved : (g d w t : ℕ) → Given z g d w t → (b : Bool)
      → if b (end_of (growth_of z (begun_area z begun)) (cells_of z c.area) w t) (seen z c.area (source w t))
      ≡ seen z (begun_area z begun) (source w t)
      → cell z c.area (if b (new_block_node z w t) (data_node z g d)) (if b w g) ≡ cell z begun (data_node z g d) g
  unfolding Cells.new_block
  moved g d w t x true e =
      sym (seen_end z c.area f.in_ranges (begun_area z begun) w t x.stripe x.index) ∙ e ∙ held_there g d w t x
  moved g d w t x false e =
      ap₂ (cell z c.area) (sym x.node) (sym x.slot)
      ∙ sym (seen_source z c.area w t x.stripe x.index)
      ∙ e
      ∙ held_there g d w t x

  module _ (readings : (b : OldBlock) → Exists (growth_of z (begun_area z begun)) b
      → reads (growth_of z (begun_area z begun)) (view_of z (begun_area z begun) c) b ≡ held (growth_of z (begun_area z begun)) b) where
    stands_kept : (g d : ℕ) → g < kept z → d < z.k
        → cell z c.area (standing_node z released g d) (standing_slot z released g d) ≡ column z begun g d
    unfolding standing_node standing_slot has_moved column reads
    stands_kept g d l m =
        rw (lt-leb (kept z) g l)
        (sym (seen_column z c.area g d l m) ∙ readings (kept_column g d) tt ∙ start_column z begun number f g d l m)

    stands_dissolved : (g d : ℕ) → kept z ≤ g → g < stripes z → d < z.k
        → cell z c.area (standing_node z released g d) (standing_slot z released g d) ≡ column z begun g d
    unfolding standing_node standing_slot has_moved new_stripe new_column new_data_node column reads
    stands_dissolved g d a h m =
        let w = target_stripe z g d in
        let t = target_index z g d in
        let x = given z f.in_ranges g d a h m in
        rw (le-leb (kept z) g a, le-ltb g (kept z) a, le-ltb (z.k + t) z.k (omega arith), add-sub_cancel_left z.k t)
        (moved g d w t x (is_released (record_at c.journal w))
        (rw (lt-ltb w (kept z) x.stripe) at (readings (new_block w t) (x.stripe, x.index))))

    stands : (g d : ℕ) → g < stripes z → d < z.k
        → cell z c.area (standing_node z released g d) (standing_slot z released g d) ≡ column z begun g d
    stands g d l m = elim (dec_lt g (kept z)) [ yes h ↦ stands_kept g d h m | no h ↦ stands_dissolved g d (omega arith) l m ]

    read_there : (g d : ℕ) → g < stripes z → d < z.k → Readable z begun c.area c.journal g d
    unfolding locate offset_of cell slot
    read_there g d l m =
        let e = unrefused g d l m in
        record {
          offset = offset_of z c.journal g d;
          located = rw e;
          bytes = stands g d l m;
          read_back = (read_cells z c.area c.journal g d e).stretch ∙ stands g d l m;
        }

pub readable : (z : Shape) (begun : List ℕ) (number : ℕ) → Begun z begun number
    → (c : Contents) → Fit z number c
    → ((b : OldBlock) → Exists (growth_of z (begun_area z begun)) b
    → reads (growth_of z (begun_area z begun)) (view_of z (begun_area z begun) c) b ≡ held (growth_of z (begun_area z begun)) b)
    → (g d : ℕ) → g < stripes z → d < z.k → Readable z begun c.area c.journal g d
readable = read_there
