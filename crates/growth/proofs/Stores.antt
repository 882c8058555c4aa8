-- A store that drive works on is in order: exact lengths and an open journal. Compute and release leave it so. Assumes nothing.
use mathlib.Core.Path.{◌≡◌, ◌∙◌}
use mathlib.Core.Bool.{true}
use Prim.Native.Nat.{ℕ, ◌<◌}
use mathlib.Core.List.{List}
use lib.ListN.{length}
use Rattle.layout.specs.declared.Shape.{Shape}
use Rattle.layout.specs.Ranges.{InRanges}
use Rattle.layout.specs.Counts.{kept, transfers}
use Rattle.layout.specs.Addresses.{area_length}
use Rattle.records.specs.declared.StripeRecord.{StripeRecord}
use Rattle.records.specs.Records as Records
use Rattle.records.specs.Records.{is_receipted, is_computed}
use Rattle.journal.specs.Journal.{record_at}
use Rattle.journal.specs.Whole.{marks}
use Rattle.growth.specs.Send.{message_length}
use Rattle.growth.specs.Deliver.{receipt_length}
use Rattle.growth.specs.Drive.{Store, compute_on, release_on}
use Rattle.growth.proofs.BufferLaws.{first_long, compute_buffers, release_buffers}
use Rattle.growth.proofs.OpenJournals.{OpenJournal}
use Rattle.growth.proofs.CallJournals.{JournalStep}
use Rattle.growth.proofs.CallsInOrder.{compute_leaves, release_leaves}

pub record SoundStore (z : Shape) (c : Store) : Type 0 where
  pub area_long : length c.area ≡ area_length z
  pub opens : OpenJournal z c.journal
  pub message_long : length c.message ≡ message_length z
  pub receipt_long : length c.receipt ≡ receipt_length

-- the store after a step at stripe w: in order, and its journal is the one of before but for record w, which is r
pub record StoreStep (z : Shape) (before : List ℕ) (w : ℕ) (r : StripeRecord) (count : ℕ) (after : Store) : Type 0 where
  pub sound : SoundStore z after
  pub journals : JournalStep z before w r count after.journal

-- two steps at one stripe
pub step_twice : (z : Shape) (before : List ℕ) (w : ℕ) (q r : StripeRecord) (n k : ℕ) (between after : Store)
    → StoreStep z before w q n between → StoreStep z between.journal w r k after → StoreStep z before w r k after
step_twice z before w q r n k between after f g = record {
  sound = g.sound;
  journals = record {
    opens = g.journals.opens;
    own = g.journals.own;
    other = λ v d. g.journals.other v d ∙ f.journals.other v d;
    marked = g.journals.marked;
    number = g.journals.number ∙ f.journals.number;
  };
}

module _ (z : Shape) (ok : InRanges z) (c : Store) (s : SoundStore z c) (w : ℕ) (l : w < kept z) where
  -- ---- compute

  pub compute_step : StoreStep z c.journal w (Records.compute (record_at c.journal w)) (marks z c.journal) (compute_on z w c)
  unfolding compute_on
  compute_step =
      let j = compute_leaves z ok c.journal s.opens c.area s.area_long w l in
      record {
        sound = record {
          area_long = first_long (compute_buffers z c.area c.journal w) ∙ s.area_long;
          opens = j.opens;
          message_long = s.message_long;
          receipt_long = s.receipt_long;
        };
        journals = j;
      }

  -- ---- release, of a stripe that is computed, with every transfer receipted

  pub release_step : is_computed (record_at c.journal w) ≡ true
      → ((e : ℕ) → e < transfers z → is_receipted (record_at c.journal w) e ≡ true)
      → StoreStep z c.journal w (Records.release (record_at c.journal w)) (marks z c.journal) (release_on z w c)
  unfolding release_on
  release_step computed receipted =
      let j = release_leaves z ok c.journal s.opens c.area s.area_long w l computed receipted in
      record {
        sound = record {
          area_long = first_long (release_buffers z c.area c.journal w) ∙ s.area_long;
          opens = j.opens;
          message_long = s.message_long;
          receipt_long = s.receipt_long;
        };
        journals = j;
      }
