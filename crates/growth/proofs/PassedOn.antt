-- A transfer that drive passes on: it is sent, delivered and receipted, its record has both marks, and one mark more is counted if it
-- was not accepted. Assumes nothing.
use mathlib.Core.Path.{◌≡◌, refl, sym, ap, ◌∙◌}
use mathlib.Core.Bool.{true, false}
use mathlib.Core.List.{List, []}
use Prim.Native.Nat.{ℕ, ◌+◌, ◌<◌}
use native.Mathlib.Omega.{arith}
use lib.ListN.{length}
use Rattle.base.proofs.Tests.{clash, off}
use Rattle.layout.specs.declared.Shape.{Shape}
use Rattle.layout.specs.Ranges.{InRanges}
use Rattle.layout.specs.Counts.{kept, transfers}
use Rattle.layout.specs.Transfers.{receiver}
use Rattle.wire.specs.Headers.{header_for, header_bytes, message, header_at, receipt_of}
use Rattle.wire.specs.Forms.{is_message}
use Rattle.wire.specs.Claims.{Names, Transfer}
use Rattle.wire.proofs.WordLaws.{rest_lt}
use Rattle.wire.proofs.ByteLaws.{header_alone, length_header}
use Rattle.wire.proofs.FormLaws.{header_words}
use Rattle.wire.proofs.WireHolds.{wire_holds}
use Rattle.records.specs.Records as Records
use Rattle.records.specs.Records.{is_accepted, is_receipted, is_computed, is_released}
use Rattle.records.proofs.StepLaws.{steps_hold}
use Rattle.journal.specs.Journal.{header_of, number_of, record_at}
use Rattle.journal.specs.Whole.{marks}
use Rattle.growth.specs.Send.{message_length, payload}
use Rattle.growth.specs.Drive.{Store, send_on, deliver_on, receipt_on, pass_on}
use Rattle.growth.proofs.BufferLaws.{first_long, deliver_buffers}
use Rattle.growth.proofs.BlockLaws.{length_payload}
use Rattle.growth.proofs.RecordSteps.{accept_computed}
use Rattle.growth.proofs.OpenJournals.{OpenJournal, open_record}
use Rattle.growth.proofs.CallsInOrder.{send_writes}
use Rattle.growth.proofs.TransfersInOrder.{new_mark, deliver_leaves, deliver_writes, receipt_leaves}
use Rattle.growth.proofs.Stores.{SoundStore, StoreStep, step_twice}

-- a stripe with a transfer that is not receipted is not released
pub unreleased : (z : Shape) (journal : List ℕ) (w e : ℕ) → OpenJournal z journal → w < kept z → e < transfers z
    → is_receipted (record_at journal w) e ≡ false → is_released (record_at journal w) ≡ false
unreleased z journal w e o l m h = off (λ q. clash ((open_record z journal o w l).released_receipted q e m) h)

-- the bytes of a transfer's message, and of its receipt, in the journal's growth
pub record HoldsMessage (z : Shape) (w e : ℕ) (journal message : List ℕ) : Type 0 where
  pub long : length message ≡ message_length z
  pub form : is_message z (header_at message 0) ≡ true
  pub names : Names w e (number_of (header_of journal)) (header_at message 0)
  pub receipts : receipt_of (header_at message 0) ≡ header_for z 4 w e (number_of (header_of journal))

module _ (z : Shape) (ok : InRanges z) (w e : ℕ) (l : w < kept z) (m : e < transfers z) where
  of_growth : (journal : List ℕ) → Transfer z w e (number_of (header_of journal))
  of_growth journal = record { stripe = l; transfer = m; growth = item_lt }
    where
      item_lt : number_of (header_of journal) < 268435456
      item_lt = unfold number_of in rest_lt (header_of journal).growth

  -- ---- the three calls

  sent_message : (c : Store) → SoundStore z c → is_computed (record_at c.journal w) ≡ true
      → is_receipted (record_at c.journal w) e ≡ false
      → (send_on z w e c).message ≡ message z w e (number_of (header_of c.journal)) (payload z c.area w e)
  unfolding send_on
  sent_message c s co re = send_writes z ok c.journal s.opens c.area s.area_long w l e c.message m s.message_long co
      (unreleased z c.journal w e s.opens l m re)

  kept_message : (c : Store) → (deliver_on z w e c).message ≡ c.message
  unfolding deliver_on
  kept_message c = refl

  send_on_law : (c : Store) → SoundStore z c → is_computed (record_at c.journal w) ≡ true → is_receipted (record_at c.journal w) e ≡ false
      → HoldsMessage z w e c.journal (send_on z w e c).message
  send_on_law c s co re =
      let number = number_of (header_of c.journal) in
      let body = payload z c.area w e in
      let t = (wire_holds z ok).written w e number body (of_growth c.journal) in
      let q = sent_message c s co re in
      record {
        long = ap length q ∙ t.long ∙ ap (λ (b : ℕ). 16 + b) (length_payload z c.area w e);
        form = rw (q, t.header) t.form;
        names = rw (q, t.header) t.names;
        receipts = rw (q, t.header) t.receipt;
      }

  send_sound : (c : Store) → SoundStore z c → HoldsMessage z w e c.journal (send_on z w e c).message → SoundStore z (send_on z w e c)
  unfolding send_on
  send_sound c s h = record { area_long = s.area_long; opens = s.opens; message_long = h.long; receipt_long = s.receipt_long }

  deliver_receipt : (c : Store) → SoundStore z c → HoldsMessage z w e c.journal c.message
      → (deliver_on z w e c).receipt ≡ header_bytes (header_for z 4 w e (number_of (header_of c.journal)))
  unfolding deliver_on
  deliver_receipt c s h =
      deliver_writes z ok c.journal s.opens c.area s.area_long c.message c.receipt s.message_long s.receipt_long
      h.form h.names.growth w e h.names.stripe h.names.transfer
      ∙ ap header_bytes h.receipts

  deliver_on_law : (c : Store) → SoundStore z c → HoldsMessage z w e c.journal c.message → is_computed (record_at c.journal w) ≡ true
      → StoreStep z c.journal w (Records.accept (record_at c.journal w) e)
      (marks z c.journal + new_mark (record_at c.journal w) e) (deliver_on z w e c)
  unfolding deliver_on
  deliver_on_law c s h co =
      let j = deliver_leaves z ok c.journal s.opens c.area s.area_long c.message c.receipt s.message_long
      s.receipt_long h.form h.names.growth w e h.names.stripe h.names.transfer co in
      record {
        sound = record {
          area_long = first_long (deliver_buffers z c.area c.journal (receiver z w e) c.message c.receipt) ∙ s.area_long;
          opens = j.opens;
          message_long = s.message_long;
          receipt_long = ap length (deliver_receipt c s h) ∙ length_header _;
        };
        journals = j;
      }

  receipt_on_law : (c : Store) → SoundStore z c → c.receipt ≡ header_bytes (header_for z 4 w e (number_of (header_of c.journal)))
      → is_computed (record_at c.journal w) ≡ true → is_accepted (record_at c.journal w) e ≡ true
      → StoreStep z c.journal w (Records.receipt (record_at c.journal w) e) (marks z c.journal) (receipt_on z w c)
  unfolding receipt_on
  receipt_on_law c s q co a =
      let number = number_of (header_of c.journal) in
      let t = (wire_holds z ok).written w e number [] (of_growth c.journal) in
      let here : header_at c.receipt 0 ≡ header_for z 4 w e number =
      rw q (header_alone (header_for z 4 w e number) (header_words z ok 4 w e number (omega arith) (of_growth c.journal))) in
      let names : Names w e number (header_at c.receipt 0) = rw here t.receipt_names in
      let j = receipt_leaves z ok c.journal s.opens c.receipt s.receipt_long (rw here t.receipt_form) names.growth
      w e names.stripe names.transfer co a in
      record {
        sound = record { area_long = s.area_long; opens = j.opens; message_long = s.message_long; receipt_long = s.receipt_long };
        journals = j;
      }

  -- ---- all three

  -- of a stripe that is computed, a transfer that is not receipted
  pub pass_step : (c : Store) → SoundStore z c → is_computed (record_at c.journal w) ≡ true
      → is_receipted (record_at c.journal w) e ≡ false
      → StoreStep z c.journal w (Records.receipt (Records.accept (record_at c.journal w) e) e)
      (marks z c.journal + new_mark (record_at c.journal w) e) (pass_on z w e c)
  unfolding pass_on send_on
  pass_step c s co re =
      let r = record_at c.journal w in
      let held = send_on_law c s co re in
      let sent = send_on z w e c in
      let sound = send_sound c s held in
      let d = deliver_on_law sent sound held co in
      let own = d.journals.own in
      let wrote = deliver_receipt sent sound held ∙ ap (λ (n : ℕ). header_bytes (header_for z 4 w e n)) (sym d.journals.number) in
      let accepted = (steps_hold z ok r).accepts e in
      let f = receipt_on_law (deliver_on z w e sent) d.sound wrote (rw own (accept_computed r e ∙ co)) (rw own accepted) in
      step_twice z c.journal w _ _ _ _ (deliver_on z w e sent) _ d (rw (own, d.journals.marked) at f)

  -- what it leaves in the spaces: the transfer's message, and its receipt
  pub pass_writes : (c : Store) → SoundStore z c → is_computed (record_at c.journal w) ≡ true
      → is_receipted (record_at c.journal w) e ≡ false
      → ((pass_on z w e c).message ≡ message z w e (number_of (header_of c.journal)) (payload z c.area w e))
      × ((pass_on z w e c).receipt ≡ header_bytes (header_for z 4 w e (number_of (header_of c.journal))))
  unfolding pass_on receipt_on send_on
  pass_writes c s co re =
      let held = send_on_law c s co re in
      (kept_message (send_on z w e c) ∙ sent_message c s co re, deliver_receipt (send_on z w e c) (send_sound c s held) held)
