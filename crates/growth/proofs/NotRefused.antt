-- Where the journal is open and the lengths are exact, nothing refuses compute, send, deliver, receipt and release but what their own
-- stripe, transfer, message or receipt brings about. Assumes nothing.
use mathlib.Core.Path.{◌≡◌, refl, ◌∙◌}
use mathlib.Core.Bool.{Bool, true, false, not, and-false}
use mathlib.Core.List.{List}
use Prim.Native.Nat.{ℕ, ◌+◌, ◌<◌}
use native.Mathlib.Omega.{arith}
use lib.Dec.{eqb, ltb}
use lib.ListN.{length}
use borrow.Author.Tests.{eq-eqb, lt-ltb, not-true}
use Rattle.base.specs.Refusals.{Refusal, first, or_else}
use Rattle.base.proofs.Refusals.{NoneApplies, first_none, or_else_pass}
use Rattle.base.proofs.Tests.{and_both, only_if_law, every_intro}
use Rattle.layout.specs.declared.Shape.{Shape}
use Rattle.layout.specs.Ranges.{shape_refusal, InRanges}
use Rattle.layout.specs.Counts.{kept, transfers, all_transfers}
use Rattle.layout.specs.Addresses.{area_length}
use Rattle.layout.specs.Transfers.{sender, receiver}
use Rattle.layout.proofs.RangeLaws.{accepted}
use Rattle.wire.specs.declared.Header.{Header}
use Rattle.wire.specs.Words.{bit}
use Rattle.wire.specs.Headers as Wire
use Rattle.wire.specs.Forms.{is_message, is_receipt, for_another_node, for_another_sender, of_another_growth}
use Rattle.wire.proofs.FormLaws.{message_is, receipt_is, sender_lt, receiver_lt}
use Rattle.records.specs.Records.{is_accepted, is_receipted, is_computed, is_released}
use Rattle.records.specs.Conditions.{progress_ok}
use Rattle.journal.specs.Journal.{header_of, number_of, count_of, journal_length, record_at}
use Rattle.growth.specs.Shared.{wrong_length, damaged_header, damaged_word, not_open, out_of_range}
use Rattle.growth.specs.Compute.{compute_refusals, compute_refusal}
use Rattle.growth.specs.Send.{message_length, send_refusals, send_refusal}
use Rattle.growth.specs.Deliver.{receipt_length, room_for, deliver_refusals, deliver_refusal}
use Rattle.growth.specs.Receipt.{receipt_refusals, receipt_refusal}
use Rattle.growth.specs.Release.{release_refusals, release_refusal}
use Rattle.growth.proofs.OpenJournals.{OpenJournal, open_header, open_record, open_counted}
use Rattle.growth.proofs.DeliveredJournals.{count_room}

-- ---- the refusals that the calls share

unrefused : (b : Bool) → b ≡ true → not b ≡ false
unrefused b e = rw e

pub right_length : (lent exact : ℕ) → lent ≡ exact → (wrong_length lent exact).applies ≡ false
right_length lent exact e = unrefused (eqb lent exact) (eq-eqb lent exact e)

pub within_range : (x bound : ℕ) → x < bound → (out_of_range x bound).applies ≡ false
within_range x bound l = unrefused (ltb x bound) (lt-ltb x bound l)

pub sound_word : (isThere isOk : Bool) → isOk ≡ true → (damaged_word isThere isOk).applies ≡ false
sound_word isThere isOk e = rw e (and-false isThere)

module _ (z : Shape) (ok : InRanges z) where
  none_refuses : (rs : List Refusal) → NoneApplies rs → or_else (shape_refusal z) (first rs) ≡ 0
  none_refuses rs p = or_else_pass (shape_refusal z) (first rs) (accepted z ok) ∙ first_none rs p

  module _ (journal : List ℕ) (o : OpenJournal z journal) where
    right_journal : (wrong_length (length journal) (journal_length z)).applies ≡ false
    right_journal = right_length _ _ o.long

    pub sound_header : (damaged_header z (header_of journal)).applies ≡ false
    sound_header = unrefused _ (open_header z journal o)

    pub not_over : (not_open (header_of journal)).applies ≡ false
    not_over = unrefused _ o.opened

    -- kind 11 of a stripe, where there is one
    sound_sent : (w : ℕ) (isThere : Bool) → w < kept z
        → (damaged_word isThere (progress_ok z (record_at journal w).progress)).applies ≡ false
    sound_sent w isThere l = sound_word isThere _ (open_record z journal o w l).progress_word_law

    -- ---- compute, send and release, at a stripe

    module _ (area : List ℕ) (long : length area ≡ area_length z) where
      right_area : (wrong_length (length area) (area_length z)).applies ≡ false
      right_area = right_length _ _ long

      module _ (w : ℕ) (l : w < kept z) where
        right_stripe : (out_of_range w (kept z)).applies ≡ false
        right_stripe = within_range w (kept z) l

        pub compute_unrefused : compute_refusal z (length area) (length journal) (header_of journal) (record_at journal w).progress w ≡ 0
        unfolding compute_refusal
        compute_unrefused =
            let word = sound_sent w (ltb w (kept z)) l in
            none_refuses (compute_refusals z (length area) (length journal) (header_of journal) (record_at journal w).progress w)
            (right_area, (right_journal, (sound_header, (word, (not_over, (right_stripe, tt))))))

        pub send_unrefused : (e : ℕ) (space : List ℕ) → e < transfers z → length space ≡ message_length z
            → is_computed (record_at journal w) ≡ true → is_released (record_at journal w) ≡ false
            → send_refusal z (length area) (length journal) (length space) (header_of journal) (record_at journal w).progress w e ≡ 0
        unfolding send_refusal is_computed is_released
        send_unrefused e space m ls c r =
            let room = right_length (length space) (message_length z) ls in
            let word = sound_sent w (ltb w (kept z)) l in
            let right-transfer = within_range e (transfers z) m in
            let computed = unrefused _ c in
            none_refuses
            (send_refusals z (length area) (length journal) (length space) (header_of journal) (record_at journal w).progress w e)
            (right_area, (right_journal, (room, (sound_header, (word, (not_over, (right_stripe, (right-transfer, (computed, (r, tt))))))))))

        pub release_unrefused : is_computed (record_at journal w) ≡ true
            → ((e : ℕ) → e < transfers z → is_receipted (record_at journal w) e ≡ true)
            → release_refusal z (length area) (length journal) (header_of journal) (record_at journal w).progress w ≡ 0
        unfolding release_refusal is_computed is_receipted
        release_unrefused c h =
            let word = sound_sent w (ltb w (kept z)) l in
            let computed = unrefused _ c in
            let receipted = unrefused _ (every_intro (transfers z) (bit (record_at journal w).progress) h) in
            none_refuses (release_refusals z (length area) (length journal) (header_of journal) (record_at journal w).progress w)
            (right_area, (right_journal, (sound_header, (word, (not_over, (right_stripe, (computed, (receipted, tt))))))))

      -- ---- deliver, of a message of this growth at its receiver

      -- the mark of the transfer is set, or there is room for one more
      room_for_law : (w e : ℕ) → w < kept z → e < transfers z → room_for z (header_of journal) (record_at journal w).accepted e ≡ true
      unfolding room_for is_accepted
      room_for_law w e l m = and_both _ _ (open_record z journal o w l).accepted_word_law
          (only_if_law (not (bit (record_at journal w).accepted e)) (ltb (count_of (header_of journal)) (all_transfers z))
          (λ q. lt-ltb _ _ (count_room z journal w e (open_counted z journal o) l m (not-true _ q))))

      pub deliver_unrefused : (m : Header) (message space : List ℕ) → length message ≡ message_length z → length space ≡ receipt_length
          → is_message z m ≡ true → Wire.number_of m ≡ number_of (header_of journal)
          → deliver_refusal z (length area) (length journal) (length message) (length space) (header_of journal)
          (record_at journal (Wire.stripe_of m)).accepted (receiver z (Wire.stripe_of m) (Wire.transfer_of m)) m ≡ 0
      unfolding deliver_refusal for_another_node of_another_growth
      deliver_unrefused m message space lm ls f g =
          let t = (message_is z m f).transfer in
          let w = Wire.stripe_of m in
          let e = Wire.transfer_of m in
          let whole = right_length (length message) (message_length z) lm in
          let room = right_length (length space) receipt_length ls in
          let word = sound_word (is_message z m) _ (room_for_law w e t.stripe t.transfer) in
          let right-node = within_range _ _ (receiver_lt z ok w e t.transfer) in
          let formed = unrefused _ f in
          let here = unrefused _ (eq-eqb (receiver z w e) (receiver z w e) refl) in
          let growth = unrefused _ (eq-eqb _ _ g) in
          none_refuses
          (deliver_refusals z (length area) (length journal) (length message) (length space) (header_of journal)
          (record_at journal w).accepted (receiver z w e) m)
          (right_area, (right_journal, (whole, (room, (sound_header, (word, (not_over, (right-node, (formed, (here, (growth, tt)))))))))))

    -- ---- receipt, of a receipt of this growth at its sender, for a computed stripe

    pub receipt_unrefused : (m : Header) (bytes : List ℕ) → length bytes ≡ receipt_length
        → is_receipt z m ≡ true → Wire.number_of m ≡ number_of (header_of journal)
        → is_computed (record_at journal (Wire.stripe_of m)) ≡ true
        → receipt_refusal z (length journal) (length bytes) (header_of journal) (record_at journal (Wire.stripe_of m)).progress
        (sender z (Wire.stripe_of m)) m ≡ 0
    unfolding receipt_refusal for_another_sender of_another_growth is_computed
    receipt_unrefused m bytes lb f g c =
        let w = Wire.stripe_of m in
        let right-bytes = right_length (length bytes) receipt_length lb in
        let word = sound_sent w (is_receipt z m) (receipt_is z m f).transfer.stripe in
        let sender-within : sender z w < z.n + z.s = omega (arith, sender_lt z ok w) in
        let right-node = within_range _ _ sender-within in
        let formed = unrefused _ f in
        let here = unrefused _ (eq-eqb (sender z w) (sender z w) refl) in
        let growth = unrefused _ (eq-eqb _ _ g) in
        let computed = unrefused _ c in
        none_refuses (receipt_refusals z (length journal) (length bytes) (header_of journal) (record_at journal w).progress (sender z w) m)
        (right_journal, (right-bytes, (sound_header, (word, (not_over, (right-node, (formed, (here, (growth, (computed, tt))))))))))
