-- Deliver and receipt, handed a genuine message or receipt of this growth, with the growth's own shape and exact lengths, answer what the
-- growth without bytes answers. Assumes nothing.
use mathlib.Core.Path.{◌≡◌, sym, ◌∙◌}
use mathlib.Core.Bool.{Bool, true, false, not, ◌&&◌}
use mathlib.Core.List.{List, [], ◌∷◌}
use Prim.Native.Nat.{ℕ, ◌+◌, ◌<◌}
use lib.Dec.{ltb}
use lib.ListN.{length}
use borrow.Author.Tests.{lt-ltb, eq-eqb}
use Rattle.base.specs.Tests.{same, below}
use Rattle.base.specs.Refusals.{Refusal, refuse, first}
use Rattle.answer.proofs.Answers.{answered_same}
use Rattle.layout.specs.declared.Shape.{Shape}
use Rattle.layout.specs.Ranges.{InRanges}
use Rattle.layout.specs.Counts.{kept, transfers}
use Rattle.layout.specs.Addresses.{area_length}
use Rattle.layout.specs.Transfers.{sender, receiver}
use Rattle.wire.specs.declared.Header.{Header}
use Rattle.wire.specs.Words.{bit}
use Rattle.wire.specs.Headers.{header_at, stripe_of, transfer_of}
use Rattle.wire.specs.Headers as Wire
use Rattle.wire.specs.Forms.{is_message, is_receipt, for_another_node, for_another_sender, of_another_growth}
use Rattle.wire.proofs.FormLaws.{message_is, receipt_is}
use Rattle.records.specs.Records.{is_accepted, is_receipted, is_computed, computed_in}
use Rattle.records.specs.Conditions.{progress_ok}
use Rattle.journal.specs.Journal.{header_of, number_of, journal_length, record_at}
use Rattle.protocol.specs.Steps as Protocol
use Rattle.growth.specs.Shared.{wrong_length, damaged_header, damaged_word, out_of_range}
use Rattle.growth.specs.Send.{message_length}
use Rattle.growth.specs.Deliver.{receipt_length, room_for, deliver_refusal}
use Rattle.growth.specs.Deliver as Deliver
use Rattle.growth.specs.Receipt.{receipt_refusal}
use Rattle.growth.specs.Receipt as Receipt
use Rattle.growth.proofs.NotRefused.{right_length, sound_word}
use Rattle.history.specs.Contents.{Contents}
use Rattle.history.specs.Steps.{deliver, receipt, transfer_in, step_answer}
use Rattle.history.proofs.Growths.{growth_of, view_of, message_seen, Fit, MessageOf, ReceiptOf}
use Rattle.history.proofs.WireSeen.{says_message, says_receipt}
use Rattle.history.proofs.FitSeen.{number_few, sent_sound, room_for_law}
use Rattle.history.proofs.TestsPassed.{right_area, right_journal, right_header, past_open}

-- a mark of a transfer, beside range tests that pass
within_both : (w p e n : ℕ) (mark : Bool) → w < p → e < n → mark ≡ ltb w p && (ltb e n && mark)
within_both w p e n mark l m = rw (lt-ltb w p l, lt-ltb e n m)

module _ (z : Shape) (ok : InRanges z) (start : List ℕ) (number : ℕ) (c : Contents) (f : Fit z number c) where
  -- the journal's number is the one that the header has
  same_growth : (m : Header) → Wire.number_of m ≡ number → of_another_growth (number_of (header_of c.journal)) m ≡ false
  unfolding of_another_growth
  same_growth m e = rw (eq-eqb (Wire.number_of m) (number_of (header_of c.journal)) (e ∙ sym f.number_is))

  -- ---- deliver, of a well-formed message of this growth's number

  module _ (node : ℕ) (m : Header) where
    abbrev word : ℕ
    word = (record_at c.journal (stripe_of m)).accepted

    abbrev deliver_tests : List Refusal
    deliver_tests =
        out_of_range node (z.n + z.s) ∷ refuse (not (is_message z m)) 9 ∷ refuse (for_another_node z node m) 9
        ∷ refuse (of_another_growth (number_of (header_of c.journal)) m) 10 ∷ []

    abbrev deliver_seen : List Refusal
    deliver_seen =
        refuse (not (below node (z.n + z.s))) 5 ∷ refuse (not (same node (receiver z (stripe_of m) (transfer_of m)))) 9 ∷ []

    deliver_tests_law : is_message z m ≡ true → Wire.number_of m ≡ number → first deliver_tests ≡ first deliver_seen
    unfolding below same for_another_node
    deliver_tests_law form growth = rw (form, same_growth m growth)

    right_room : is_message z m ≡ true
        → (damaged_word (is_message z m) (room_for z (header_of c.journal) word (transfer_of m))).applies ≡ false
    right_room form =
        let t = (message_is z m form).transfer in
        sound_word (is_message z m) _ (room_for_law z number c f (stripe_of m) (transfer_of m) t.stripe t.transfer)

    deliver_number : (bytes space : List ℕ) → length bytes ≡ message_length z → length space ≡ receipt_length
        → is_message z m ≡ true → Wire.number_of m ≡ number
        → deliver_refusal z (length c.area) (length c.journal) (length bytes) (length space) (header_of c.journal) word node m
        ≡ first (Protocol.not_open (view_of z start c).journal ∷ deliver_seen)
    unfolding deliver_refusal
    deliver_number bytes space long room form growth =
        let h = header_of c.journal in
        let area = right_area z number c f in
        let journal = right_journal z number c f in
        let header = right_header z number c f in
        let message = right_length (length bytes) (message_length z) long in
        let spare = right_length (length space) receipt_length room in
        past_open z number c f ok start
        (wrong_length (length c.area) (area_length z) ∷ wrong_length (length c.journal) (journal_length z)
        ∷ wrong_length (length bytes) (message_length z) ∷ wrong_length (length space) receipt_length ∷ damaged_header z h
        ∷ damaged_word (is_message z m) (room_for z h word (transfer_of m)) ∷ [])
        deliver_tests deliver_seen (area, (journal, (message, (spare, (header, (right_room form, tt)))))) (deliver_tests_law form growth)

  deliver_answer : (node : ℕ) (bytes space : List ℕ) → length bytes ≡ message_length z → length space ≡ receipt_length
      → is_message z (header_at bytes 0) ≡ true → Wire.number_of (header_at bytes 0) ≡ number
      → step_answer c (deliver z node bytes space)
      ≡ Protocol.step_answer (growth_of z start) (view_of z start c) (Protocol.deliver node (message_seen z bytes))
  unfolding step_answer Protocol.step_answer Deliver.deliver transfer_in is_accepted
  deliver_answer node bytes space long room form growth =
      let m = header_at bytes 0 in
      let t = (message_is z m form).transfer in
      answered_same _ _ _ _ (deliver_number node m bytes space long room form growth)
      (λ e. within_both (stripe_of m) (kept z) (transfer_of m) (transfers z) (bit (word node m) (transfer_of m)) t.stripe t.transfer)

  -- ---- receipt, of a well-formed receipt of this growth's number

  module _ (node : ℕ) (m : Header) where
    abbrev sent : ℕ
    sent = (record_at c.journal (stripe_of m)).progress

    abbrev receipt_tests : List Refusal
    receipt_tests =
        out_of_range node (z.n + z.s) ∷ refuse (not (is_receipt z m)) 9 ∷ refuse (for_another_sender z node m) 9
        ∷ refuse (of_another_growth (number_of (header_of c.journal)) m) 10 ∷ refuse (not (computed_in sent)) 6 ∷ []

    abbrev receipt_seen : List Refusal
    receipt_seen =
        refuse (not (below node (z.n + z.s))) 5 ∷ refuse (not (same node (sender z (stripe_of m)))) 9
        ∷ refuse (not ((view_of z start c).journal.computed (stripe_of m))) 6 ∷ []

    receipt_tests_law : is_receipt z m ≡ true → Wire.number_of m ≡ number → first receipt_tests ≡ first receipt_seen
    unfolding below same for_another_sender is_computed
    receipt_tests_law form growth = rw (form, same_growth m growth, lt-ltb (stripe_of m) (kept z) (receipt_is z m form).transfer.stripe)

    right_word : is_receipt z m ≡ true → (damaged_word (is_receipt z m) (progress_ok z sent)).applies ≡ false
    right_word form = sound_word (is_receipt z m) _ (sent_sound z number c f (stripe_of m) (receipt_is z m form).transfer.stripe)

    receipt_number : (bytes : List ℕ) → length bytes ≡ receipt_length → is_receipt z m ≡ true → Wire.number_of m ≡ number
        → receipt_refusal z (length c.journal) (length bytes) (header_of c.journal) sent node m
        ≡ first (Protocol.not_open (view_of z start c).journal ∷ receipt_seen)
    unfolding receipt_refusal
    receipt_number bytes long form growth =
        let journal = right_journal z number c f in
        let header = right_header z number c f in
        let receipt = right_length (length bytes) receipt_length long in
        past_open z number c f ok start
        (wrong_length (length c.journal) (journal_length z) ∷ wrong_length (length bytes) receipt_length
        ∷ damaged_header z (header_of c.journal) ∷ damaged_word (is_receipt z m) (progress_ok z sent) ∷ [])
        receipt_tests receipt_seen (journal, (receipt, (header, (right_word form, tt)))) (receipt_tests_law form growth)

  receipt_answer : (node : ℕ) (bytes : List ℕ) → length bytes ≡ receipt_length
      → is_receipt z (header_at bytes 0) ≡ true → Wire.number_of (header_at bytes 0) ≡ number
      → step_answer c (receipt z node bytes)
      ≡ Protocol.step_answer (growth_of z start) (view_of z start c) (Protocol.receipt node (transfer_in bytes))
  unfolding step_answer Protocol.step_answer Receipt.receipt transfer_in is_receipted
  receipt_answer node bytes long form growth =
      let m = header_at bytes 0 in
      let t = (receipt_is z m form).transfer in
      answered_same _ _ _ _ (receipt_number node m bytes long form growth)
      (λ e. within_both (stripe_of m) (kept z) (transfer_of m) (transfers z) (bit (sent node m) (transfer_of m)) t.stripe t.transfer)

  -- ---- both, of what was written for this growth

  pub deliver_told : (node : ℕ) (bytes space : List ℕ) → MessageOf z number bytes → length space ≡ receipt_length
      → step_answer c (deliver z node bytes space)
      ≡ Protocol.step_answer (growth_of z start) (view_of z start c) (Protocol.deliver node (message_seen z bytes))
  deliver_told node bytes space g room =
      let s = says_message z ok number (number_few z number c f) bytes g in
      deliver_answer node bytes space s.long room s.form s.names.growth

  pub receipt_told : (node : ℕ) (bytes : List ℕ) → ReceiptOf z number bytes
      → step_answer c (receipt z node bytes)
      ≡ Protocol.step_answer (growth_of z start) (view_of z start c) (Protocol.receipt node (transfer_in bytes))
  receipt_told node bytes g =
      let s = says_receipt z ok number (number_few z number c f) bytes g in
      receipt_answer node bytes s.long s.form s.names.growth
