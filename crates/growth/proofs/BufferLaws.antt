-- Lengths never change, a refused call changes nothing, and one that answers already nothing but a receipt. Assumes nothing.
use mathlib.Core.Path.{◌≡◌, refl, sym, ap, ◌∙◌}
use mathlib.Core.Bool.{Bool, true, false}
use mathlib.Core.List.{List, [], ◌∷◌}
use Prim.Native.Nat.{ℕ}
use lib.ListN.{length, get_or}
use Rattle.base.specs.Tests.{if}
use Rattle.base.proofs.Choice.{if_cases}
use Rattle.answer.specs.Answers.{Answer, refused, already, done, spent, finished, answer_for, is_refused, is_done, on_done, unless_refused}
use Rattle.answer.proofs.Answers.{answered_done, or_unrefused, done_not_already, done_not_refused, refused_leaves}
use Rattle.layout.specs.declared.Shape.{Shape}
use Rattle.wire.specs.Headers.{header_at, header_bytes, stripe_of, transfer_of, receipt_of}
use Rattle.wire.specs.Words.{bit}
use Rattle.wire.proofs.ByteLaws.{length_header}
use Rattle.journal.specs.Journal.{header_of, number_of, record_at}
use Rattle.journal.proofs.HeaderLaws.{header_length}
use Rattle.journal.proofs.FreshPairs.{fresh_length}
use Rattle.growth.specs.Encode.{encode_refusal, encoded_area, encode}
use Rattle.growth.specs.Begin.{begin_refusal, begin}
use Rattle.growth.specs.Compute.{compute}
use Rattle.growth.specs.Send.{send}
use Rattle.growth.specs.Deliver.{deliver}
use Rattle.growth.specs.Receipt.{receipt}
use Rattle.growth.specs.Release.{release}
use Rattle.growth.specs.Close.{close}
use Rattle.growth.specs.Claims.{lengths, Leaves, LeavesReceipt}
use Rattle.growth.proofs.Allowed.{send_allowed, begin_allowed, deliver_allowed}
use Rattle.growth.proofs.EncodeLaws.{length_encoded}
use Rattle.growth.proofs.BeginCells.{length_begun}
use Rattle.growth.proofs.CloseCells.{length_cleared}
use Rattle.growth.proofs.LengthLaws.{length_computed, length_delivered, length_released, length_message, length_computed_journal}
use Rattle.growth.proofs.LengthLaws.{length_released_journal, length_receipted_journal}
use Rattle.growth.proofs.DeliveredWords.{delivered_length}

-- ---- buffers that only a done call changes

leaves : (a : Answer) (new old : List (List ℕ)) → (a ≡ done → lengths new ≡ lengths old) → Leaves a old (on_done a new old)
leaves (refused x) new old l = record { long = refl; refusal = λ y e. refl; repeat = λ e. refl }
leaves already new old l = record { long = refl; refusal = λ y e. refl; repeat = λ e. refl }
leaves done new old l = record { long = l refl; refusal = λ y e. absurd (done_not_refused e); repeat = λ e. absurd (done_not_already e) }
leaves (spent x) new old l = record { long = refl; refusal = λ y e. refl; repeat = λ e. refl }
leaves (finished x) new old l = record { long = refl; refusal = λ y e. refl; repeat = λ e. refl }

-- one buffer, two buffers
if_one : (t : Bool) (x y : List ℕ) → if t (x ∷ []) (y ∷ []) ≡ if t x y ∷ []
if_one true x y = refl
if_one false x y = refl

if_two : (t : Bool) (x y u v : List ℕ) → if t (x ∷ u ∷ []) (y ∷ v ∷ []) ≡ if t x y ∷ if t u v ∷ []
if_two true x y u v = refl
if_two false x y u v = refl

leaves_one : (a : Answer) (x y : List ℕ) → (a ≡ done → length x ≡ length y) → Leaves a (y ∷ []) (on_done a x y ∷ [])
leaves_one a x y l = rw (sym (if_one (is_done a) x y)) (leaves a (x ∷ []) (y ∷ []) (λ e. rw (l e)))

leaves_two : (a : Answer) (x y u v : List ℕ) → (a ≡ done → length x ≡ length y) → (a ≡ done → length u ≡ length v)
    → Leaves a (y ∷ v ∷ []) (on_done a x y ∷ on_done a u v ∷ [])
leaves_two a x y u v l k = rw (sym (if_two (is_done a) x y u v)) (leaves a (x ∷ u ∷ []) (y ∷ v ∷ []) (λ e. rw (l e, k e)))

-- a receipt, which a repeat writes too
leaves_receipt : (a : Answer) (x y : List ℕ) → (is_refused a ≡ false → length x ≡ length y) → LeavesReceipt a y (unless_refused a x y)
leaves_receipt a x y l = record {
  long = if_cases (λ (b : List ℕ). length b ≡ length y) (is_refused a) y x (λ p. refl) l;
  refusal = λ n e. refused_leaves a n x y e;
}

-- the first of some buffers
pub first_long : {a : Answer} {x y : List ℕ} {more others : List (List ℕ)} → Leaves a (y ∷ others) (x ∷ more) → length x ≡ length y
first_long l = ap (λ (s : List ℕ). get_or s 0 0) l.long

-- ---- the calls, but for drive

module _ (z : Shape) where
  pub encode_buffers : (area : List ℕ) → let o = encode z area in Leaves o.answer (area ∷ []) (o.area ∷ [])
  unfolding encode
  encode_buffers area = leaves_one (answer_for (encode_refusal z (length area)) false) (encoded_area z area) area
      (λ e. length_encoded z area)

  pub begin_buffers : (area journal : List ℕ) (number : ℕ) → let o = begin z area journal number in
      Leaves o.answer (area ∷ journal ∷ []) (o.area ∷ o.journal ∷ [])
  unfolding begin
  begin_buffers area journal number = leaves_two (answer_for (begin_refusal z area (length journal) number) false) _ area _ journal
      (λ e. length_begun z area)
      (λ e. let m = begin_allowed z area (length journal) number (answered_done _ false e).0 in fresh_length z number
      ∙ sym m.journal_long)

  pub compute_buffers : (area journal : List ℕ) (w : ℕ) → let o = compute z area journal w in
      Leaves o.answer (area ∷ journal ∷ []) (o.area ∷ o.journal ∷ [])
  unfolding compute
  compute_buffers area journal w = leaves_two (compute z area journal w).answer _ area _ journal
      (λ e. length_computed z area w) (λ e. length_computed_journal journal w)

  pub send_buffers : (area journal : List ℕ) (w e : ℕ) (space : List ℕ) → let o = send z area journal w e space in
      Leaves o.answer (space ∷ []) (o.space ∷ [])
  unfolding send
  send_buffers area journal w e space = leaves_one (send z area journal w e space).answer _ space
      (λ q. let m = send_allowed z _ _ (length space) _ _ w e (answered_done _ false q).0 in
      length_message z area w e (number_of (header_of journal)) ∙ sym m.space_long)

  pub receipt_buffers : (journal : List ℕ) (node : ℕ) (bytes : List ℕ) → let o = receipt z journal node bytes in
      Leaves o.answer (journal ∷ []) (o.journal ∷ [])
  unfolding receipt
  receipt_buffers journal node bytes =
      leaves_one (receipt z journal node bytes).answer _ journal (λ e. length_receipted_journal journal _ _)

  pub release_buffers : (area journal : List ℕ) (w : ℕ) → let o = release z area journal w in
      Leaves o.answer (area ∷ journal ∷ []) (o.area ∷ o.journal ∷ [])
  unfolding release
  release_buffers area journal w = leaves_two (release z area journal w).answer _ area _ journal
      (λ e. length_released z area w) (λ e. length_released_journal journal w)

  pub close_buffers : (area journal : List ℕ) → let o = close z area journal in
      Leaves o.answer (area ∷ journal ∷ []) (o.area ∷ o.journal ∷ [])
  unfolding close
  close_buffers area journal = leaves_two (close z area journal).answer _ area _ journal
      (λ e. length_cleared z area) (λ e. header_length journal _)

  -- deliver
  module _ (area journal : List ℕ) (node : ℕ) (message space : List ℕ) where
    pub deliver_buffers : let o = deliver z area journal node message space in
        Leaves o.answer (area ∷ journal ∷ []) (o.area ∷ o.journal ∷ [])
    unfolding deliver
    deliver_buffers = leaves_two (deliver z area journal node message space).answer _ area _ journal
        (λ e. length_delivered z area node _ _ message) (λ e. delivered_length journal _ _)

    pub receipt_space_law : let o = deliver z area journal node message space in LeavesReceipt o.answer space o.receipt
    unfolding deliver
    receipt_space_law = leaves_receipt (deliver z area journal node message space).answer (header_bytes (receipt_of (header_at message 0)))
        space
        (λ e. let marked = bit (record_at journal (stripe_of (header_at message 0))).accepted (transfer_of (header_at message 0)) in
        let m = deliver_allowed z _ _ _ (length space) _ _ node (header_at message 0) (or_unrefused _ (if marked already done) e) in
        length_header (receipt_of (header_at message 0)) ∙ sym m.space_long)
