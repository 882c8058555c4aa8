-- What a call of the store is in the growth without bytes: one of the growth's own, if its shape and its lengths are the growth's; any
-- other is refused. Assumes nothing.
use mathlib.Core.Path.{◌≡◌, refl}
use mathlib.Core.Bool.{Bool, true, false, ◌&&◌}
use mathlib.Core.List.{List}
use Prim.Native.Nat.{ℕ, ◌+◌}
use lib.Dec.{eqb}
use lib.ListN.{length}
use borrow.Author.Tests.{eqb-true}
use Rattle.base.specs.Tests.{if}
use Rattle.base.proofs.Tests.{clash, and_left, and_right, eqb_same}
use Rattle.answer.specs.Answers.{Answer, refused, already, done, spent, finished, is_refused}
use Rattle.answer.proofs.Answers.{or_refused}
use Rattle.layout.specs.declared.Shape.{Shape}
use Rattle.layout.specs.Ranges.{InRanges}
use Rattle.wire.specs.Headers.{header_at, stripe_of}
use Rattle.wire.specs.Forms.{is_message, is_receipt}
use Rattle.journal.specs.Journal.{header_of, record_at}
use Rattle.protocol.specs.Steps as P
use Rattle.protocol.specs.Calls as Calls
use Rattle.growth.specs.Claims.{RefusesAll}
use Rattle.growth.specs.Send as Send
use Rattle.growth.specs.Send.{message_length}
use Rattle.growth.specs.Deliver as Deliver
use Rattle.growth.specs.Deliver.{receipt_length}
use Rattle.growth.specs.Receipt as Receipt
use Rattle.growth.specs.Drive as Drive
use Rattle.growth.proofs.Allowed.{send_allowed, deliver_allowed, receipt_allowed, drive_allowed}
use Rattle.growth.proofs.OtherShapes.{other_shape_law}
use Rattle.growth.proofs.WholeParts.{whole_parts}
use Rattle.history.specs.Contents.{Contents}
use Rattle.history.specs.Steps.{compute, send, deliver, receipt, release, close, transfer_in, step_answer}
use Rattle.history.specs.Calls.{Call, step, drive, shape_of, answer}
use Rattle.history.proofs.Growths.{message_seen, Fit}

module _ (z : Shape) where
  abbrev pub same_shape : Shape → Bool
  same_shape y = eqb y.n z.n && (eqb y.k z.k && (eqb y.s z.s && eqb y.b z.b))

  -- what the call is handed and lent, beside the area and the journal, has the exact length, and the words of a message or of a receipt
  abbrev pub exact : Call → Bool
  exact (step (compute y w)) = true
  exact (step (send y w e space)) = eqb (length space) (message_length z)
  exact (step (deliver y node bytes space)) =
      eqb (length bytes) (message_length z) && (is_message z (header_at bytes 0) && eqb (length space) receipt_length)
  exact (step (receipt y node bytes)) = eqb (length bytes) receipt_length && is_receipt z (header_at bytes 0)
  exact (step (release y w)) = true
  exact (step (close y)) = true
  exact (drive y space limit) = eqb (length space) (message_length z + receipt_length)

  abbrev pub is_own : Call → Bool
  is_own k = same_shape (shape_of k) && exact k

  -- the growth's own call that it is
  abbrev pub as_own : Call → Calls.Call (List ℕ)
  as_own (step (compute y w)) = Calls.step (P.compute w)
  as_own (step (send y w e space)) = Calls.step (P.send w e)
  as_own (step (deliver y node bytes space)) = Calls.step (P.deliver node (message_seen z bytes))
  as_own (step (receipt y node bytes)) = Calls.step (P.receipt node (transfer_in bytes))
  as_own (step (release y w)) = Calls.step (P.release w)
  as_own (step (close y)) = Calls.step P.close
  as_own (drive y space limit) = Calls.drive limit

  -- the number that a refusal carries
  abbrev pub number_in : Answer → ℕ
  number_in (refused x) = x
  number_in already = 0
  number_in done = 0
  number_in (spent x) = 0
  number_in (finished x) = 0

  abbrev pub meaning : Contents → Call → Calls.Call (List ℕ)
  meaning c k = if (is_own k) (as_own k) (Calls.foreign (number_in (answer c k)))

  -- ---- shapes

  pub shape_same : (y : Shape) → same_shape y ≡ true → y ≡ z
  shape_same y h =
      let n = eqb-true y.n z.n (and_left _ _ h) in
      let h1 = and_right (eqb y.n z.n) _ h in
      let k = eqb-true y.k z.k (and_left _ _ h1) in
      let h2 = and_right (eqb y.k z.k) _ h1 in
      let s = eqb-true y.s z.s (and_left _ _ h2) in
      let b = eqb-true y.b z.b (and_right (eqb y.s z.s) _ h2) in
      λ i. record { n = n i; k = k i; s = s i; b = b i }

  pub same_shape_law : same_shape z ≡ true
  same_shape_law = rw (eqb_same z.n, eqb_same z.k, eqb_same z.s, eqb_same z.b)

  -- a shape is the growth's, or it is another
  by_shape : (y : Shape) (Q : Type 0) → (y ≡ z → Q) → ((y ≡ z → ⊥) → Q) → Q
  by_shape y Q p q = go (same_shape y) refl
    where
      go : (b : Bool) → same_shape y ≡ b → Q
      go true e = p (shape_same y e)
      go false e = q (λ h. clash (rw h same_shape_law) e)

  -- ---- refusals

  pub refused_number : (a : Answer) → is_refused a ≡ true → a ≡ refused (number_in a)
  refused_number (refused x) h = refl
  refused_number already h = absurd (clash h refl)
  refused_number done h = absurd (clash h refl)
  refused_number (spent x) h = absurd (clash h refl)
  refused_number (finished x) h = absurd (clash h refl)

  module _ (ok : InRanges z) (number : ℕ) (c : Contents) (f : Fit z number c) where
    refuses : (y : Shape) → (y ≡ z → ⊥) → RefusesAll y c.journal
    refuses y other = other_shape_law z ok y c.journal (whole_parts z c.journal f.whole).header other

    pub other_refused : (k : Call) → (shape_of k ≡ z → ⊥) → is_refused (answer c k) ≡ true
    unfolding answer step_answer
    other_refused (step (compute y w)) h = (refuses y h).computes c.area w
    other_refused (step (send y w e space)) h = (refuses y h).sends c.area w e space
    other_refused (step (deliver y node bytes space)) h = (refuses y h).delivers c.area node bytes space
    other_refused (step (receipt y node bytes)) h = (refuses y h).receipts node bytes
    other_refused (step (release y w)) h = (refuses y h).releases c.area w
    other_refused (step (close y)) h = (refuses y h).closes c.area
    other_refused (drive y space limit) h = (refuses y h).drives c.area space limit

    -- a wrong length with the growth's own shape
    inexact_refused : (k : Call) → exact k ≡ false → shape_of k ≡ z → is_refused (answer c k) ≡ true
    unfolding answer step_answer Send.send Deliver.deliver Receipt.receipt Drive.drive
    inexact_refused (step (compute y w)) h e = absurd (clash refl h)
    inexact_refused (step (send y w i space)) h e = or_refused
        (Send.send_refusal y (length c.area) (length c.journal) (length space) (header_of c.journal)
        (record_at c.journal w).progress w
        i) _
        (λ q. let a = send_allowed y (length c.area) (length c.journal) (length space) (header_of c.journal)
        (record_at c.journal w).progress w i q in
        clash (rw (a.space_long, e) (eqb_same (message_length z))) h)
    inexact_refused (step (deliver y node bytes space)) h e =
        let m = header_at bytes 0 in
        let word = (record_at c.journal (stripe_of m)).accepted in
        or_refused
        (Deliver.deliver_refusal y (length c.area) (length c.journal) (length bytes) (length space)
        (header_of c.journal) word node m)
        _
        (λ q. let a = deliver_allowed y (length c.area) (length c.journal) (length bytes) (length space) (header_of c.journal) word
        node m q in
        let words : is_message z m ≡ true = rw e at a.form in
        clash (rw (a.message_long, a.space_long, e, eqb_same (message_length z), words) refl) h)
    inexact_refused (step (receipt y node bytes)) h e =
        let m = header_at bytes 0 in
        let word = (record_at c.journal (stripe_of m)).progress in
        or_refused (Receipt.receipt_refusal y (length c.journal) (length bytes) (header_of c.journal) word node m) _
        (λ q. let a = receipt_allowed y (length c.journal) (length bytes) (header_of c.journal) word node m q in
        let words : is_receipt z m ≡ true = rw e at a.form in
        clash (rw (a.receipt_long, words) refl) h)
    inexact_refused (step (release y w)) h e = absurd (clash refl h)
    inexact_refused (step (close y)) h e = absurd (clash refl h)
    inexact_refused (drive y space limit) h e = or_refused (Drive.drive_refusal y (length c.area) c.journal (length space)) _
        (λ q. let a = drive_allowed y (length c.area) c.journal (length space) q in
        clash (rw (a.1, e) (eqb_same (message_length z + receipt_length))) h)

    pub foreign_refused : (k : Call) → is_own k ≡ false → is_refused (answer c k) ≡ true
    foreign_refused k h = by_shape (shape_of k) (is_refused (answer c k) ≡ true)
        (λ e. inexact_refused k (rw (e, same_shape_law) at h) e) (other_refused k)
