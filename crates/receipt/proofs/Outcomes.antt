-- What receipt leaves at the node that makes it, and that this, put back, is what the call leaves. Assumes nothing.
use mathlib.Core.Path.{◌≡◌, refl, sym, ap, ◌∙◌}
use mathlib.Core.Bool.{Bool, true, false}
use mathlib.Core.List.{List}
use Prim.Native.Nat.{ℕ, ◌<◌}
use native.Mathlib.Omega.{arith}
use lib.ListN.{length}
use borrow.Author.Tests.{eq-eqb, eqb-true, not-false}
use Rattle.base.specs.Refusals.{first, or_else}
use Rattle.base.proofs.Refusals.{or_else_zero, or_else_pass, or_else_stop, first_zero, in_parts}
use Rattle.answer.specs.Answers.{Answer, refused, already, done, answer_for, on_done}
use Rattle.answer.proofs.Answers.{answered_refuses, answered_repeats, answered_acts, answered_done, done_cases, done_both}
use Rattle.layout.specs.declared.Shape.{Shape}
use Rattle.layout.specs.Ranges.{InRanges, shape_refusal}
use Rattle.layout.specs.Counts.{kept}
use Rattle.layout.proofs.RangeLaws.{in_ranges, accepted}
use Rattle.layout.proofs.Bounds.{transfers_le}
use Rattle.wire.specs.declared.Header.{Header}
use Rattle.wire.specs.Headers.{header_at, stripe_of, transfer_of}
use Rattle.wire.proofs.FormLaws.{receipt_is}
use Rattle.records.specs.declared.StripeRecord.{StripeRecord}
use Rattle.records.specs.Records as Records
use Rattle.journal.specs.declared.headers.JournalHeader.{JournalHeader}
use Rattle.journal.specs.States.{ended_refusal}
use Rattle.journal.specs.Journal.{header_of, journal_length, record_at, put_record}
use Rattle.growth.specs.Receipt.{receipt_refusal, receipted_journal, ReceiptOutcome, receipt}
use Rattle.lent.proofs.WhenDone.{on_done_once}
use Rattle.receipt.specs.Own.{journal_refusals, journal_refusal, own_refusals, own_refusal, ReceiptedAtNode, receipt_at_node}

-- ---- at the node

-- what nothing refuses names a kept stripe and a transfer of it
pub record OwnAllowed (z : Shape) (m : Header) : Type 0 where
  pub stripe : stripe_of m < kept z
  pub transfer : transfer_of m < 32

own_allowed : (z : Shape) (receipt_bytes : ℕ) (h : JournalHeader) (word node : ℕ) (m : Header)
    → own_refusal z receipt_bytes h word node m ≡ 0
    → OwnAllowed z m
unfolding own_refusal ended_refusal
own_allowed z receipt_bytes h word node m q =
    let (s, f) = or_else_zero (shape_refusal z) (first (own_refusals z receipt_bytes h word node m)) q in
    let p = first_zero (own_refusals z receipt_bytes h word node m) (tt, (tt, (tt, (tt, (tt, (tt, (tt, (tt, (tt, tt))))))))) f in
    let is = receipt_is z m (not-false _ p.1.1.1.1.1.0) in
    record { stripe = is.transfer.stripe; transfer = omega (arith, is.transfer.transfer, transfers_le z (in_ranges z s)) }

-- from the receipt's words and the transfer that they name
module _ (z : Shape) (h : JournalHeader) (r : StripeRecord) (node : ℕ) (bytes : List ℕ) where
  -- of a call that is done
  pub done_allowed : {a : Answer} {p : StripeRecord}
      → ◌≡◌ {A = ReceiptedAtNode} (record { answer = a; stripe = p }) (receipt_at_node z h r node bytes) → a ≡ done
      → OwnAllowed z (header_at bytes 0)
  unfolding receipt_at_node
  done_allowed q d =
      own_allowed z (length bytes) h r.progress node (header_at bytes 0)
      (answered_done (own_refusal z (length bytes) h r.progress node (header_at bytes 0))
      (Records.is_receipted r (transfer_of (header_at bytes 0)))
      (sym (ap (λ x. x.answer) q) ∙ d)).0

  module _ {m : Header} {e number : ℕ} (words : m ≡ header_at bytes 0) (named : e ≡ transfer_of m)
      (counted : number ≡ own_refusal z (length bytes) h r.progress node m) where
    left : (a : Answer) → answer_for number (Records.is_receipted r e) ≡ a
        → ◌≡◌ {A = ReceiptedAtNode} (record { answer = a; stripe = on_done a (Records.receipt r e) r }) (receipt_at_node z h r node bytes)
    unfolding receipt_at_node
    left a q = rw (sym words, sym named, sym counted, q)

    pub transfer_small : number ≡ 0 → e < 32
    transfer_small q = rw named (own_allowed z (length bytes) h r.progress node m (sym counted ∙ q)).transfer

    pub refuses : (number ≡ 0 → ⊥) → ◌≡◌ {A = ReceiptedAtNode} (record { answer = refused number; stripe = r })
        (receipt_at_node z h r node bytes)
    refuses q = left (refused number) (answered_refuses number (Records.is_receipted r e) q)

    pub repeats : number ≡ 0 → Records.is_receipted r e ≡ true
        → ◌≡◌ {A = ReceiptedAtNode} (record { answer = already; stripe = r }) (receipt_at_node z h r node bytes)
    repeats q marked = left already (answered_repeats number (Records.is_receipted r e) q marked)

    pub acts : number ≡ 0 → Records.is_receipted r e ≡ false → {p : StripeRecord} → p ≡ Records.receipt r e
        → ◌≡◌ {A = ReceiptedAtNode} (record { answer = done; stripe = p }) (receipt_at_node z h r node bytes)
    acts q marked marks = rw marks (left done (answered_acts number (Records.is_receipted r e) q marked))

-- of the record only the touched word counts; the other one comes back as it was
pub other_word : (z : Shape) (h : JournalHeader) (word node : ℕ) (bytes : List ℕ) (x y : ℕ)
    → let a = receipt_at_node z h (record { accepted = x; progress = word }) node bytes in
    let b = receipt_at_node z h (record { accepted = y; progress = word }) node bytes in
    (a.answer ≡ b.answer) × (a.stripe.progress ≡ b.stripe.progress) × (a.stripe.accepted ≡ x)
unfolding receipt_at_node Records.is_receipted Records.receipt
other_word z h word node bytes x y =
    let e = transfer_of (header_at bytes 0) in
    let a =
    answer_for (own_refusal z (length bytes) h word node (header_at bytes 0))
    (Records.is_receipted (record { accepted = x; progress = word }) e) in
    let p : StripeRecord = record { accepted = x; progress = word } in
    let q : StripeRecord = record { accepted = y; progress = word } in (
      refl,
      done_both (λ m n. m.progress ≡ n.progress) a a (Records.receipt p e) p (Records.receipt q e) q refl (λ d. refl) refl,
      done_cases (λ m. m.accepted ≡ x) a (Records.receipt p e) p (λ d. refl) refl,
    )

-- ---- over the journal

pub journal_lent : (z : Shape) (journalWords : ℕ) → journal_refusal z journalWords ≡ 0 → journalWords ≡ journal_length z
unfolding journal_refusal
journal_lent z journalWords e =
    eqb-true _ _ (not-false _ (first_zero (journal_refusals z journalWords) (tt, tt)
    (or_else_zero (shape_refusal z) (first (journal_refusals z journalWords)) e).1).0)

pub journal_passes : (z : Shape) (journalWords : ℕ) → InRanges z → journalWords ≡ journal_length z → journal_refusal z journalWords ≡ 0
unfolding journal_refusal
journal_passes z journalWords ok e = rw (accepted z ok, eq-eqb _ _ e)

module _ (z : Shape) (journal : List ℕ) (node : ℕ) (bytes : List ℕ) where
  abbrev w : ℕ
  w = stripe_of (header_at bytes 0)

  abbrev word : ℕ
  word = (record_at journal w).progress

  abbrev marked : Bool
  marked = Records.is_receipted (record_at journal w) (transfer_of (header_at bytes 0))

  called : (a : Answer)
      → answer_for (receipt_refusal z (length journal) (length bytes) (header_of journal) word node (header_at bytes 0)) marked ≡ a
      → ◌≡◌ {A = ReceiptOutcome} (record {
        answer = a;
        journal =
            on_done a (receipted_journal journal w (transfer_of (header_at bytes 0))) journal;
      }) (receipt z journal node bytes)
  unfolding receipt Records.is_receipted
  called a q = rw q

  in_two : or_else (journal_refusal z (length journal))
      (first (own_refusals z (length bytes) (header_of journal) word node (header_at bytes 0)))
      ≡ receipt_refusal z (length journal) (length bytes) (header_of journal) word node (header_at bytes 0)
  unfolding receipt_refusal journal_refusal
  in_two =
      in_parts (shape_refusal z) (journal_refusals z (length journal))
      (own_refusals z (length bytes) (header_of journal) word node (header_at bytes 0)) (tt, tt)

  -- refused for the shape or the journal's length
  pub stops : {number : ℕ} → number ≡ journal_refusal z (length journal) → (number ≡ 0 → ⊥)
      → ◌≡◌ {A = ReceiptOutcome} (record { answer = refused number; journal = journal }) (receipt z journal node bytes)
  stops {number} q h =
      called (refused number) (ap (λ x. answer_for x marked) (sym in_two ∙ or_else_stop _ _ (λ x. h (q ∙ x)) ∙ sym q)
      ∙ answered_refuses number marked h)

  module _ (lent : journal_refusal z (length journal) ≡ 0) where
    same_number : own_refusal z (length bytes) (header_of journal) word node (header_at bytes 0)
        ≡ receipt_refusal z (length journal) (length bytes) (header_of journal) word node (header_at bytes 0)
    unfolding own_refusal journal_refusal
    same_number =
        or_else_pass _ _ (or_else_zero (shape_refusal z) (first (journal_refusals z (length journal))) lent).0 ∙ sym (or_else_pass _ _ lent)
        ∙ in_two

    -- the call is the sender's own, handed on; its record goes back where the call is done
    pub handed_on : let left = receipt_at_node z (header_of journal) (record_at journal w) node bytes in
        ◌≡◌ {A = ReceiptOutcome} (record {
          answer = left.answer;
          journal =
              on_done left.answer (put_record journal w left.stripe) journal;
        }) (receipt z journal node bytes)
    unfolding receipt_at_node receipted_journal
    handed_on =
        let r = record_at journal w in
        let a = answer_for (own_refusal z (length bytes) (header_of journal) word node (header_at bytes 0)) marked in
        rw (on_done_once a (put_record journal w) (Records.receipt r (transfer_of (header_at bytes 0))) r journal)
        (called a (ap (λ x. answer_for x marked) (sym same_number)))

    -- where header, stripe and record are those that the code found
    pub sent_back : {h : JournalHeader} {r : StripeRecord} {m : Header} {v : ℕ} → h ≡ header_of journal → m ≡ header_at bytes 0
        → v ≡ stripe_of m → r ≡ record_at journal v
        → {a b : Answer} {p : StripeRecord} {i : List ℕ}
        → ◌≡◌ {A = ReceiptedAtNode} (record { answer = a; stripe = p }) (receipt_at_node z h r node bytes) → b ≡ a
        → i ≡ on_done a (put_record journal v p) journal
        → ◌≡◌ {A = ReceiptOutcome} (record { answer = b; journal = i }) (receipt z journal node bytes)
    sent_back {h} {r} {m} {v} header words named pair q same written =
        let left : receipt_at_node z h r node bytes ≡ receipt_at_node z (header_of journal) (record_at journal w) node bytes =
        rw (header, pair, named, words) in
        rw (same, written, named, words, ap (λ x. x.answer) (q ∙ left), ap (λ x. x.stripe) (q ∙ left)) handed_on
