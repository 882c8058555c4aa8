-- Deliver and receipt with the growth's own shape and exact lengths, handed what was written, do what the growth without bytes does.
-- Assumes nothing.
use mathlib.Core.Path.{◌≡◌, refl, ap, ◌∙◌}
use mathlib.Core.Bool.{true, false}
use mathlib.Core.List.{List}
use Prim.Native.Nat.{ℕ}
use lib.Dec.{ltb}
use lib.ListN.{length}
use borrow.Author.Tests.{eqb-true, not-false}
use Rattle.base.proofs.Tests.{and_right}
use Rattle.answer.specs.Answers.{already, done}
use Rattle.answer.proofs.Answers.{answered_done}
use Rattle.layout.specs.declared.Shape.{Shape}
use Rattle.layout.specs.Ranges.{InRanges}
use Rattle.layout.specs.Counts.{kept, transfers}
use Rattle.layout.specs.Transfers.{receiver}
use Rattle.wire.specs.Words.{bit}
use Rattle.wire.specs.Forms.{for_another_node}
use Rattle.wire.specs.Headers.{header_bytes, header_at, stripe_of, transfer_of, receipt_of}
use Rattle.records.specs.Records.{is_accepted, is_receipted, is_computed}
use Rattle.journal.specs.Journal.{header_of, record_at}
use Rattle.protocol.specs.Transfers.{Among}
use Rattle.protocol.specs.Parts.{Growth}
use Rattle.protocol.specs.Steps as P
use Rattle.protocol.specs.Invariant.{Invariant}
use Rattle.growth.specs.Deliver as Deliver
use Rattle.growth.specs.Receipt as Receipt
use Rattle.growth.proofs.OpenJournals.{OpenJournal}
use Rattle.growth.proofs.Allowed.{deliver_allowed, receipt_allowed}
use Rattle.growth.proofs.CallJournals.{receipted_step}
use Rattle.growth.proofs.DeliveredJournals.{delivered_step}
use Rattle.growth.proofs.LengthLaws.{length_delivered}
use Rattle.history.specs.Contents.{Contents}
use Rattle.history.specs.Steps.{deliver, receipt, transfer_in, step_answer, after_step}
use Rattle.history.proofs.Growths.{growth_of, view_of, message_seen, Fit, ReceiptOf}
use Rattle.history.proofs.CellSteps.{deliver_cells}
use Rattle.history.proofs.SeenMarks.{accepted_seen, receipted_seen}
use Rattle.history.proofs.DoneOnce.{accepted_once, receipted_once}
use Rattle.history.proofs.FitSeen.{number_few}
use Rattle.history.proofs.WireSeen.{SaysMessage, SaysReceipt, says_message, says_receipt}
use Rattle.history.proofs.LinkTold.{deliver_told, receipt_told}
use Rattle.history.proofs.StepLeaves.{deliver_again, receipt_again, deliver_done, receipt_done}
use Rattle.history.proofs.Lists.{among_more, among_map}
use Rattle.history.proofs.Following.{Leads, Followed, followed}
use Rattle.history.proofs.Traces.{messages_of, receipts_of}

module _ (z : Shape) (ok : InRanges z) (start : List ℕ) (number : ℕ) (c : Contents) (f : Fit z number c)
    (I : Invariant (growth_of z start) (view_of z start c)) where
  abbrev G : Growth
  G = growth_of z start

  -- ---- deliver

  module _ (node : ℕ) (bytes space : List ℕ) (sent : Among bytes (messages_of c.trace))
      (room : length space ≡ Deliver.receipt_length) where
    abbrev w : ℕ
    w = (f.messages bytes sent).stripe

    abbrev e : ℕ
    e = (f.messages bytes sent).transfer

    says : SaysMessage z w e number (f.messages bytes sent).payload bytes
    says = says_message z ok number (number_few z number c f) bytes (f.messages bytes sent)

    -- the stripe of a message that was written is computed
    computed : is_computed (record_at c.journal w) ≡ true
    computed =
        let m = I.messages (message_seen z bytes) (among_map (message_seen z) bytes (messages_of c.trace) sent) in
        and_right (ltb w (kept z)) _ (rw says.transfer at m.computed)

    abbrev wrote : List ℕ
    wrote = header_bytes (receipt_of (header_at bytes 0))

    abbrev written : ReceiptOf z number wrote
    written = record {
      stripe = w;
      transfer = e;
      stripe_lt = (f.messages bytes sent).stripe_lt;
      transfer_lt = (f.messages bytes sent).transfer_lt;
      is = ap header_bytes says.receipt;
    }

    deliver_repeats : step_answer c (deliver z node bytes space) ≡ already
        → Leads z start number (after_step c (deliver z node bytes space))
        (P.when_already G (view_of z start c) (P.deliver node (message_seen z bytes)))
    unfolding P.when_already
    deliver_repeats h = rw (deliver_again z c node bytes space h) (
      rw ((says_receipt z ok number (number_few z number c f) wrote written).transfer, says.transfer),
      record {
        area_long = f.area_long;
        journal_long = f.journal_long;
        whole = f.whole;
        number_is = f.number_is;
        marked =
            λ v l. record { computed = (f.marked v l).computed; receipted = (f.marked v l).receipted; released = (f.marked v l).released };
        messages = f.messages;
        receipts = among_more (ReceiptOf z number) wrote (receipts_of c.trace) written f.receipts;
      },
    )

    -- ---- done: at its receiver, in an open journal that lacks the mark

    record Accepts : Type 0 where
      opens : OpenJournal z c.journal
      here : node ≡ receiver z w e
      unaccepted : is_accepted (record_at c.journal w) e ≡ false

    accepts : step_answer c (deliver z node bytes space) ≡ done → Accepts
    unfolding step_answer Deliver.deliver for_another_node is_accepted
    accepts h =
        let m = header_at bytes 0 in
        let word = (record_at c.journal (stripe_of m)).accepted in
        let (n, q) = answered_done
        (Deliver.deliver_refusal z (length c.area) (length c.journal) (length bytes) (length space)
        (header_of c.journal) word node m)
        (bit word (transfer_of m)) h in
        let a =
        deliver_allowed z (length c.area) (length c.journal) (length bytes) (length space) (header_of c.journal) word node m
        n in
        let named = says.names.stripe in
        let item = says.names.transfer in
        record {
          opens = record { long = f.journal_long; whole = f.whole; opened = a.opened };
          here = rw (named, item) at (eqb-true node _ (not-false _ a.for_node));
          unaccepted = rw (named, item) at q;
        }

    deliver_leads : step_answer c (deliver z node bytes space) ≡ done
        → Leads z start number (after_step c (deliver z node bytes space))
        (P.when_done G (view_of z start c) (P.deliver node (message_seen z bytes)))
    unfolding P.when_done
    deliver_leads h =
        let a = accepts h in
        let o = a.opens in
        let lw = (f.messages bytes sent).stripe_lt in
        let le = (f.messages bytes sent).transfer_lt in
        let j = delivered_step z ok c.journal w e o lw le computed a.unaccepted in
        rw (deliver_done z c node bytes space h, says.names.stripe, says.names.transfer, a.here) (
          rw (
            deliver_cells z ok start c.area bytes w e f.area_long lw le,
            accepted_seen z ok c.journal o w e lw le computed a.unaccepted,
            (says_receipt z ok number (number_few z number c f) wrote written).transfer,
            says.transfer,
          ),
          record {
            area_long = length_delivered z c.area (receiver z w e) w e bytes ∙ f.area_long;
            journal_long = j.opens.long;
            whole = j.opens.whole;
            number_is = j.number ∙ f.number_is;
            marked = accepted_once z ok c.journal o c.trace f.marked w e lw le computed a.unaccepted (transfer_in bytes) wrote;
            messages = f.messages;
            receipts = among_more (ReceiptOf z number) wrote (receipts_of c.trace) written f.receipts;
          },
        )

    pub deliver_follows : Followed z start number c (deliver z node bytes space) (P.deliver node (message_seen z bytes))
    deliver_follows = followed z start number c f (deliver z node bytes space) (P.deliver node (message_seen z bytes))
        (deliver_told z ok start number c f node bytes space (f.messages bytes sent) room) deliver_repeats deliver_leads

  -- ---- receipt

  module _ (node : ℕ) (bytes : List ℕ) (sent : Among bytes (receipts_of c.trace)) where
    abbrev v : ℕ
    v = (f.receipts bytes sent).stripe

    abbrev i : ℕ
    i = (f.receipts bytes sent).transfer

    tells : SaysReceipt z v i number bytes
    tells = says_receipt z ok number (number_few z number c f) bytes (f.receipts bytes sent)

    -- the transfer of a receipt that was written is accepted
    accepted : is_accepted (record_at c.journal v) i ≡ true
    accepted =
        let m = I.receipts (transfer_in bytes) (among_map transfer_in bytes (receipts_of c.trace) sent) in
        and_right (ltb i (transfers z)) _ (and_right (ltb v (kept z)) _ (rw tells.transfer at m.accepted))

    record Receipts : Type 0 where
      opens : OpenJournal z c.journal
      unreceipted : is_receipted (record_at c.journal v) i ≡ false

    receipts : step_answer c (receipt z node bytes) ≡ done → Receipts
    unfolding step_answer Receipt.receipt is_receipted
    receipts h =
        let m = header_at bytes 0 in
        let word = (record_at c.journal (stripe_of m)).progress in
        let (n, q) = answered_done (Receipt.receipt_refusal z (length c.journal) (length bytes) (header_of c.journal) word node m)
        (bit word (transfer_of m)) h in
        let a = receipt_allowed z (length c.journal) (length bytes) (header_of c.journal) word node m n in
        record {
          opens = record { long = f.journal_long; whole = f.whole; opened = a.opened };
          unreceipted = rw (tells.names.stripe, tells.names.transfer) at q;
        }

    receipt_leads : step_answer c (receipt z node bytes) ≡ done
        → Leads z start number (after_step c (receipt z node bytes))
        (P.when_done G (view_of z start c) (P.receipt node (transfer_in bytes)))
    unfolding P.when_done
    receipt_leads h =
        let a = receipts h in
        let o = a.opens in
        let lw = (f.receipts bytes sent).stripe_lt in
        let le = (f.receipts bytes sent).transfer_lt in
        let j = receipted_step z ok c.journal v o lw i le accepted in
        rw (receipt_done z c node bytes h, tells.names.stripe, tells.names.transfer, tells.transfer) (
          rw (receipted_seen z ok c.journal o v i lw le accepted),
          record {
            area_long = f.area_long;
            journal_long = j.opens.long;
            whole = j.opens.whole;
            number_is = j.number ∙ f.number_is;
            marked = receipted_once z ok c.journal o c.trace f.marked v i lw le accepted a.unreceipted;
            messages = f.messages;
            receipts = f.receipts;
          },
        )

    pub receipt_follows : Followed z start number c (receipt z node bytes) (P.receipt node (transfer_in bytes))
    unfolding P.when_already
    receipt_follows = followed z start number c f (receipt z node bytes) (P.receipt node (transfer_in bytes))
        (receipt_told z ok start number c f node bytes (f.receipts bytes sent))
        (λ h. rw (receipt_again z c node bytes h) (refl, f)) receipt_leads
