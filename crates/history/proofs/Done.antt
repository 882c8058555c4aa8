-- What the growth's invariant says of what was done and written, over bytes. Assumes nothing.
use mathlib.Core.Path.{◌≡◌, refl, sym, ap, ap₂, ◌∙◌}
use mathlib.Core.Bool.{true, false}
use mathlib.Core.List.{List}
use Prim.Native.Nat.{ℕ, ◌<◌}
use lib.ListN.{length}
use borrow.Author.Tests.{lt-ltb}
use Rattle.base.specs.Folds.{indicator, total}
use Rattle.base.proofs.Sums.{sum_same}
use Rattle.answer.specs.Answers.{done, is_refused}
use Rattle.answer.proofs.Answers.{answered_done}
use Rattle.layout.specs.declared.Shape.{Shape}
use Rattle.layout.specs.Counts.{kept, transfers}
use Rattle.layout.specs.Ranges.{InRanges}
use Rattle.wire.specs.Headers.{header_bytes, message}
use Rattle.records.specs.Records.{is_accepted, is_computed, is_released}
use Rattle.journal.specs.States.{counts_as_open}
use Rattle.journal.specs.Journal.{header_of, state_of, record_at}
use Rattle.protocol.specs.Parts.{Growth}
use Rattle.protocol.specs.Transfers.{occurrences}
use Rattle.protocol.specs.World as World
use Rattle.protocol.specs.Image.{payload_of}
use Rattle.protocol.specs.Invariant.{Invariant}
use Rattle.protocol.proofs.Kept.{source_is, row0_computed}
use Rattle.protocol.specs.Claims as Protocol
use Rattle.growth.specs.Begin.{begun_area}
use Rattle.growth.specs.Compute.{computed_area}
use Rattle.growth.specs.Send.{send_refusal, payload_from, payload, send}
use Rattle.growth.specs.Deliver.{deliver}
use Rattle.growth.proofs.Allowed.{send_allowed}
use Rattle.growth.proofs.BlockLaws.{length_payload}
use Rattle.history.specs.Contents.{Contents, accepted_of}
use Rattle.history.specs.Begun.{Begun}
use Rattle.history.specs.Completions.{message_for, receipt_for}
use Rattle.history.specs.Written.{Marks, OneEach}
use Rattle.history.specs.Claims.{unaccepted}
use Rattle.history.proofs.Growths.{growth_of, journal_of, view_of, message_seen, Fit}
use Rattle.history.proofs.StatesSeen.{open_seen}
use Rattle.history.proofs.CellSteps.{payload_seen}
use Rattle.history.proofs.MessagesOne.{message_one}
use Rattle.history.proofs.FitSeen.{number_few}
use Rattle.history.proofs.WireSeen.{says_message}
use Rattle.history.proofs.Lists.{among_map, none_done}
use Rattle.history.proofs.Traces.{messages_of, in_messages, in_receipts}

module _ (z : Shape) where
  -- a mark of a stripe and a transfer that there are is seen as it is
  mark_seen_law : (journal : List ℕ) (w e : ℕ) → w < kept z → e < transfers z
      → (journal_of z journal).accepted w e ≡ is_accepted (record_at journal w) e
  mark_seen_law journal w e lw le = rw (lt-ltb w (kept z) lw, lt-ltb e (transfers z) le)

  module _ (number : ℕ) (c : Contents) (f : Fit z number c) where
    pub done_marks : (start : List ℕ) → Invariant (growth_of z start) (view_of z start c) → (w : ℕ) → w < kept z
        → Marks z c.journal c.trace w
    done_marks start I w lw = record {
      computed = (f.marked w lw).computed;
      accepted = λ e le. I.delivered w e ∙ ap indicator (mark_seen_law c.journal w e lw le);
      receipted = (f.marked w lw).receipted;
      released = (f.marked w lw).released;
    }

    -- so often as its mark says, so the marks and what was done tell the same of what is left
    pub unaccepted_same : (start : List ℕ) → Invariant (growth_of z start) (view_of z start c)
        → Protocol.unaccepted (growth_of z start) (journal_of z c.journal) ≡ unaccepted z c.trace
    unfolding total
    unaccepted_same start I = sum_same (kept z) _ _ (λ w lw. sum_same (transfers z) _ _
        (λ e le. ap indicator (sym (none_done (occurrences w e (accepted_of c.trace)) ((view_of z start c).journal.accepted w e)
        (I.delivered w e)))))

    module _ (area : List ℕ) (b : Begun z area number)
        (I : Invariant (growth_of z (begun_area z area)) (view_of z (begun_area z area) c)) where
      abbrev G : Growth
      G = growth_of z (begun_area z area)

      ok : InRanges z
      ok = b.in_ranges

      -- a message with the payload of its transfer is the transfer's one message
      one_message : (w e : ℕ) → w < kept z → e < transfers z → (payload : List ℕ) → payload ≡ payload_of G w e
          → message z w e number payload ≡ message_for z area number w e
      one_message w e lw le payload q = ap (message z w e number) q ∙ sym (message_one z area number b w e lw le)

      -- send reads the new blocks as begin left them, and row 0 with its delta
      sent_payload : (w e : ℕ) → w < kept z → e < transfers z → counts_as_open (state_of (header_of c.journal)) ≡ true
          → is_computed (record_at c.journal w) ≡ true → is_released (record_at c.journal w) ≡ false
          → payload z c.area w e ≡ payload_of G w e
      sent_payload w e lw le op co re =
          let s = view_of z (begun_area z area) c in
          let unreleased : s.journal.released w ≡ false = rw (lt-ltb w (kept z) lw) re in
          let computed : s.journal.computed w ≡ true = rw (lt-ltb w (kept z) lw) co in
          payload_seen z ok c.area w e lw le
          ∙ ap₂ (payload_from z w e)
          (source_is G s I w (ap World.is_closed (open_seen z (state_of (header_of c.journal)) op)) unreleased)
          (row0_computed G s I w unreleased computed)

      sends : (w e : ℕ) (space : List ℕ) → let o = send z c.area c.journal w e space in
          o.answer ≡ done → o.space ≡ message_for z area number w e
      unfolding send is_computed is_released
      sends w e space h =
          let word = (record_at c.journal w).progress in
          let (n, m) =
          answered_done (send_refusal z (length c.area) (length c.journal) (length space) (header_of c.journal) word w e) false h in
          let a = send_allowed z (length c.area) (length c.journal) (length space) (header_of c.journal) word w e n in
          rw (h, f.number_is) (one_message w e a.stripe a.transfer (payload z c.area w e)
          (sent_payload w e a.stripe a.transfer a.opened a.computed a.unreleased))

      delivers : (node w e : ℕ) (space : List ℕ) → w < kept z → e < transfers z
          → let o = deliver z c.area c.journal node (message_for z area number w e) space in
          is_refused o.answer ≡ false → o.receipt ≡ receipt_for z number w e
      unfolding deliver message_for receipt_for
      delivers node w e space lw le h =
          let body = payload z (computed_area z area w) w e in
          rw h (ap header_bytes (says_message z ok number (number_few z number c f) (message z w e number body) (record {
            stripe = w;
            transfer = e;
            payload = body;
            stripe_lt = lw;
            transfer_lt = le;
            payload_long = length_payload z (computed_area z area w) w e;
            is = refl;
          })).receipt)

      pub one_each : OneEach z area number c
      unfolding receipt_for
      one_each = record {
        messages = λ bytes h.
            let there = in_messages bytes c.trace h in
            let of = f.messages bytes there in
            let says = says_message z ok number (number_few z number c f) bytes of in
            let sent = I.messages (message_seen z bytes) (among_map (message_seen z) bytes (messages_of c.trace) there) in
            let body = sym says.carries ∙ (rw says.transfer at sent.payload) in (
              of.stripe,
              of.transfer,
              of.stripe_lt,
              of.transfer_lt,
              of.is ∙ one_message of.stripe of.transfer of.stripe_lt of.transfer_lt of.payload body,
            );
        receipts = λ bytes h.
            let of = f.receipts bytes (in_receipts bytes c.trace h) in
            (of.stripe, of.transfer, of.stripe_lt, of.transfer_lt, of.is);
        sends = sends;
        delivers = delivers;
      }
