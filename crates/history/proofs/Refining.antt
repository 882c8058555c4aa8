-- The store after an accepting begin refines the growth without bytes. Assumes nothing.
use mathlib.Core.Path.{◌≡◌, refl, sym, ap, ◌∙◌, subst}
use mathlib.Core.Bool.{true}
use mathlib.Core.List.{List}
use mathlib.Core.Logic.{inl, inr}
use Prim.Native.Nat.{ℕ, ◌+◌}
use lib.ListN.{length}
use Rattle.base.proofs.Tests.{clash, eqb_same}
use Rattle.layout.specs.declared.Shape.{Shape}
use Rattle.layout.specs.Ranges.{InRanges}
use Rattle.wire.specs.Headers.{header_at, message}
use Rattle.wire.specs.Forms.{is_message, is_receipt}
use Rattle.protocol.specs.Transfers.{Among, Transfer}
use Rattle.protocol.specs.Parts.{Message}
use Rattle.protocol.specs.World.{begun_world}
use Rattle.protocol.specs.Steps as P
use Rattle.protocol.specs.Calls as Calls
use Rattle.protocol.specs.Refinement.{View, Makes, Refines}
use Rattle.growth.specs.Begin.{begun_area}
use Rattle.growth.specs.Send.{message_length}
use Rattle.growth.specs.Deliver.{receipt_length}
use Rattle.growth.proofs.BeginCells.{length_begun}
use Rattle.history.specs.Contents.{Contents}
use Rattle.history.specs.Begun.{Begun, begun_contents}
use Rattle.history.specs.Steps.{compute, send, deliver, receipt, release, close, transfer_in}
use Rattle.history.specs.Calls.{Call, step, drive, store}
use Rattle.history.specs.Completions.{receipt_for, Spaces}
use Rattle.history.specs.Claims.{begun_store}
use Rattle.history.proofs.Growths.{growth_of, view_of, message_seen, Fit}
use Rattle.history.proofs.FreshJournals.{fresh_long, fresh_whole, fresh_number}
use Rattle.history.proofs.SeenMarks.{fresh_seen}
use Rattle.history.proofs.DoneOnce.{fresh_once}
use Rattle.history.proofs.FitSeen.{number_few}
use Rattle.history.proofs.WireSeen.{says_message, says_receipt}
use Rattle.history.proofs.Lists.{map_among}
use Rattle.history.proofs.Meaning.{meaning, same_shape_law}
use Rattle.history.proofs.OwnCalls.{call_is}
use Rattle.history.proofs.Traces.{messages_of, receipts_of, message_event, receipt_event}

-- ---- the store's calls for the growth's own, with message spaces of exact lengths

module _ (z : Shape) (number : ℕ) (spaces : Spaces z) (space : List ℕ) (room : length space ≡ message_length z + receipt_length) where
  -- the bytes of a message
  abbrev pub bytes_of : Message (List ℕ) → List ℕ
  bytes_of m = message z m.transfer.stripe m.transfer.item number m.payload

  abbrev pub make_step : P.Step (List ℕ) → Call
  make_step (P.compute w) = step (compute z w)
  make_step (P.send w e) = step (send z w e (spaces.for_message w e))
  make_step (P.deliver node m) = step (deliver z node (bytes_of m) (spaces.for_receipt m.transfer.stripe m.transfer.item))
  make_step (P.receipt node i) = step (receipt z node (receipt_for z number i.stripe i.item))
  make_step (P.release w) = step (release z w)
  make_step P.close = step (close z)

  -- a foreign call is none of the growth's own, and any will do
  abbrev pub make : Calls.Call (List ℕ) → Call
  make (Calls.step x) = make_step x
  make (Calls.drive limit) = drive z space limit
  make (Calls.foreign x) = step (close z)

  module _ (ok : InRanges z) (start : List ℕ) (begun : Contents) where
    abbrev pub seen_store : View (growth_of z start) (store begun)
    seen_store = record { Fit = Fit z number; view = view_of z start; meaning = meaning z; make = make }

    module _ (c : Contents) (f : Fit z number c) where
      -- what was written is what is made for it
      same_message : (bytes : List ℕ) → Among bytes (messages_of c.trace) → bytes_of (message_seen z bytes) ≡ bytes
      same_message bytes there =
          let of = f.messages bytes there in
          let says = says_message z ok number (number_few z number c f) bytes of in
          rw (says.transfer, says.carries) (sym of.is)

      made_message : (m : Message (List ℕ)) → Among m (view_of z start c).trace.messages
          → Among (bytes_of m) (messages_of c.trace) × (message_seen z (bytes_of m) ≡ m)
          × (length (bytes_of m) ≡ message_length z) × (is_message z (header_at (bytes_of m) 0) ≡ true)
      made_message m h =
          let (bytes, there, e) = map_among (message_seen z) m (messages_of c.trace) h in
          let same = ap bytes_of e ∙ same_message bytes there in
          let says = says_message z ok number (number_few z number c f) bytes (f.messages bytes there) in (
            subst (λ x. Among x (messages_of c.trace)) (sym same) there,
            ap (message_seen z) same ∙ sym e,
            ap length same ∙ says.long,
            ap (λ x. is_message z (header_at x 0)) same ∙ says.form,
          )

      abbrev receipt_bytes : Transfer → List ℕ
      receipt_bytes i = receipt_for z number i.stripe i.item

      same_receipt : (bytes : List ℕ) → Among bytes (receipts_of c.trace) → receipt_bytes (transfer_in bytes) ≡ bytes
      unfolding receipt_for
      same_receipt bytes there =
          let of = f.receipts bytes there in
          rw (says_receipt z ok number (number_few z number c f) bytes of).transfer (sym of.is)

      made_receipt : (i : Transfer) → Among i (view_of z start c).trace.receipts
          → Among (receipt_bytes i) (receipts_of c.trace) × (transfer_in (receipt_bytes i) ≡ i)
          × (length (receipt_bytes i) ≡ receipt_length) × (is_receipt z (header_at (receipt_bytes i) 0) ≡ true)
      made_receipt i h =
          let (bytes, there, e) = map_among transfer_in i (receipts_of c.trace) h in
          let same = ap receipt_bytes e ∙ same_receipt bytes there in
          let says = says_receipt z ok number (number_few z number c f) bytes (f.receipts bytes there) in (
            subst (λ x. Among x (receipts_of c.trace)) (sym same) there,
            ap transfer_in same ∙ sym e,
            ap length same ∙ says.long,
            ap (λ x. is_receipt z (header_at x 0)) same ∙ says.form,
          )

      pub makes : (x : Calls.Call (List ℕ)) → Calls.is_own x ≡ true → Calls.WasSent (growth_of z start) (view_of z start c) x
          → Makes (growth_of z start) (store begun) seen_store c x
      makes (Calls.step (P.compute w)) o h = record { was_sent = tt; means = rw (same_shape_law z) }
      makes (Calls.step (P.send w e)) o h =
          record { was_sent = tt; means = rw (same_shape_law z, spaces.message_long w e, eqb_same (message_length z)) }
      makes (Calls.step (P.deliver node m)) o h =
          let (there, seen, long, words) = made_message m h in
          let w = m.transfer.stripe in
          let e = m.transfer.item in
          record {
            was_sent = inl (message_event _ c.trace there);
            means = rw (same_shape_law z, long, words, spaces.receipt_long w e, eqb_same (message_length z), seen);
          }
      makes (Calls.step (P.receipt node i)) o h =
          let (there, seen, long, words) = made_receipt i h in
          record { was_sent = inr (receipt_event _ c.trace there); means = rw (same_shape_law z, long, words, seen) }
      makes (Calls.step (P.release w)) o h = record { was_sent = tt; means = rw (same_shape_law z) }
      makes (Calls.step P.close) o h = record { was_sent = tt; means = rw (same_shape_law z) }
      makes (Calls.drive limit) o h = record {
        was_sent = tt;
        means = rw (same_shape_law z, room, eqb_same (message_length z + receipt_length));
      }
      makes (Calls.foreign x) o h = absurd (clash o refl)

-- ---- the refinement

module _ (z : Shape) (area : List ℕ) (number : ℕ) (b : Begun z area number) (spaces : Spaces z) (space : List ℕ)
    (room : length space ≡ message_length z + receipt_length) where
  abbrev pub store_view : View (growth_of z (begun_area z area)) (begun_store z area number)
  store_view = seen_store z number spaces space room b.in_ranges (begun_area z area) (begun_contents z area number)

  fresh_fit : Fit z number (begun_contents z area number)
  unfolding begun_contents
  fresh_fit = record {
    area_long = length_begun z area ∙ b.long;
    journal_long = fresh_long z b.in_ranges number b.number_small;
    whole = fresh_whole z b.in_ranges number b.number_small;
    number_is = fresh_number z b.in_ranges number b.number_small;
    marked = fresh_once z b.in_ranges number b.number_small;
    messages = λ bytes h. absurd h;
    receipts = λ bytes h. absurd h;
  }

  pub store_refines : Refines (growth_of z (begun_area z area)) (begun_store z area number) store_view
  unfolding begun_world begun_contents
  store_refines = record {
    begun_fit = fresh_fit;
    begun_view = rw (fresh_seen z b.in_ranges number b.number_small (begun_area z area));
    follows = λ c k f I h.
        let q = call_is z b.in_ranges (begun_area z area) number c f I k h in
        record {
          fit = q.fit;
          view_after = q.seen;
          answer_same = q.told_same;
          was_sent = q.was_sent;
          deliver_same = q.deliver_same;
          close_same = q.close_same;
        };
    makes = λ c x f I. makes z number spaces space room b.in_ranges (begun_area z area) (begun_contents z area number) c f x;
  }
