-- Every call of the store is, answer included, what it means in the growth without bytes. Assumes nothing.
use mathlib.Core.Path.{◌≡◌, refl}
use mathlib.Core.Bool.{Bool, true, false}
use mathlib.Core.List.{List}
use Prim.Native.Nat.{ℕ}
use lib.Dec.{eqb}
use lib.ListN.{length}
use borrow.Author.Tests.{eqb-true}
use Rattle.base.proofs.Tests.{clash, and_left, and_right}
use Rattle.answer.specs.Answers.{refused, is_done}
use Rattle.layout.specs.declared.Shape.{Shape}
use Rattle.layout.specs.Ranges.{InRanges}
use Rattle.wire.specs.Headers.{header_at}
use Rattle.wire.specs.Forms.{is_message}
use Rattle.protocol.specs.Parts.{Growth}
use Rattle.protocol.specs.Steps as P
use Rattle.protocol.specs.Calls as Calls
use Rattle.protocol.specs.Invariant.{Invariant}
use Rattle.growth.specs.Send.{message_length}
use Rattle.growth.specs.Deliver.{receipt_length}
use Rattle.history.specs.Contents.{Contents}
use Rattle.history.specs.Steps.{Step, compute, send, deliver, receipt, release, close, transfer_in}
use Rattle.history.specs.Calls.{Call, step, drive, is_deliver, is_close, shape_of, answer, after, WasSent}
use Rattle.history.proofs.Growths.{growth_of, view_of, message_seen, Fit}
use Rattle.history.proofs.Link.{message_among, receipt_among}
use Rattle.history.proofs.StepLeaves.{refused_leaves}
use Rattle.history.proofs.Lists.{among_map}
use Rattle.history.proofs.Following.{Followed}
use Rattle.history.proofs.StepFollows.{compute_follows, send_follows, release_follows, close_follows}
use Rattle.history.proofs.TransferFollows.{deliver_follows, receipt_follows}
use Rattle.history.proofs.DriveSame.{drive_stays}
use Rattle.history.proofs.DriveLeads.{drive_follows}
use Rattle.history.proofs.Meaning.{same_shape, exact, is_own, as_own, number_in, meaning, shape_same, refused_number, foreign_refused}
use Rattle.history.proofs.Traces.{messages_of, receipts_of}

module _ (z : Shape) (ok : InRanges z) (start : List ℕ) (number : ℕ) (c : Contents) (f : Fit z number c) where
  abbrev G : Growth
  G = growth_of z start

  -- call k is the growth's call x
  pub record Is (k : Call) (x : Calls.Call (List ℕ)) : Type 0 where
    pub fit : Fit z number (after c k)
    pub seen : view_of z start (after c k) ≡ Calls.after_call G (view_of z start c) x
    pub told_same : answer c k ≡ Calls.answer G (view_of z start c) x
    pub was_sent : Calls.WasSent G (view_of z start c) x
    pub deliver_same : is_done (answer c k) ≡ true → is_deliver k ≡ Calls.is_deliver x
    pub close_same : is_done (answer c k) ≡ true → is_close k ≡ Calls.is_close x

  -- ---- with the growth's own shape and exact lengths

  step_is : (x : Step) (y : P.Step (List ℕ)) → Followed z start number c x y → P.StepSent G (view_of z start c) y
      → is_deliver (step x) ≡ Calls.is_deliver (Calls.step y) → is_close (step x) ≡ Calls.is_close (Calls.step y)
      → Is (step x) (Calls.step y)
  unfolding answer after Calls.answer Calls.after_call
  step_is x y h s d e = record {
    fit = h.leads.1;
    seen = h.leads.0;
    told_same = h.told_same;
    was_sent = s;
    deliver_same = λ q. d;
    close_same = λ q. e;
  }

  module _ (I : Invariant G (view_of z start c)) where
    own_is : (k : Call) → shape_of k ≡ z → exact z k ≡ true → WasSent c k → Is k (as_own z k)
    unfolding answer after
    own_is (step (compute y w)) e l h = rw e (step_is (compute z w) _ (compute_follows z ok start number c f w) tt refl refl)
    own_is (step (send y w i space)) e l h =
        rw e (step_is (send z w i space) _ (send_follows z ok start number c f w i space (eqb-true _ _ l)) tt refl refl)
    own_is (step (deliver y node bytes space)) e l h =
        let words = and_right (eqb (length bytes) (message_length z)) _ l in
        let there = message_among z ok number c f bytes (and_left (is_message z (header_at bytes 0)) _ words) h in
        let room = eqb-true (length space) receipt_length (and_right (is_message z (header_at bytes 0)) _ words) in
        rw e (step_is (deliver z node bytes space) _ (deliver_follows z ok start number c f I node bytes space there room)
        (among_map (message_seen z) bytes (messages_of c.trace) there) refl refl)
    own_is (step (receipt y node bytes)) e l h =
        let there = receipt_among z ok number c f bytes (and_right (eqb (length bytes) receipt_length) _ l) h in
        rw e (step_is (receipt z node bytes) _ (receipt_follows z ok start number c f I node bytes there)
        (among_map transfer_in bytes (receipts_of c.trace) there) refl refl)
    own_is (step (release y w)) e l h = rw e (step_is (release z w) _ (release_follows z ok start number c f w) tt refl refl)
    own_is (step (close y)) e l h = rw e (step_is (close z) _ (close_follows z ok start number c f) tt refl refl)
    own_is (drive y space limit) e l h =
        let q = drive_follows z ok start number c c f I space (eqb-true _ _ l) limit in
        rw e (record {
          fit = q.fit;
          seen = q.seen;
          told_same = q.told_same;
          was_sent = tt;
          deliver_same = λ d. refl;
          close_same = λ d. refl;
        })

    -- ---- any other

    refused_stays : (k : Call) (x : ℕ) → answer c k ≡ refused x → after c k ≡ c
    unfolding answer after
    refused_stays (step s) x h = refused_leaves c s x h
    refused_stays (drive y space limit) x h = drive_stays y limit c space x h

    foreign_is : (k : Call) → is_own z k ≡ false → Is k (Calls.foreign (number_in z (answer c k)))
    unfolding Calls.answer Calls.after_call
    foreign_is k h =
        let told = refused_number z (answer c k) (foreign_refused z ok number c f k h) in
        let left = refused_stays k _ told in
        record {
          fit = rw left f;
          seen = rw left;
          told_same = told;
          was_sent = tt;
          deliver_same = λ d. absurd (clash d (rw told refl));
          close_same = λ d. absurd (clash d (rw told refl));
        }

    pub call_is : (k : Call) → WasSent c k → Is k (meaning z c k)
    call_is k h = go (is_own z k) refl
      where
        go : (b : Bool) → is_own z k ≡ b → Is k (meaning z c k)
        go true e = rw e (own_is k (shape_same z (shape_of k) (and_left (same_shape z (shape_of k)) (exact z k) e))
            (and_right (same_shape z (shape_of k)) (exact z k) e) h)
        go false e = rw e (foreign_is k e)
