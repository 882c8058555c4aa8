-- A transfer that a drive passes on, its send, its deliver and its receipt, follows the growth without bytes. Assumes nothing.
use mathlib.Core.Path.{◌≡◌, refl, ap, ◌∙◌}
use mathlib.Core.Bool.{Bool, true, false}
use mathlib.Core.List.{List}
use mathlib.Core.Logic.{inl, inr}
use Prim.Native.Nat.{ℕ, ◌<◌}
use Rattle.base.specs.Tests.{if}
use Rattle.answer.specs.Answers.{already, done}
use Rattle.layout.specs.declared.Shape.{Shape}
use Rattle.layout.specs.Ranges.{InRanges}
use Rattle.layout.specs.Counts.{kept, transfers}
use Rattle.layout.specs.Transfers.{sender, receiver}
use Rattle.wire.specs.Headers.{header_bytes, header_at, receipt_of, message}
use Rattle.journal.specs.Journal.{header_of, number_of}
use Rattle.protocol.specs.Transfers.{Among}
use Rattle.protocol.specs.Parts.{Growth}
use Rattle.protocol.specs.World.{World}
use Rattle.protocol.specs.Steps as P
use Rattle.protocol.specs.Calls.{pass_transfer}
use Rattle.protocol.proofs.Transferred.{RunningIn, Legs, legs, sent_world, delivered_world}
use Rattle.growth.specs.Send as Send
use Rattle.growth.specs.Deliver as Deliver
use Rattle.growth.specs.Drive as Drive
use Rattle.growth.proofs.BlockLaws.{length_payload}
use Rattle.history.specs.Contents.{Contents}
use Rattle.history.specs.Steps.{Step, send, deliver, receipt, transfer_in, step_answer, after_step}
use Rattle.history.specs.DriveSteps.{Driving, send_on, deliver_on, receipt_on}
use Rattle.history.proofs.Growths.{growth_of, message_seen}
use Rattle.history.proofs.CellSteps.{payload_seen}
use Rattle.history.proofs.LayoutPromises.{layout_promises}
use Rattle.history.proofs.FitSeen.{number_few}
use Rattle.history.proofs.WireSeen.{SaysMessage, SaysReceipt, says_message, says_receipt}
use Rattle.history.proofs.Following.{Followed}
use Rattle.history.proofs.StepLists.{after_more}
use Rattle.history.proofs.DriveOrder.{reached, view_in, InOrder, Leaves, one_more}
use Rattle.history.proofs.StepFollows.{send_follows}
use Rattle.history.proofs.TransferFollows.{deliver_follows, receipt_follows}
use Rattle.history.proofs.Traces.{messages_of, receipts_of, message_event, receipt_event}

-- ---- what send and deliver leave in their spaces is what they wrote

module _ (z : Shape) (c : Contents) where
  sent_bytes : (w e : ℕ) (space : List ℕ) → step_answer c (send z w e space) ≡ done
      → (Send.send z c.area c.journal w e space).space
      ≡ message z w e (number_of (header_of c.journal)) (Send.payload z c.area w e)
  unfolding step_answer Send.send
  sent_bytes w e space h = rw h

  sent_among : (w e : ℕ) (space : List ℕ) → step_answer c (send z w e space) ≡ done
      → Among (Send.send z c.area c.journal w e space).space (messages_of (after_step c (send z w e space)).trace)
  unfolding step_answer after_step Send.send
  sent_among w e space h = rw h (inl refl)

  -- a deliver that is not refused
  receipt_bytes_law : (node : ℕ) (bytes space : List ℕ) (b : Bool) → step_answer c (deliver z node bytes space) ≡ if b already done
      → (Deliver.deliver z c.area c.journal node bytes space).receipt ≡ header_bytes (receipt_of (header_at bytes 0))
  unfolding step_answer Deliver.deliver
  receipt_bytes_law node bytes space true h = rw h
  receipt_bytes_law node bytes space false h = rw h

  receipt_among : (node : ℕ) (bytes space : List ℕ) (b : Bool) → step_answer c (deliver z node bytes space) ≡ if b already done
      → Among (Deliver.deliver z c.area c.journal node bytes space).receipt
      (receipts_of (after_step c (deliver z node bytes space)).trace)
  unfolding step_answer after_step Deliver.deliver
  receipt_among node bytes space true h = rw h (inl refl)
  receipt_among node bytes space false h = rw h (inl refl)

-- ---- the three steps

module _ (z : Shape) (ok : InRanges z) (start : List ℕ) (number : ℕ) (begun first : Contents) where
  abbrev G : Growth
  G = growth_of z start

  module _ (d : Driving) (o : InOrder z start number begun first d) (w e : ℕ) (lw : w < kept z) (le : e < transfers z)
      (nr : (view_in z start number begun first d).journal.receipted w e ≡ false)
      (r : RunningIn G (layout_promises z ok start) w (view_in z start number begun first d)) where
    abbrev c : Contents
    c = reached z start number begun first d

    abbrev s : World G
    s = view_in z start number begun first d

    leg : Legs G (layout_promises z ok start) s w e
    leg = legs G (layout_promises z ok start) s w e lw le nr r

    -- ---- send

    sending : Followed z start number c (send z w e d.store.message) (P.send w e)
    sending = send_follows z ok start number c o.fit w e d.store.message o.message_long

    send_is_done : step_answer c (send z w e d.store.message) ≡ done
    send_is_done = sending.told_same ∙ leg.send_done

    abbrev d1 : Driving
    d1 = send_on z w e d

    abbrev c1 : Contents
    c1 = reached z start number begun first d1

    c1_is : c1 ≡ after_step c (send z w e d.store.message)
    c1_is = after_more d.steps (send z w e d.store.message) first

    -- what send left in hand
    sent_same : d1.store.message ≡ (Send.send z c.area c.journal w e d.store.message).space
    unfolding Drive.send_on
    sent_same = rw (o.area_same, o.journal_same)

    sent_is : d1.store.message ≡ message z w e number (Send.payload z c.area w e)
    sent_is = sent_same ∙ sent_bytes z c w e d.store.message send_is_done
        ∙ ap (λ (n : ℕ). message z w e n (Send.payload z c.area w e)) o.fit.number_is

    says : SaysMessage z w e number (Send.payload z c.area w e) d1.store.message
    says = says_message z ok number (number_few z number c o.fit) d1.store.message (record {
      stripe = w;
      transfer = e;
      payload = Send.payload z c.area w e;
      stripe_lt = lw;
      transfer_lt = le;
      payload_long = length_payload z c.area w e;
      is = sent_is;
    })

    sent_seen : message_seen z d1.store.message ≡ P.message_from G s.cells w e
    sent_seen = rw (says.transfer, says.carries, payload_seen z ok c.area w e lw le)

    send_left : Leaves z start number begun first c (send z w e d.store.message) d1.store
    unfolding Drive.send_on after_step
    send_left =
        record { area_left = o.area_same; journal_left = o.journal_same; message_long = says.long; receipt_long = o.receipt_long }

    sent : (view_in z start number begun first d1 ≡ sent_world G (layout_promises z ok start) s w e) × InOrder z start number begun first d1
    sent = one_more z start number begun first d o (send z w e d.store.message) (Drive.send_on z w e) (P.send w e) sending tt send_left

    sent_there : Among d1.store.message (messages_of c1.trace)
    sent_there = rw (c1_is, sent_same) (sent_among z c w e d.store.message send_is_done)

    -- ---- deliver

    abbrev delivery : Step
    delivery = deliver z (receiver z w e) d1.store.message d1.store.receipt

    delivering : Followed z start number c1 delivery (P.deliver (receiver z w e) (message_seen z d1.store.message))
    delivering = deliver_follows z ok start number c1 sent.1.fit (rw sent.0 leg.in_sent.running.invariant)
        (receiver z w e) d1.store.message d1.store.receipt sent_there sent.1.receipt_long

    -- a transfer that was accepted before is delivered again
    abbrev again : Bool
    again = (sent_world G (layout_promises z ok start) s w e).journal.accepted w e

    deliver_answers : step_answer c1 delivery ≡ if again already done
    deliver_answers = delivering.told_same ∙ rw (sent.0, sent_seen) leg.deliver_told

    abbrev d2 : Driving
    d2 = deliver_on z w e d1

    abbrev c2 : Contents
    c2 = reached z start number begun first d2

    c2_is : c2 ≡ after_step c1 delivery
    c2_is = after_more d1.steps delivery first

    back_same : d2.store.receipt
        ≡ (Deliver.deliver z c1.area c1.journal (receiver z w e) d1.store.message d1.store.receipt).receipt
    unfolding Drive.deliver_on
    back_same = rw (sent.1.area_same, sent.1.journal_same)

    tells : SaysReceipt z w e number d2.store.receipt
    tells = says_receipt z ok number (number_few z number c o.fit) d2.store.receipt (record {
      stripe = w;
      transfer = e;
      stripe_lt = lw;
      transfer_lt = le;
      is = back_same ∙ receipt_bytes_law z c1 (receiver z w e) d1.store.message d1.store.receipt again deliver_answers
          ∙ ap header_bytes says.receipt;
    })

    deliver_left : Leaves z start number begun first c1 delivery d2.store
    unfolding Drive.deliver_on after_step
    deliver_left = record {
      area_left = rw (sent.1.area_same, sent.1.journal_same);
      journal_left = rw (sent.1.area_same, sent.1.journal_same);
      message_long = says.long;
      receipt_long = tells.long;
    }

    delivered : (view_in z start number begun first d2 ≡ delivered_world G (layout_promises z ok start) s w e)
        × InOrder z start number begun first d2
    delivered =
        let (seen, there) = one_more z start number begun first d1 sent.1 delivery (Drive.deliver_on z w e)
        (P.deliver (receiver z w e) (message_seen z d1.store.message)) delivering
        (inl (message_event _ c1.trace sent_there)) deliver_left in
        (seen ∙ rw (sent.0, sent_seen), there)

    back_there : Among d2.store.receipt (receipts_of c2.trace)
    back_there =
        rw (c2_is, back_same) (receipt_among z c1 (receiver z w e) d1.store.message d1.store.receipt again deliver_answers)

    -- ---- receipt

    abbrev return : Step
    return = receipt z (sender z w) d2.store.receipt

    receipting : Followed z start number c2 return (P.receipt (sender z w) (transfer_in d2.store.receipt))
    receipting = receipt_follows z ok start number c2 delivered.1.fit (rw delivered.0 leg.in_delivered.running.invariant)
        (sender z w) d2.store.receipt back_there

    receipt_left : Leaves z start number begun first c2 return (receipt_on z w d2).store
    unfolding Drive.receipt_on after_step
    receipt_left = record {
      area_left = delivered.1.area_same;
      journal_left = rw delivered.1.journal_same;
      message_long = delivered.1.message_long;
      receipt_long = delivered.1.receipt_long;
    }

    pub passes_on : (view_in z start number begun first (receipt_on z w d2) ≡ pass_transfer G w e s)
        × InOrder z start number begun first (receipt_on z w d2)
    unfolding pass_transfer
    passes_on =
        let (seen, there) = one_more z start number begun first d2 delivered.1 return (Drive.receipt_on z w)
        (P.receipt (sender z w) (transfer_in d2.store.receipt)) receipting (inr (receipt_event _ c2.trace back_there)) receipt_left in
        (seen ∙ rw (delivered.0, tells.transfer), there)
