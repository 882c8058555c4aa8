-- What a single call leaves by its answer: a refused one the contents as they were, a repeat the contents and, of a deliver, one receipt
-- more, a done one what its definition writes. Assumes nothing.
use mathlib.Core.Path.{◌≡◌}
use mathlib.Core.List.{List, ◌∷◌}
use Prim.Native.Nat.{ℕ}
use Rattle.answer.specs.Answers.{refused, already, done}
use Rattle.layout.specs.declared.Shape.{Shape}
use Rattle.wire.specs.Headers.{header_bytes, header_at, stripe_of, transfer_of, receipt_of, message}
use Rattle.journal.specs.Journal.{header_of, put_header, number_of}
use Rattle.growth.specs.Compute as Compute
use Rattle.growth.specs.Send as Send
use Rattle.growth.specs.Deliver as Deliver
use Rattle.growth.specs.Receipt as Receipt
use Rattle.growth.specs.Release as Release
use Rattle.growth.specs.Close as Close
use Rattle.history.specs.Contents.{Contents, wrote_message, wrote_receipt, computed, released, accepted, receipted}
use Rattle.history.specs.Steps.{Step, compute, send, deliver, receipt, release, close, transfer_in, step_answer, after_step}

pub refused_leaves : (c : Contents) (x : Step) (n : ℕ) → step_answer c x ≡ refused n → after_step c x ≡ c
unfolding step_answer after_step Compute.compute Send.send Deliver.deliver Receipt.receipt Release.release Close.close
refused_leaves c (compute z w) n h = rw h
refused_leaves c (send z w e space) n h = rw h
refused_leaves c (deliver z node bytes space) n h = rw h
refused_leaves c (receipt z node bytes) n h = rw h
refused_leaves c (release z w) n h = rw h
refused_leaves c (close z) n h = rw h

module _ (z : Shape) (c : Contents) where
  -- ---- a repeat

  pub compute_again : (w : ℕ) → step_answer c (compute z w) ≡ already → after_step c (compute z w) ≡ c
  unfolding step_answer after_step Compute.compute
  compute_again w h = rw h

  pub receipt_again : (node : ℕ) (bytes : List ℕ) → step_answer c (receipt z node bytes) ≡ already → after_step c (receipt z node bytes) ≡ c
  unfolding step_answer after_step Receipt.receipt
  receipt_again node bytes h = rw h

  pub release_again : (w : ℕ) → step_answer c (release z w) ≡ already → after_step c (release z w) ≡ c
  unfolding step_answer after_step Release.release
  release_again w h = rw h

  pub deliver_again : (node : ℕ) (bytes space : List ℕ) → step_answer c (deliver z node bytes space) ≡ already
      → after_step c (deliver z node bytes space)
      ≡ record { area = c.area; journal = c.journal; trace = wrote_receipt (header_bytes (receipt_of (header_at bytes 0))) ∷ c.trace }
  unfolding step_answer after_step Deliver.deliver
  deliver_again node bytes space h = rw h

  -- ---- done

  pub compute_done : (w : ℕ) → step_answer c (compute z w) ≡ done
      → after_step c (compute z w) ≡ record
      { area = Compute.computed_area z c.area w; journal = Compute.computed_journal c.journal w; trace = computed w ∷ c.trace }
  unfolding step_answer after_step Compute.compute
  compute_done w h = rw h

  pub send_done : (w e : ℕ) (space : List ℕ) → step_answer c (send z w e space) ≡ done
      → after_step c (send z w e space) ≡ record {
        area = c.area;
        journal = c.journal;
        trace = wrote_message (message z w e (number_of (header_of c.journal)) (Send.payload z c.area w e)) ∷ c.trace;
      }
  unfolding step_answer after_step Send.send
  send_done w e space h = rw h

  pub deliver_done : (node : ℕ) (bytes space : List ℕ) → step_answer c (deliver z node bytes space) ≡ done → let m = header_at bytes 0 in
      after_step c (deliver z node bytes space) ≡ record {
        area = Deliver.delivered_area z c.area node (stripe_of m) (transfer_of m) bytes;
        journal = Deliver.delivered_journal c.journal (stripe_of m) (transfer_of m);
        trace = accepted (transfer_in bytes) ∷ wrote_receipt (header_bytes (receipt_of m)) ∷ c.trace;
      }
  unfolding step_answer after_step Deliver.deliver
  deliver_done node bytes space h = rw h

  pub receipt_done : (node : ℕ) (bytes : List ℕ) → step_answer c (receipt z node bytes) ≡ done → let m = header_at bytes 0 in
      after_step c (receipt z node bytes) ≡ record {
        area = c.area;
        journal = Receipt.receipted_journal c.journal (stripe_of m) (transfer_of m);
        trace = receipted (transfer_in bytes) ∷ c.trace;
      }
  unfolding step_answer after_step Receipt.receipt
  receipt_done node bytes h = rw h

  pub release_done : (w : ℕ) → step_answer c (release z w) ≡ done
      → after_step c (release z w) ≡ record
      { area = Release.released_area z c.area w; journal = Release.released_journal c.journal w; trace = released w ∷ c.trace }
  unfolding step_answer after_step Release.release
  release_done w h = rw h

  pub close_done_law : step_answer c (close z) ≡ done
      → after_step c (close z) ≡ record {
        area = Close.cleared_area z c.area;
        journal = put_header c.journal (Close.closed_header z (header_of c.journal));
        trace =
            c.trace;
      }
  unfolding step_answer after_step Close.close
  close_done_law h = rw h
