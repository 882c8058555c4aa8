-- FORMAT §18; document 01, "Runs of calls": compute, send, deliver, receipt, release and close as calls of a history, each with any
-- arguments. Each gets the area and the journal as the last one left them, and does what its definition in `growth` says. Assumes nothing.
use Rattle.std.specs.Prelude.{List, [], ◌∷◌, ℕ}
use Rattle.answer.specs.Answers.{Answer, on_done, unless_refused}
use Rattle.layout.specs.declared.Shape.{Shape}
use Rattle.wire.specs.Headers.{header_at, stripe_of, transfer_of}
use Rattle.protocol.specs.Transfers.{Transfer}
use Rattle.growth.specs.Compute as Compute
use Rattle.growth.specs.Send as Send
use Rattle.growth.specs.Deliver as Deliver
use Rattle.growth.specs.Receipt as Receipt
use Rattle.growth.specs.Release as Release
use Rattle.growth.specs.Close as Close
use Rattle.history.specs.Contents.{Contents, wrote_message, wrote_receipt, computed, released, accepted, receipted}

-- a call with its shape and all its other arguments; a space is the message space that it writes to
pub data Step : Type 0 where
  compute : Shape → (w : ℕ) → Step
  send : Shape → (w e : ℕ) (space : List ℕ) → Step
  deliver : Shape → (node : ℕ) (message space : List ℕ) → Step
  receipt : Shape → (node : ℕ) (bytes : List ℕ) → Step
  release : Shape → (w : ℕ) → Step
  close : Shape → Step

-- the transfer that the four words of a message or receipt name
unfoldable pub transfer_in : List ℕ → Transfer
transfer_in bytes = let h = header_at bytes 0 in record { stripe = stripe_of h; item = transfer_of h }

unfoldable pub step_answer : Contents → Step → Answer
step_answer c (compute z w) = (Compute.compute z c.area c.journal w).answer
step_answer c (send z w e space) = (Send.send z c.area c.journal w e space).answer
step_answer c (deliver z node message space) = (Deliver.deliver z c.area c.journal node message space).answer
step_answer c (receipt z node bytes) = (Receipt.receipt z c.journal node bytes).answer
step_answer c (release z w) = (Release.release z c.area c.journal w).answer
step_answer c (close z) = (Close.close z c.area c.journal).answer

unfoldable pub after_step : Contents → Step → Contents
after_step c (compute z w) =
    let o = Compute.compute z c.area c.journal w in
    record { area = o.area; journal = o.journal; trace = on_done o.answer (computed w ∷ c.trace) c.trace }
after_step c (send z w e space) =
    let o = Send.send z c.area c.journal w e space in
    let t = wrote_message (Send.sent_in o.space) ∷ c.trace in
    record { area = c.area; journal = c.journal; trace = on_done o.answer t c.trace }
-- a repeat writes its receipt too
after_step c (deliver z node message space) =
    let o = Deliver.deliver z c.area c.journal node message space in
    let t = unless_refused o.answer (wrote_receipt o.receipt ∷ c.trace) c.trace in
    record { area = o.area; journal = o.journal; trace = on_done o.answer (accepted (transfer_in message) ∷ t) t }
after_step c (receipt z node bytes) =
    let o = Receipt.receipt z c.journal node bytes in
    record { area = c.area; journal = o.journal; trace = on_done o.answer (receipted (transfer_in bytes) ∷ c.trace) c.trace }
after_step c (release z w) =
    let o = Release.release z c.area c.journal w in
    record { area = o.area; journal = o.journal; trace = on_done o.answer (released w ∷ c.trace) c.trace }
after_step c (close z) =
    let o = Close.close z c.area c.journal in
    record { area = o.area; journal = o.journal; trace = c.trace }

-- single calls, one after the other
unfoldable pub after_steps : Contents → List Step → Contents
after_steps c [] = c
after_steps c (x ∷ xs) = after_steps (after_step c x) xs
