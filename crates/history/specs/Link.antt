-- FORMAT §18; document 01, "Runs of calls": the link. What deliver and receipt get, at any node, is a copy of a message or receipt
-- that an earlier call wrote. Assumes nothing.
use Rattle.std.specs.Prelude.{List, ◌⊎◌, ℕ}
use Rattle.protocol.specs.Transfers.{Among}
use Rattle.history.specs.Contents.{Trace, Contents, wrote_message, wrote_receipt}
use Rattle.history.specs.Steps.{Step, compute, send, deliver, receipt, release, close}

abbrev pub Sent : Trace → List ℕ → Type 0
Sent t bytes = Among (wrote_message bytes) t ⊎ Among (wrote_receipt bytes) t

abbrev pub StepSent : Contents → Step → Type 0
StepSent c (compute z w) = Unit {0}
StepSent c (send z w e space) = Unit {0}
StepSent c (deliver z node message space) = Sent c.trace message
StepSent c (receipt z node bytes) = Sent c.trace bytes
StepSent c (release z w) = Unit {0}
StepSent c (close z) = Unit {0}
