-- The growth's own calls, drive included, without bytes. Assumes nothing.
use Rattle.std.specs.Prelude.{Bool, true, false, ℕ}
use Rattle.base.specs.Tests.{if}
use Rattle.answer.specs.Answers.{Answer, refused}
use Rattle.protocol.specs.Parts.{Growth}
use Rattle.protocol.specs.World.{counts_as_open, ended_refusal, World}
use Rattle.protocol.specs.Steps.{Step, compute, send, deliver, receipt, release, close, step_answer, message_from, after_step}
use Rattle.protocol.specs.Steps.{StepSent}
use Rattle.protocol.specs.Drive.{Drivable, Progress, driven, drive_answer}

pub data Call (Block : Type 0) : Type 0 where
  step : Step Block → Call Block
  drive : (limit : ℕ) → Call Block
  -- a call that is refused with this number for its shape or its lengths, whatever the growth has come to
  foreign : (refusal : ℕ) → Call Block

abbrev pub is_deliver : {Block : Type 0} → Call Block → Bool
is_deliver (step (compute w)) = false
is_deliver (step (send w e)) = false
is_deliver (step (deliver node m)) = true
is_deliver (step (receipt node i)) = false
is_deliver (step (release w)) = false
is_deliver (step close) = false
is_deliver (drive limit) = false
is_deliver (foreign refusal) = false

abbrev pub is_close : {Block : Type 0} → Call Block → Bool
is_close (step (compute w)) = false
is_close (step (send w e)) = false
is_close (step (deliver node m)) = false
is_close (step (receipt node i)) = false
is_close (step (release w)) = false
is_close (step close) = true
is_close (drive limit) = false
is_close (foreign refusal) = false

-- a call with the growth's own shape and exact lengths, be it refused or not
abbrev pub is_own : {Block : Type 0} → Call Block → Bool
is_own (step x) = true
is_own (drive limit) = true
is_own (foreign refusal) = false

module _ (G : Growth) where
  open G use {Block, stripes, transfers, sender, receiver}

  -- one transfer of a drive: its message is delivered at its receiver, and its receipt handed to its sender
  unfoldable pub pass_transfer : ℕ → ℕ → World G → World G
  pass_transfer w e s =
      let m = message_from G s.cells w e in
      after_step G (after_step G (after_step G s (send w e)) (deliver (receiver w e) m)) (receipt (sender w) m.transfer)

  abbrev pub world_drive : Drivable
  world_drive = record {
    Contents = World G;
    is_accepted = λ s. s.journal.accepted;
    is_receipted = λ s. s.journal.receipted;
    compute_on = λ w s. after_step G s (compute w);
    pass_on = pass_transfer;
    release_on = λ w s. after_step G s (release w);
  }

  abbrev pub driven_world : ℕ → World G → Progress (World G)
  driven_world limit s = driven world_drive limit stripes transfers s

  unfoldable pub answer : World G → Call Block → Answer
  answer s (step x) = step_answer G s x
  answer s (drive limit) = let state = s.journal.state in
      if (counts_as_open state) (drive_answer (driven_world limit s)) (refused (ended_refusal state))
  answer s (foreign refusal) = refused refusal

  unfoldable pub after_call : World G → Call Block → World G
  after_call s (step x) = after_step G s x
  after_call s (drive limit) = if (counts_as_open s.journal.state) (driven_world limit s).contents s
  after_call s (foreign refusal) = s

  -- what the call gets was written by an earlier call, or by a step of an earlier drive
  abbrev pub WasSent : World G → Call Block → Type 0
  WasSent s (step x) = StepSent G s x
  WasSent s (drive limit) = Unit {0}
  WasSent s (foreign refusal) = Unit {0}
