-- FORMAT §18; document 01, "Runs of calls": the calls of a history over bytes. Assumes nothing.
use Rattle.std.specs.Prelude.{Bool, true, false, List, ℕ}
use Rattle.answer.specs.Answers.{Answer, unless_refused}
use Rattle.layout.specs.declared.Shape.{Shape}
use Rattle.protocol.specs.Histories.{Machine}
use Rattle.growth.specs.Drive as Drive
use Rattle.history.specs.Contents.{Contents}
use Rattle.history.specs.Steps.{Step, compute, send, deliver, receipt, release, close, step_answer, after_step, after_steps}
use Rattle.history.specs.Link.{StepSent}
use Rattle.history.specs.DriveSteps.{drive_steps}

pub data Call : Type 0 where
  step : Step → Call
  drive : Shape → (space : List ℕ) (limit : ℕ) → Call

abbrev pub is_deliver : Call → Bool
is_deliver (step (compute z w)) = false
is_deliver (step (send z w e space)) = false
is_deliver (step (deliver z node message space)) = true
is_deliver (step (receipt z node bytes)) = false
is_deliver (step (release z w)) = false
is_deliver (step (close z)) = false
is_deliver (drive z space limit) = false

abbrev pub is_close : Call → Bool
is_close (step (compute z w)) = false
is_close (step (send z w e space)) = false
is_close (step (deliver z node message space)) = false
is_close (step (receipt z node bytes)) = false
is_close (step (release z w)) = false
is_close (step (close z)) = true
is_close (drive z space limit) = false

-- the shape that a call is given
abbrev pub shape_of : Call → Shape
shape_of (step (compute z w)) = z
shape_of (step (send z w e space)) = z
shape_of (step (deliver z node message space)) = z
shape_of (step (receipt z node bytes)) = z
shape_of (step (release z w)) = z
shape_of (step (close z)) = z
shape_of (drive z space limit) = z

unfoldable pub answer : Contents → Call → Answer
answer c (step x) = step_answer c x
answer c (drive z space limit) = (Drive.drive z c.area c.journal space limit).answer

unfoldable pub after : Contents → Call → Contents
after c (step x) = after_step c x
after c (drive z space limit) =
    let o = Drive.drive z c.area c.journal space limit in
    let driven = after_steps c (drive_steps z c space limit) in
    record { area = o.area; journal = o.journal; trace = unless_refused o.answer driven.trace c.trace }

-- what a step gets was written by an earlier call, or by a step of an earlier drive; a drive gets nothing
abbrev pub WasSent : Contents → Call → Type 0
WasSent c (step x) = StepSent c x
WasSent c (drive z space limit) = Unit {0}

-- ---- histories

-- lists of such calls, from contents on; what a list comes to is in protocol/specs/Histories
abbrev pub store : Contents → Machine
store start = record {
  Contents = Contents;
  Call = Call;
  begun = start;
  after = after;
  answer = answer;
  WasSent = WasSent;
  is_deliver = is_deliver;
  is_close = is_close;
}
