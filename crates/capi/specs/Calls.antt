-- FORMAT §17. What each function for C leaves: the number that it answers, and every buffer that it may write, as the call of document
-- 01 leaves them. Assumes nothing.
use Rattle.std.specs.Prelude.{◌≡◌, List, [], ◌∷◌, ℕ}
use Rattle.layout.specs.declared.Shape.{Shape}
use Rattle.recovery.specs.RebuildAnswer.{RebuildAnswer}
use Rattle.recovery.specs.Rebuild.{Rebuilds, stripe_multiplier}
use Rattle.growth.specs.Shared.{Outcome}
use Rattle.growth.specs.Encode.{EncodeOutcome}
use Rattle.growth.specs.Send.{SendOutcome}
use Rattle.growth.specs.Deliver.{DeliverOutcome}
use Rattle.growth.specs.Receipt.{ReceiptOutcome}
use Rattle.growth.specs.Drive.{DriveOutcome}
use Rattle.numbering.specs.Numbering.{coded_answer, coded_rebuild}

-- the shape of the first four numbers
abbrev pub shape : (n k s b : ℕ) → Shape
shape n k s b = record { n = n; k = k; s = s; b = b }

-- what a function leaves: its answer as a number, and the buffers that it may write, in the order of its arguments
pub record Left : Type 0 where
  pub answer : ℕ
  pub buffers : List (List ℕ)

-- encode; begin, compute, release and close; send, deliver, receipt and drive
abbrev pub left_by_encode : EncodeOutcome → Left
left_by_encode o = record { answer = coded_answer o.answer; buffers = o.area ∷ [] }

abbrev pub left_by_step : Outcome → Left
left_by_step o = record { answer = coded_answer o.answer; buffers = o.area ∷ o.journal ∷ [] }

abbrev pub left_by_send : SendOutcome → Left
left_by_send o = record { answer = coded_answer o.answer; buffers = o.space ∷ [] }

abbrev pub left_by_deliver : DeliverOutcome → Left
left_by_deliver o = record { answer = coded_answer o.answer; buffers = o.area ∷ o.journal ∷ o.receipt ∷ [] }

abbrev pub left_by_receipt : ReceiptOutcome → Left
left_by_receipt o = record { answer = coded_answer o.answer; buffers = o.journal ∷ [] }

abbrev pub left_by_drive : DriveOutcome → Left
left_by_drive o = record { answer = coded_answer o.answer; buffers = o.area ∷ o.journal ∷ o.space ∷ [] }

-- rebuild, whose meaning is a relation: `coded` is the number of an answer that document 01 gives together with the stripe at exit
pub record LeftByRebuild (n k b : ℕ) (losses stripe : List ℕ) (coded : ℕ) (out : List ℕ) : Type 0 where
  pub answer : RebuildAnswer
  pub coded_as : coded ≡ coded_rebuild answer
  pub outcome : Rebuilds stripe_multiplier n k b losses stripe answer out
