-- All that is claimed of a stripe's record holds. Assumes nothing.
use Rattle.layout.specs.declared.Shape.{Shape}
use Rattle.layout.specs.Ranges.{InRanges}
use Rattle.records.specs.Claims.{RecordClaims}
use Rattle.records.proofs.MarkLaws.{mark_holds}
use Rattle.records.proofs.WordTests.{words_hold}
use Rattle.records.proofs.StepLaws.{steps_hold}

pub records_hold : (z : Shape) → InRanges z → RecordClaims z
records_hold z ok = record { mark = mark_holds; words = words_hold z; steps = steps_hold z ok }
