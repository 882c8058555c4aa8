-- FORMAT §16. Which of document 01's answers each result of the calls is. Assumes nothing.
use Rattle.std.specs.Prelude.{ℕ, Result, Ok, Err}
use Rattle.answer.specs.declared.Refusal.{Refusal}
use Rattle.answer.specs.declared.Step.{Step}
use Rattle.answer.specs.declared.Step.TheVariants as Step
use Rattle.answer.specs.declared.Drive.{Drive}
use Rattle.answer.specs.declared.Drive.TheVariants as Drive
use Rattle.answer.specs.Answers.{Answer, refused, already, done, spent, finished}
use Rattle.answer.specs.Located.{Located, At, Refused}
use Rattle.answer.specs.Numbers.{number}

abbrev pub of_step : Result Step Refusal → Answer
of_step (Ok Step.Done) = done
of_step (Ok Step.Already) = already
of_step (Err x) = refused (number x)

abbrev pub of_drive : Result Drive Refusal → Answer
of_drive (Ok (Drive.Spent x)) = spent x
of_drive (Ok (Drive.Finished x)) = finished x
of_drive (Err x) = refused (number x)

-- of locate
abbrev pub of_place : Result ℕ Refusal → Located
of_place (Ok x) = At x
of_place (Err x) = Refused (number x)
