-- No two results of a call are the same answer. Assumes nothing.
use mathlib.Core.Path.{◌≡◌, refl, sym, ap, ◌∙◌}
use Prim.Native.Nat.{ℕ}
use Rattle.std.specs.Prelude.{Result, Ok, Err, eqb}
use Rattle.base.specs.Tests.{if}
use Rattle.answer.specs.declared.Refusal.{Refusal}
use Rattle.answer.specs.declared.Refusal.TheVariants as It
use Rattle.answer.specs.declared.Step.{Step}
use Rattle.answer.specs.declared.Step.TheVariants as Step
use Rattle.answer.specs.declared.Drive.{Drive}
use Rattle.answer.specs.declared.Drive.TheVariants as Drive
use Rattle.answer.specs.Answers.{Answer, refused}
use Rattle.answer.specs.Cases.{of_step, of_drive}
use Rattle.answer.specs.Numbers.{number}

-- the refusal that a number is; any refusal for a number that is none
named : ℕ → Refusal
named x =
    if (eqb x 1) It.Shape (
    if (eqb x 2) It.TooManyNewNodes (
    if (eqb x 3) It.Length (
    if (eqb x 4) It.DamagedBook (
    if (eqb x 5) It.OutOfRange (
    if (eqb x 6) It.NotComputed (
    if (eqb x 7) It.Released (
    if (eqb x 8) It.Unfinished (
    if (eqb x 9) It.Malformed (
    if (eqb x 10) It.OtherGrowth (
    if (eqb x 11) It.Ambiguous (
    if (eqb x 12) It.Inconsistent (It.Closed))))))))))))

named_number : (r : Refusal) → named (number r) ≡ r
unfolding named
named_number It.Shape = refl
named_number It.TooManyNewNodes = refl
named_number It.Length = refl
named_number It.DamagedBook = refl
named_number It.OutOfRange = refl
named_number It.NotComputed = refl
named_number It.Released = refl
named_number It.Unfinished = refl
named_number It.Malformed = refl
named_number It.OtherGrowth = refl
named_number It.Ambiguous = refl
named_number It.Inconsistent = refl
named_number It.Closed = refl

-- no two refusals have the same number
pub numbers_apart : (r q : Refusal) → number r ≡ number q → r ≡ q
numbers_apart r q e = sym (named_number r) ∙ ap named e ∙ named_number q

abbrev refused_number : Answer → ℕ
refused_number (refused x) = x
refused_number a = 0

pub step_cases : (a b : Result Step Refusal) → of_step a ≡ of_step b → a ≡ b
step_cases (Ok Step.Done) (Ok Step.Done) e = refl
step_cases (Ok Step.Done) (Ok Step.Already) e = cc
step_cases (Ok Step.Done) (Err y) e = cc
step_cases (Ok Step.Already) (Ok Step.Done) e = cc
step_cases (Ok Step.Already) (Ok Step.Already) e = refl
step_cases (Ok Step.Already) (Err y) e = cc
step_cases (Err x) (Ok Step.Done) e = cc
step_cases (Err x) (Ok Step.Already) e = cc
step_cases (Err x) (Err y) e = ap Err (numbers_apart x y (ap refused_number e))

pub drive_cases : (a b : Result Drive Refusal) → of_drive a ≡ of_drive b → a ≡ b
drive_cases (Ok (Drive.Spent x)) (Ok (Drive.Spent y)) e = cc
drive_cases (Ok (Drive.Spent x)) (Ok (Drive.Finished y)) e = cc
drive_cases (Ok (Drive.Spent x)) (Err y) e = cc
drive_cases (Ok (Drive.Finished x)) (Ok (Drive.Spent y)) e = cc
drive_cases (Ok (Drive.Finished x)) (Ok (Drive.Finished y)) e = cc
drive_cases (Ok (Drive.Finished x)) (Err y) e = cc
drive_cases (Err x) (Ok (Drive.Spent y)) e = cc
drive_cases (Err x) (Ok (Drive.Finished y)) e = cc
drive_cases (Err x) (Err y) e = ap Err (numbers_apart x y (ap refused_number e))
