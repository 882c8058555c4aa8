-- A call that is refused changes nothing; a growth that is over refuses every call. Assumes nothing.
use mathlib.Core.Path.{◌≡◌, refl}
use mathlib.Core.Bool.{true, false, false≢true}
use Prim.Native.Nat.{ℕ, ◌<◌}
use native.Mathlib.Omega.{arith}
use Rattle.base.proofs.Choice.{if_cases, if_both}
use Rattle.answer.specs.Answers.{Answer, refused, refused_or}
use Rattle.protocol.specs.Parts.{Growth}
use Rattle.protocol.specs.World.{State, opened, ended, counts_as_open, ended_refusal, World}
use Rattle.protocol.specs.Steps.{Step, compute, send, deliver, receipt, release, close, step_answer, after_step}
use Rattle.protocol.specs.Drive.{Progress, drive_answer}
use Rattle.protocol.specs.Calls.{Call, step, drive, foreign, is_own, driven_world, answer, after_call}
use Rattle.answer.proofs.Answers.{spent_not_refused, finished_not_refused}

-- a drive that nothing refuses is not refused
told_not_refused : {A : Type 0} (r : Progress A) (number : ℕ) → drive_answer r ≡ refused number → ⊥
told_not_refused r number = if_cases (λ a. a ≡ refused number → ⊥) r.stopped _ _
    (λ p e. spent_not_refused e) (λ p e. finished_not_refused e)

-- the number of a state refuses
pub number_positive : (x : State) → 0 < ended_refusal x
number_positive opened = omega arith
number_positive (ended closed less_one) = omega arith

refuses : (x : State) (answer : Answer) → refused_or (ended_refusal x) answer ≡ refused (ended_refusal x)
refuses opened answer = refl
refuses (ended closed less_one) answer = refl

module _ (G : Growth) where
  open G use {Block}

  pub refused_same : (s : World G) (x : Call Block) (number : ℕ) → answer G s x ≡ refused number → after_call G s x ≡ s
  unfolding answer after_call after_step
  refused_same s (step x) number e = rw e
  refused_same s (drive limit) number e = (if_both (λ a t. a ≡ refused number → t ≡ s) (counts_as_open s.journal.state) _ _ _ _
      (λ p q. absurd (told_not_refused (driven_world G limit s) number q)) (λ p q. refl)) e
  refused_same s (foreign n) number e = refl

  -- ---- a growth that is over
  step_over : (s : World G) (x : Step Block) → counts_as_open s.journal.state ≡ false
      → step_answer G s x ≡ refused (ended_refusal s.journal.state)
  unfolding step_answer
  step_over s (compute w) h = rw h (refuses s.journal.state _)
  step_over s (send w e) h = rw h (refuses s.journal.state _)
  step_over s (deliver node m) h = rw h (refuses s.journal.state _)
  step_over s (receipt node i) h = rw h (refuses s.journal.state _)
  step_over s (release w) h = rw h (refuses s.journal.state _)
  step_over s close h = rw h (refuses s.journal.state _)

  pub over_refused : (s : World G) (x : Call Block) → is_own x ≡ true → counts_as_open s.journal.state ≡ false
      → answer G s x ≡ refused (ended_refusal s.journal.state)
  unfolding answer
  over_refused s (step x) o h = step_over s x h
  over_refused s (drive limit) o h = rw h
  over_refused s (foreign n) o h = absurd (false≢true o)
