-- The count grows by what a step newly accepted. Assumes nothing.
use mathlib.Core.Path.{◌≡◌, ap, ◌∙◌}
use mathlib.Core.Bool.{Bool, true, false, not, ◌&&◌}
use Prim.Native.Nat.{ℕ, ◌+◌}
use native.Mathlib.Omega.{arith}
use Rattle.base.specs.Tests.{if}
use Rattle.base.specs.Folds.{indicator}
use Rattle.answer.specs.Answers.{already, done, newly_accepted}
use Rattle.protocol.specs.Parts.{Growth}
use Rattle.protocol.specs.World.{World}
use Rattle.protocol.specs.Steps.{Step, compute, send, deliver, receipt, release, close, step_answer, when_done, after_step}
use Rattle.protocol.specs.Calls.{step, is_deliver}
use Rattle.protocol.proofs.Answered.{by_answer}
use Rattle.protocol.proofs.States.{already_journal}

module _ (G : Growth) where
  open G use {Block}

  done_count : (s : World G) (x : Step Block)
      → (when_done G s x).journal.count ≡ s.journal.count + newly_accepted (is_deliver (step x)) done
  unfolding when_done
  done_count s (compute w) = omega arith
  done_count s (send w e) = omega arith
  done_count s (deliver node m) = omega arith
  done_count s (receipt node i) = omega arith
  done_count s (release w) = omega arith
  done_count s close = omega arith

  pub count_grows : (s : World G) (x : Step Block)
      → (after_step G s x).journal.count ≡ s.journal.count + newly_accepted (is_deliver (step x)) (step_answer G s x)
  count_grows s x = by_answer G s x (λ a t. t.journal.count ≡ s.journal.count + newly_accepted (is_deliver (step x)) a)
      (λ n. omega arith) (λ e. ap (λ j. j.count) (already_journal G s x) ∙ omega arith) (λ e. done_count s x)

  told_count : (b d : Bool) → newly_accepted d (if b already done) ≡ indicator (not b && d)
  told_count true d = omega arith
  told_count false true = omega arith
  told_count false false = omega arith

  -- where nothing refuses: a deliver adds 1 if its transfer was not accepted, no other step adds anything
  pub count_told : (s : World G) (x : Step Block) (b : Bool) → step_answer G s x ≡ if b already done
      → (after_step G s x).journal.count ≡ s.journal.count + indicator (not b && is_deliver (step x))
  count_told s x b e = count_grows s x
      ∙ ap (λ (n : ℕ). s.journal.count + n) (ap (newly_accepted (is_deliver (step x))) e ∙ told_count b (is_deliver (step x)))
