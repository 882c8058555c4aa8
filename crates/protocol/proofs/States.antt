-- What a step leaves of the journal: a repeat all of it, every step but close an open growth open, every step but release what is
-- released. Assumes nothing.
use mathlib.Core.Path.{◌≡◌, refl, sym, ap, ◌∙◌}
use mathlib.Core.Bool.{Bool, true, false, not, ◌&&◌, ◌||◌, false≢true, and-true, and-false, or-true, or-false}
use borrow.Author.Tests.{not-false}
use Rattle.answer.specs.Answers.{is_done}
use Rattle.protocol.specs.Parts.{Growth}
use Rattle.protocol.specs.World.{State, opened, ended, counts_as_open, is_closed, World}
use Rattle.protocol.specs.Steps.{Step, compute, send, deliver, receipt, release, close, step_answer, when_done, when_already}
use Rattle.protocol.specs.Steps.{after_step}
use Rattle.protocol.specs.Calls.{step, is_close}
use Rattle.protocol.proofs.Answered.{Passed, when_done_law, by_answer}

pub open_not_closed : (x : State) → counts_as_open x ≡ true → is_closed x ≡ false
open_not_closed opened e = refl
open_not_closed (ended closed less_one) e = absurd (false≢true e)

-- where it is not refused as over, the growth is not closed
pub not_over : (x : State) → not (counts_as_open x) ≡ false → is_closed x ≡ false
not_over x e = open_not_closed x (not-false (counts_as_open x) e)

module _ (G : Growth) where
  open G use {Block}

  pub already_journal : (s : World G) (x : Step Block) → (when_already G s x).journal ≡ s.journal
  unfolding when_already
  already_journal s (compute w) = refl
  already_journal s (send w e) = refl
  already_journal s (deliver node m) = refl
  already_journal s (receipt node i) = refl
  already_journal s (release w) = refl
  already_journal s close = refl

  -- ---- the state
  -- a growth is closed after a step if it was before, or if the step was a close and done
  done_closes : (s : World G) (x : Step Block) → Passed G s.journal x false
      → is_closed (when_done G s x).journal.state ≡ is_closed s.journal.state || is_close (step x)
  unfolding when_done
  done_closes s (compute w) p = sym (or-false _)
  done_closes s (send w e) p = sym (or-false _)
  done_closes s (deliver node m) p = sym (or-false _)
  done_closes s (receipt node i) p = sym (or-false _)
  done_closes s (release w) p = sym (or-false _)
  done_closes s close p = sym (or-true (is_closed s.journal.state))

  pub closes : (s : World G) (x : Step Block)
      → is_closed (after_step G s x).journal.state ≡ is_closed s.journal.state || (is_done (step_answer G s x) && is_close (step x))
  closes s x = by_answer G s x (λ a t. is_closed t.journal.state ≡ is_closed s.journal.state || (is_done a && is_close (step x)))
      (λ n. sym (or-false _))
      (λ e. ap (λ j. is_closed j.state) (already_journal s x) ∙ sym (or-false _))
      (λ e. done_closes s x (when_done_law G s x e))

  -- and it is open after a step if it was before, and the step was no close that was done
  done_opens : (s : World G) (x : Step Block)
      → counts_as_open (when_done G s x).journal.state ≡ counts_as_open s.journal.state && not (is_close (step x))
  unfolding when_done
  done_opens s (compute w) = sym (and-true _)
  done_opens s (send w e) = sym (and-true _)
  done_opens s (deliver node m) = sym (and-true _)
  done_opens s (receipt node i) = sym (and-true _)
  done_opens s (release w) = sym (and-true _)
  done_opens s close = sym (and-false (counts_as_open s.journal.state))

  pub opens : (s : World G) (x : Step Block)
      → counts_as_open (after_step G s x).journal.state
      ≡ counts_as_open s.journal.state && not (is_done (step_answer G s x) && is_close (step x))
  opens s x = by_answer G s x
      (λ a t. counts_as_open t.journal.state ≡ counts_as_open s.journal.state && not (is_done a && is_close (step x)))
      (λ n. sym (and-true _))
      (λ e. ap (λ j. counts_as_open j.state) (already_journal s x) ∙ sym (and-true _))
      (λ e. done_opens s x)

  -- every step but close leaves an open growth open
  pub stays_open : (s : World G) (x : Step Block) → is_close (step x) ≡ false → counts_as_open s.journal.state ≡ true
      → counts_as_open (after_step G s x).journal.state ≡ true
  stays_open s x o h = opens s x ∙ rw (h, o, and-false)

  -- ---- what is released
  abbrev pub is_release : Step Block → Bool
  is_release (compute w) = false
  is_release (send w e) = false
  is_release (deliver node m) = false
  is_release (receipt node i) = false
  is_release (release w) = true
  is_release close = false

  done_released : (s : World G) (x : Step Block) → is_release x ≡ false → (when_done G s x).journal.released ≡ s.journal.released
  unfolding when_done
  done_released s (compute w) o = refl
  done_released s (send w e) o = refl
  done_released s (deliver node m) o = refl
  done_released s (receipt node i) o = refl
  done_released s (release w) o = absurd (false≢true (sym o))
  done_released s close o = refl

  pub same_released : (s : World G) (x : Step Block) → is_release x ≡ false → (after_step G s x).journal.released ≡ s.journal.released
  same_released s x o = by_answer G s x (λ a t. t.journal.released ≡ s.journal.released)
      (λ n. refl) (λ e. ap (λ j. j.released) (already_journal s x)) (λ e. done_released s x o)
