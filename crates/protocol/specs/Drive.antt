-- FORMAT §14; document 01, "Calls": the rule of drive, for anything that can take its steps. Drive writes nothing but what they write.
-- Assumes nothing.
use Rattle.std.specs.Prelude.{Bool, true, false, ℕ, zero, suc, ◌+◌}
use Rattle.base.specs.Tests.{if, below}
use Rattle.answer.specs.Answers.{Answer, spent, finished}

-- what a drive looks at, and the steps it takes
pub record Drivable : Type 1 where
  pub Contents : Type 0
  pub is_accepted : Contents → (w e : ℕ) → Bool
  pub is_receipted : Contents → (w e : ℕ) → Bool
  pub compute_on : (w : ℕ) → Contents → Contents
  -- send, deliver and receipt of transfer e of w
  pub pass_on : (w e : ℕ) → Contents → Contents
  pub release_on : (w : ℕ) → Contents → Contents

-- how far a drive has come: what it made of the contents, how many transfers it newly accepted, whether it has stopped
pub record Progress (Contents : Type 0) : Type 0 where
  pub contents : Contents
  pub accepted : ℕ
  pub stopped : Bool

-- with so many accepted: a drive that goes on, and one that stops
abbrev pub goes_on : {A : Type 0} → A → ℕ → Progress A
goes_on c accepted = record { contents = c; accepted = accepted; stopped = false }

abbrev pub stops_at : {A : Type 0} → A → ℕ → Progress A
stops_at c accepted = record { contents = c; accepted = accepted; stopped = true }

-- a drive that has stopped takes no further step
abbrev pub step_on : {A : Type 0} → (A → A) → Progress A → Progress A
step_on step r = if r.stopped r (goes_on (step r.contents) r.accepted)

module _ (D : Drivable) (limit : ℕ) where
  open D use {Contents, is_accepted, is_receipted, compute_on, pass_on, release_on}

  -- fewer than the limit were accepted
  abbrev pub has_room : Progress Contents → Bool
  has_room r = below r.accepted limit

  -- an unaccepted transfer is passed on and counted; when as many as the limit were accepted, it stops the drive
  abbrev pub further_transfer : ℕ → ℕ → Progress Contents → Progress Contents
  further_transfer w e r = if (has_room r) (goes_on (pass_on w e r.contents) (r.accepted + 1)) (stops_at r.contents r.accepted)

  -- a receipted transfer is passed over; one that is accepted and not receipted is passed on again
  unfoldable pub drive_transfer : ℕ → ℕ → Progress Contents → Progress Contents
  drive_transfer w e r =
      if r.stopped r
      (if (is_receipted r.contents w e) r
      (if (is_accepted r.contents w e) (goes_on (pass_on w e r.contents) r.accepted) (further_transfer w e r)))

  -- the first n transfers of w, by rising e
  unfoldable pub drive_transfers : ℕ → ℕ → Progress Contents → Progress Contents
  drive_transfers w zero r = r
  drive_transfers w (suc e) r = drive_transfer w e (drive_transfers w e r)

  -- compute, the transfers, release
  unfoldable pub drive_stripe : ℕ → ℕ → Progress Contents → Progress Contents
  drive_stripe transfers w r = step_on (release_on w) (drive_transfers w transfers (step_on (compute_on w) r))

  -- the first n stripes, by rising w
  unfoldable pub drive_stripes : ℕ → ℕ → Progress Contents → Progress Contents
  drive_stripes transfers zero r = r
  drive_stripes transfers (suc w) r = drive_stripe transfers w (drive_stripes transfers w r)

  unfoldable pub driven : (stripes transfers : ℕ) → Contents → Progress Contents
  driven stripes transfers c = drive_stripes transfers stripes (goes_on c 0)

-- what drive answers where nothing refuses it
abbrev pub drive_answer : {A : Type 0} → Progress A → Answer
drive_answer r = if r.stopped (spent r.accepted) (finished r.accepted)
