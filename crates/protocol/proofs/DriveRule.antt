-- Laws of the rule of drive, for anything that can take its steps. Assumes nothing.
use mathlib.Core.Path.{refl}
use Prim.Native.Nat.{ℕ, zero, suc, ◌≤◌, ◌<◌}
use native.Mathlib.Omega.{arith}
use Rattle.base.proofs.Choice.{if_cases}
use Rattle.base.proofs.Tests.{clash, below_lt, below_le}
use Rattle.protocol.specs.Drive.{Drivable, Progress, goes_on, step_on, has_room, further_transfer, drive_transfer, drive_transfers}
use Rattle.protocol.specs.Drive.{drive_stripe, drive_stripes, driven}
use Rattle.protocol.specs.DriveRule.{DriveRule}

module _ (D : Drivable) (limit : ℕ) where
  open D use {Contents, is_accepted, is_receipted, compute_on, pass_on, release_on}

  -- what holds between stripes and within them, by how far the drive has come, holds at its end
  module _ (Between : ℕ → Progress Contents → Type 0) (Within : ℕ → ℕ → Progress Contents → Type 0) (stripes transfers : ℕ)
      (enter : (w : ℕ) → w < stripes → (r : Progress Contents) → Between w r → Within w 0 (step_on (compute_on w) r))
      (next : (w e : ℕ) → w < stripes → e < transfers → (r : Progress Contents) → Within w e r
      → Within w (suc e) (drive_transfer D limit w e r))
      (leave : (w : ℕ) → w < stripes → (r : Progress Contents) → Within w transfers r → Between (suc w) (step_on (release_on w) r)) where
    within_transfers : (w n : ℕ) → w < stripes → n ≤ transfers → (r : Progress Contents) → Within w 0 r
        → Within w n (drive_transfers D limit w n r)
    unfolding drive_transfers
    within_transfers w zero lw ln r h = h
    within_transfers w (suc e) lw ln r h = next w e lw ln (drive_transfers D limit w e r) (within_transfers w e lw (omega arith) r h)

    pub between_stripes : (n : ℕ) → n ≤ stripes → (r : Progress Contents) → Between 0 r → Between n (drive_stripes D limit transfers n r)
    unfolding drive_stripes drive_stripe
    between_stripes zero ln r h = h
    between_stripes (suc w) ln r h =
        leave w ln _ (within_transfers w transfers ln (omega arith) _ (enter w ln _ (between_stripes w (omega arith) r h)))

  -- ---- the limit
  rule_further : (w e : ℕ) (r : Progress Contents) → DriveRule limit r → DriveRule limit (further_transfer D limit w e r)
  rule_further w e r h = if_cases (DriveRule limit) (has_room D limit r) _ _
      (λ p. let l = below_lt _ _ p in record { within = omega arith; spent_all = λ q. absurd (clash q refl) })
      (λ p. let l = below_le _ _ p in record { within = h.within; spent_all = λ q. omega (arith, h.within) })

  rule_on : (c : Contents) (r : Progress Contents) → DriveRule limit r → DriveRule limit (goes_on c r.accepted)
  rule_on c r h = record { within = h.within; spent_all = λ q. absurd (clash q refl) }

  rule_step : (f : Contents → Contents) (r : Progress Contents) → DriveRule limit r → DriveRule limit (step_on f r)
  rule_step f r h = if_cases (DriveRule limit) r.stopped _ _ (λ p. h) (λ p. rule_on (f r.contents) r h)

  rule_transfer : (w e : ℕ) (r : Progress Contents) → DriveRule limit r → DriveRule limit (drive_transfer D limit w e r)
  unfolding drive_transfer
  rule_transfer w e r h = if_cases (DriveRule limit) r.stopped _ _ (λ p. h)
      (λ p. if_cases (DriveRule limit) (is_receipted r.contents w e) _ _ (λ q. h)
      (λ q. if_cases (DriveRule limit) (is_accepted r.contents w e) _ _
      (λ a. rule_on (pass_on w e r.contents) r h) (λ a. rule_further w e r h)))

  -- a drive accepts no more than its limit, and stops only when it has accepted as many
  pub drive_rule : (stripes transfers : ℕ) (c : Contents) → DriveRule limit (driven D limit stripes transfers c)
  unfolding driven
  drive_rule stripes transfers c = between_stripes (λ n r. DriveRule limit r) (λ w n r. DriveRule limit r) stripes transfers
      (λ w lw r h. rule_step (compute_on w) r h) (λ w e lw le r h. rule_transfer w e r h) (λ w lw r h. rule_step (release_on w) r h)
      stripes (omega arith) _ (record { within = omega arith; spent_all = λ q. absurd (clash q refl) })
