-- The rule of drive as the code takes it: one transfer, the next transfer, a stripe, the next stripe. Assumes nothing.
use mathlib.Core.Path.{◌≡◌, sym, ap, ◌∙◌}
use mathlib.Core.Bool.{true, false}
use Prim.Native.Nat.{ℕ, ◌+◌, ◌≤◌, ◌<◌}
use native.Mathlib.Numerals.{add-one}
use borrow.Author.Tests.{lt-ltb, le-ltb}
use Rattle.base.specs.Tests.{below}
use Rattle.protocol.specs.Drive.{Drivable, Progress, goes_on, stops_at, step_on, drive_transfer, drive_transfers, drive_stripe}
use Rattle.protocol.specs.Drive.{drive_stripes}
use Rattle.drive.proofs.Stopping.{step_stays, transfers_rest, stripes_rest}

running_step : {A : Type 0} (step : A → A) (r : Progress A) → r.stopped ≡ false → goes_on (step r.contents) r.accepted ≡ step_on step r
running_step step r p = rw p

module _ (D : Drivable) (limit : ℕ) where
  open D use {Contents, is_accepted, is_receipted, compute_on, pass_on, release_on}

  -- ---- one transfer of a drive that has not stopped

  module _ (w e : ℕ) (c : Contents) (accepted : ℕ) where
    pub passed_over : is_receipted c w e ≡ true → drive_transfer D limit w e (goes_on c accepted) ≡ goes_on c accepted
    unfolding drive_transfer
    passed_over r = rw r

    module _ (r : is_receipted c w e ≡ false) where
      pub passed_again : is_accepted c w e ≡ true → drive_transfer D limit w e (goes_on c accepted) ≡ goes_on (pass_on w e c) accepted
      unfolding drive_transfer
      passed_again a = rw (r, a)

      module _ (a : is_accepted c w e ≡ false) where
        pub stopped_here : limit ≤ accepted → drive_transfer D limit w e (goes_on c accepted) ≡ stops_at c accepted
        unfolding drive_transfer below
        stopped_here l = rw (r, a, le-ltb _ _ l)

        pub passed_on : accepted < limit → drive_transfer D limit w e (goes_on c accepted) ≡ goes_on (pass_on w e c) (accepted + 1)
        unfolding drive_transfer below
        passed_on l = rw (r, a, lt-ltb _ _ l)

  -- ---- the transfers of a stripe: s has come of r after e of them, and t of s by one more

  module _ (w e : ℕ) (r s t : Progress Contents) (so_far : s ≡ drive_transfers D limit w e r) (turn : t ≡ drive_transfer D limit w e s)
    where
      pub next_transfer : t ≡ drive_transfers D limit w (e + 1) r
      unfolding drive_transfers
      next_transfer = turn ∙ rw (so_far, add-one)

      pub last_transfer : (n : ℕ) → e + 1 ≤ n → t.stopped ≡ true → t ≡ drive_transfers D limit w n r
      last_transfer n l p = next_transfer ∙ sym (transfers_rest D limit w (e + 1) n r l (ap (λ x. x.stopped) (sym next_transfer) ∙ p))

  -- ---- a stripe, of a drive that has not stopped

  pub stripe_stopped : (n w : ℕ) (c : Contents) (accepted : ℕ) (r : Progress Contents)
      → r ≡ drive_transfers D limit w n (goes_on (compute_on w c) accepted) → r.stopped ≡ true
      → r ≡ drive_stripe D limit n w (goes_on c accepted)
  unfolding drive_stripe
  stripe_stopped n w c accepted r e p = sym (step_stays (release_on w) r p) ∙ ap (step_on (release_on w)) e

  pub stripe_done : (n w : ℕ) (c : Contents) (accepted : ℕ) (r : Progress Contents)
      → r ≡ drive_transfers D limit w n (goes_on (compute_on w c) accepted) → r.stopped ≡ false
      → goes_on (release_on w r.contents) r.accepted ≡ drive_stripe D limit n w (goes_on c accepted)
  unfolding drive_stripe
  stripe_done n w c accepted r e p = running_step (release_on w) r p ∙ ap (step_on (release_on w)) e

  -- ---- the stripes

  module _ (n w : ℕ) (r s t : Progress Contents) (so_far : s ≡ drive_stripes D limit n w r) (turn : t ≡ drive_stripe D limit n w s) where
    pub next_stripe : t ≡ drive_stripes D limit n (w + 1) r
    unfolding drive_stripes
    next_stripe = turn ∙ rw (so_far, add-one)

    pub last_stripe : (m : ℕ) → w + 1 ≤ m → t.stopped ≡ true → t ≡ drive_stripes D limit n m r
    last_stripe m l p = next_stripe ∙ sym (stripes_rest D limit n (w + 1) m r l (ap (λ x. x.stopped) (sym next_stripe) ∙ p))
