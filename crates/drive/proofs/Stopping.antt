-- A drive that has stopped stays as it is, however many transfers and stripes follow. Assumes nothing.
use mathlib.Core.Path.{◌≡◌, sym, ap, ◌∙◌}
use mathlib.Core.Bool.{true}
use mathlib.Core.Logic.{⊎_elim}
use Prim.Native.Nat.{ℕ, zero, suc, ◌≤◌, ◌<◌}
use native.Mathlib.Nat.{eq-or-lt_of_le}
use native.Mathlib.Omega.{arith}
use Rattle.protocol.specs.Drive.{Drivable, Progress, step_on, drive_transfer, drive_transfers, drive_stripe, drive_stripes}

-- what stays once it has stopped is after n turns what it was after m
rest : {A : Type 0} (f : ℕ → Progress A) → ((n : ℕ) → (f n).stopped ≡ true → f (suc n) ≡ f n)
    → (m n : ℕ) → m ≤ n → (f m).stopped ≡ true → f n ≡ f m
rest f stays m zero l s = ap f (omega arith)
rest f stays m (suc n) l s =
    ⊎_elim
    (λ (e : m ≡ suc n). ap f (sym e))
    (λ (h : m < suc n). let same = rest f stays m n (omega arith) s in stays n (rw same s) ∙ same)
    (eq-or-lt_of_le l)

pub step_stays : {A : Type 0} (step : A → A) (r : Progress A) → r.stopped ≡ true → step_on step r ≡ r
step_stays step r s = rw s

module _ (D : Drivable) (limit : ℕ) where
  open D use {Contents, compute_on, release_on}

  transfer_stays : (w e : ℕ) (r : Progress Contents) → r.stopped ≡ true → drive_transfer D limit w e r ≡ r
  unfolding drive_transfer
  transfer_stays w e r s = rw s

  -- stopped within the first m transfers of a stripe, of n in all
  pub transfers_rest : (w m n : ℕ) (r : Progress Contents) → m ≤ n → (drive_transfers D limit w m r).stopped ≡ true
      → drive_transfers D limit w n r ≡ drive_transfers D limit w m r
  unfolding drive_transfers
  transfers_rest w m n r = rest (λ i. drive_transfers D limit w i r) (λ i s. transfer_stays w i (drive_transfers D limit w i r) s) m n

  stripe_stays : (n w : ℕ) (r : Progress Contents) → r.stopped ≡ true → drive_stripe D limit n w r ≡ r
  unfolding drive_stripe drive_transfers
  stripe_stays n w r s =
      let first = step_stays (compute_on w) r s in
      let all : drive_transfers D limit w n r ≡ r = transfers_rest w 0 n r (omega arith) s in
      ap (λ x. step_on (release_on w) (drive_transfers D limit w n x)) first
      ∙ (ap (step_on (release_on w)) all ∙ step_stays (release_on w) r s)

  -- stopped within the first m stripes, of n in all
  pub stripes_rest : (t m n : ℕ) (r : Progress Contents) → m ≤ n → (drive_stripes D limit t m r).stopped ≡ true
      → drive_stripes D limit t n r ≡ drive_stripes D limit t m r
  unfolding drive_stripes
  stripes_rest t m n r = rest (λ i. drive_stripes D limit t i r) (λ i s. stripe_stays t i (drive_stripes D limit t i r) s) m n
