-- A drive whose steps follow another's follows it, whatever its limit. Assumes nothing.
use mathlib.Core.Path.{◌≡◌, refl, ap, subst}
use mathlib.Core.Bool.{false}
use Prim.Native.Nat.{ℕ, ◌+◌, ◌<◌}
use native.Mathlib.Omega.{arith}
use Rattle.base.proofs.Choice.{if_both}
use Rattle.base.proofs.Tests.{clash}
use Rattle.protocol.specs.Drive.{Drivable, Progress, goes_on, step_on, has_room, drive_transfer, drive_transfers, drive_stripe}
use Rattle.protocol.specs.Drive.{drive_stripes, driven}
use Rattle.protocol.proofs.DriveRule.{between_stripes}

-- one drive follows another where each of its steps does; Good holds between stripes, Ready w in stripe w
pub record DriveFollows (D E : Drivable) (stripes transfers : ℕ) : Type 1 where
  pub view : D.Contents → E.Contents
  pub Good : D.Contents → Type 0
  pub Ready : ℕ → D.Contents → Type 0
  pub ready_good : (c : D.Contents) (w : ℕ) → Ready w c → Good c
  pub accepted_same : (c : D.Contents) (w e : ℕ) → w < stripes → e < transfers → Ready w c
      → D.is_accepted c w e ≡ E.is_accepted (view c) w e
  pub receipted_same : (c : D.Contents) (w e : ℕ) → w < stripes → e < transfers → Ready w c
      → D.is_receipted c w e ≡ E.is_receipted (view c) w e
  pub computes : (c : D.Contents) (w : ℕ) → w < stripes → Good c
      → (view (D.compute_on w c) ≡ E.compute_on w (view c)) × Ready w (D.compute_on w c)
  pub passes : (c : D.Contents) (w e : ℕ) → w < stripes → e < transfers → Ready w c → E.is_receipted (view c) w e ≡ false
      → (view (D.pass_on w e c) ≡ E.pass_on w e (view c)) × Ready w (D.pass_on w e c)
  pub releases : (c : D.Contents) (w : ℕ) → w < stripes → Ready w c
      → (view (D.release_on w c) ≡ E.release_on w (view c)) × Good (D.release_on w c)

module _ (D E : Drivable) (stripes transfers : ℕ) (F : DriveFollows D E stripes transfers) where
  open F use {view, Good, Ready, ready_good}

  -- how far the drive has come, seen as the other
  abbrev pub seen : Progress D.Contents → Progress E.Contents
  seen r = record { contents = view r.contents; accepted = r.accepted; stopped = r.stopped }

  -- between stripes
  pub record Alike (r : Progress D.Contents) (q : Progress E.Contents) : Type 0 where
    pub same : seen r ≡ q
    pub good : Good r.contents

  -- in stripe w
  record AlikeIn (w : ℕ) (r : Progress D.Contents) (q : Progress E.Contents) : Type 0 where
    same : seen r ≡ q
    good : Good r.contents
    ready : r.stopped ≡ false → Ready w r.contents

  enter : (w : ℕ) → w < stripes → (r : Progress D.Contents) (q : Progress E.Contents) → Alike r q
      → AlikeIn w (step_on (D.compute_on w) r) (step_on (E.compute_on w) q)
  enter w lw r q h = subst (λ z. AlikeIn w (step_on (D.compute_on w) r) (step_on (E.compute_on w) z)) h.same
      (if_both (AlikeIn w) r.stopped _ _ _ _
      (λ p. record { same = refl; good = h.good; ready = λ z. absurd (clash p z) })
      (λ p. let (e, y) = F.computes r.contents w lw h.good in
      record { same = ap (λ c. goes_on c r.accepted) e; good = ready_good _ w y; ready = λ z. y }))

  leave : (w : ℕ) → w < stripes → (r : Progress D.Contents) (q : Progress E.Contents) → AlikeIn w r q
      → Alike (step_on (D.release_on w) r) (step_on (E.release_on w) q)
  leave w lw r q h = subst (λ z. Alike (step_on (D.release_on w) r) (step_on (E.release_on w) z)) h.same
      (if_both Alike r.stopped _ _ _ _
      (λ p. record { same = refl; good = h.good })
      (λ p. let (e, y) = F.releases r.contents w lw (h.ready p) in
      record { same = ap (λ c. goes_on c r.accepted) e; good = y }))

  module _ (limit : ℕ) where
    -- a transfer that both pass on, with n accepted
    passed : (w e n : ℕ) → w < stripes → e < transfers → (c : D.Contents) → Ready w c → E.is_receipted (view c) w e ≡ false
        → AlikeIn w (goes_on (D.pass_on w e c) n) (goes_on (E.pass_on w e (view c)) n)
    passed w e n lw le c y z = let (p, x) = F.passes c w e lw le y z in
        record { same = ap (λ d. goes_on d n) p; good = ready_good _ w x; ready = λ q. x }

    next : (w e : ℕ) → w < stripes → e < transfers → (r : Progress D.Contents) (q : Progress E.Contents) → AlikeIn w r q
        → AlikeIn w (drive_transfer D limit w e r) (drive_transfer E limit w e q)
    unfolding drive_transfer
    next w e lw le r q h = subst (λ z. AlikeIn w (drive_transfer D limit w e r) (drive_transfer E limit w e z)) h.same
        (if_both (AlikeIn w) r.stopped _ _ _ _
        (λ p. record { same = refl; good = h.good; ready = λ z. absurd (clash p z) })
        (λ p. rw (F.receipted_same c w e lw le (h.ready p), F.accepted_same c w e lw le (h.ready p))
        (if_both (AlikeIn w) (E.is_receipted (view c) w e) _ _ _ _
        (λ z. record { same = refl; good = h.good; ready = h.ready })
        (λ z. if_both (AlikeIn w) (E.is_accepted (view c) w e) _ _ _ _
        (λ a. passed w e r.accepted lw le c (h.ready p) z)
        (λ a. if_both (AlikeIn w) (has_room D limit r) _ _ _ _
        (λ l. passed w e (r.accepted + 1) lw le c (h.ready p) z)
        (λ l. record { same = refl; good = h.good; ready = λ s. h.ready p }))))))
      where
        c : D.Contents
        c = r.contents

    pub drive_followed : (c : D.Contents) → Good c → Alike (driven D limit stripes transfers c) (driven E limit stripes transfers (view c))
    unfolding driven drive_stripes drive_stripe drive_transfers
    drive_followed c g = between_stripes D limit
        (λ n r. Alike r (drive_stripes E limit transfers n began))
        (λ w n r. AlikeIn w r (drive_transfers E limit w n (step_on (E.compute_on w) (drive_stripes E limit transfers w began))))
        stripes transfers
        (λ w lw r h. enter w lw r _ h) (λ w e lw le r h. next w e lw le r _ h) (λ w lw r h. leave w lw r _ h)
        stripes (omega arith) _ (record { same = refl; good = g })
      where
        began : Progress E.Contents
        began = goes_on (view c) 0
