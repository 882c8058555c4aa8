-- A drive whose steps follow the growth's, where it is open, follows the growth's drive. Assumes nothing.
use mathlib.Core.Path.{◌≡◌, refl}
use mathlib.Core.Bool.{true, false}
use Prim.Native.Nat.{ℕ, ◌<◌}
use Rattle.protocol.specs.Parts.{Growth, Promises}
use Rattle.protocol.specs.World.{counts_as_open, World}
use Rattle.protocol.specs.Steps.{compute, release, after_step}
use Rattle.protocol.specs.Drive.{Drivable, driven}
use Rattle.protocol.specs.Calls.{pass_transfer, world_drive, driven_world}
use Rattle.protocol.specs.Invariant.{Invariant}
use Rattle.protocol.proofs.Answered.{compute_answer}
use Rattle.protocol.proofs.Leaves.{computed_after}
use Rattle.protocol.proofs.Running.{Running, running_after}
use Rattle.protocol.proofs.DriveFollowed.{DriveFollows, drive_followed}
use Rattle.protocol.proofs.Transferred.{transferred}

-- what makes a drive the growth's: laws of its steps, where the contents are in order and the growth is open
module _ (G : Growth) (D : Drivable) (Fit : D.Contents → Type 0) (view : D.Contents → World G) where
  pub record Open (c : D.Contents) : Type 0 where
    pub fit : Fit c
    pub invariant : Invariant G (view c)
    pub opened : counts_as_open (view c).journal.state ≡ true

  pub record DriveRefines : Type 0 where
    pub accepted_same : (c : D.Contents) (w e : ℕ) → w < G.stripes → e < G.transfers → Open c
        → D.is_accepted c w e ≡ (view c).journal.accepted w e
    pub receipted_same : (c : D.Contents) (w e : ℕ) → w < G.stripes → e < G.transfers → Open c
        → D.is_receipted c w e ≡ (view c).journal.receipted w e
    pub computes : (c : D.Contents) (w : ℕ) → w < G.stripes → Open c
        → (view (D.compute_on w c) ≡ after_step G (view c) (compute w)) × Fit (D.compute_on w c)
    pub passes : (c : D.Contents) (w e : ℕ) → w < G.stripes → e < G.transfers → Open c
        → (view c).journal.computed w ≡ true → (view c).journal.receipted w e ≡ false
        → (view (D.pass_on w e c) ≡ pass_transfer G w e (view c)) × Fit (D.pass_on w e c)
    pub releases : (c : D.Contents) (w : ℕ) → w < G.stripes → Open c
        → (view (D.release_on w c) ≡ after_step G (view c) (release w)) × Fit (D.release_on w c)

module _ (G : Growth) (L : Promises G) (D : Drivable) (Fit : D.Contents → Type 0) (view : D.Contents → World G)
    (R : DriveRefines G D Fit view) where
  open G use {stripes, transfers}

  running : {c : D.Contents} → Open G D Fit view c → Running G (view c)
  running o = record { invariant = o.invariant; opened = o.opened }

  -- contents that are in order, and are seen as a growth that is under way
  opens : (c : D.Contents) (s : World G) → view c ≡ s → Fit c → Running G s → Open G D Fit view c
  opens c s e f r = record { fit = f; invariant = rw e r.invariant; opened = rw e r.opened }

  -- open, and stripe w computed
  record OpenIn (w : ℕ) (c : D.Contents) : Type 0 where
    is_open : Open G D Fit view c
    computed : (view c).journal.computed w ≡ true

  drive_refines : DriveFollows D (world_drive G) stripes transfers
  drive_refines = record {
    view = view;
    Good = Open G D Fit view;
    Ready = OpenIn;
    ready_good = λ c w y. y.is_open;
    accepted_same = λ c w e lw le y. R.accepted_same c w e lw le y.is_open;
    receipted_same = λ c w e lw le y. R.receipted_same c w e lw le y.is_open;
    computes = λ c w lw o.
        let (e, f) = R.computes c w lw o in (
          e,
          record {
            is_open = opens _ _ e f (running_after G (view c) (compute w) tt refl (running o));
            computed = rw e (computed_after G (view c) w (compute_answer G (view c) o.opened w lw));
          },
        );
    passes = λ c w e lw le y z.
        let (p, f) = R.passes c w e lw le y.is_open y.computed z in
        let t = (transferred G L (view c) w e lw le z (record { running = running y.is_open; computed = y.computed })).still in
        (p, record { is_open = opens _ _ p f t.running; computed = rw p t.computed });
    releases = λ c w lw y.
        let (e, f) = R.releases c w lw y.is_open in
        (e, opens _ _ e f (running_after G (view c) (release w) tt refl (running y.is_open)));
  }

  -- however far it comes is seen as how far the growth's drive comes, and there the growth is open
  pub drive_led : (limit : ℕ) (c : D.Contents) → Open G D Fit view c → let r = driven D limit stripes transfers c in
      (record { contents = view r.contents; accepted = r.accepted; stopped = r.stopped } ≡ driven_world G limit (view c))
      × Open G D Fit view r.contents
  unfolding drive_refines
  drive_led limit c o =
      let a = drive_followed D (world_drive G) stripes transfers drive_refines limit c o in
      (a.same, a.good)
