-- The steps of a drive are those of growth's drive, so it counts the same, and leaves in its store the same. Assumes nothing.
use mathlib.Core.Path.{◌≡◌, refl, sym}
use mathlib.Core.List.{List}
use Prim.Native.Nat.{ℕ, zero, suc, ◌<◌}
use native.Mathlib.Omega.{arith}
use lib.ListN.{length}
use Rattle.answer.specs.Answers.{refused}
use Rattle.layout.specs.declared.Shape.{Shape}
use Rattle.layout.specs.Counts.{kept, transfers}
use Rattle.protocol.specs.Drive.{Progress, drive_answer}
use Rattle.protocol.proofs.DriveFollowed.{DriveFollows, drive_followed}
use Rattle.growth.specs.Drive as Drive
use Rattle.growth.proofs.DriveLaws.{not_refused}
use Rattle.history.specs.Contents.{Contents}
use Rattle.history.specs.Steps.{after_steps}
use Rattle.history.specs.DriveSteps.{Driving, steps_drive, driven_steps}
use Rattle.history.specs.Calls.{drive, answer, after}

module _ (z : Shape) where
  -- ---- growth's drive

  same_steps : DriveFollows (steps_drive z) (Drive.store_drive z) (kept z) (transfers z)
  unfolding Drive.pass_on
  same_steps = record {
    view = λ d. d.store;
    Good = λ d. Unit {0};
    Ready = λ w d. Unit {0};
    ready_good = λ d w y. tt;
    accepted_same = λ d w e lw le y. refl;
    receipted_same = λ d w e lw le y. refl;
    computes = λ d w lw y. (refl, tt);
    passes = λ d w e lw le y h. (refl, tt);
    releases = λ d w lw y. (refl, tt);
  }

  abbrev store_reached : Progress Driving → Progress Drive.Store
  store_reached r = record { contents = r.contents.store; accepted = r.accepted; stopped = r.stopped }

  same_store : (limit : ℕ) (c : Contents) (space : List ℕ)
      → store_reached (driven_steps z c space limit) ≡ Drive.driven_store z limit (Drive.lent_store z c.area c.journal space)
  unfolding driven_steps Drive.driven_store same_steps
  same_store limit c space = (drive_followed (steps_drive z) (Drive.store_drive z) (kept z) (transfers z) same_steps limit _ tt).same

  -- ---- the call

  module _ (limit : ℕ) (c : Contents) (space : List ℕ) where
    -- nothing refuses it: it answers as its steps count, and leaves what is in its store, and the trace of its steps
    pub record Runs (r : Progress Driving) : Type 0 where
      pub told : answer c (drive z space limit) ≡ drive_answer r
      pub area_left : (after c (drive z space limit)).area ≡ r.contents.store.area
      pub journal_left : (after c (drive z space limit)).journal ≡ r.contents.store.journal
      pub trace_left : (after c (drive z space limit)).trace ≡ (after_steps c r.contents.steps).trace

    pub drive_runs : Drive.drive_refusal z (length c.area) c.journal (length space) ≡ 0 → Runs (driven_steps z c space limit)
    unfolding answer after Drive.drive
    drive_runs passes = let r = driven_steps z c space limit in record {
      told = rw (passes, sym (same_store limit c space));
      area_left = rw (passes, sym (same_store limit c space), not_refused (store_reached r));
      journal_left = rw (passes, sym (same_store limit c space), not_refused (store_reached r));
      trace_left = rw (passes, sym (same_store limit c space), not_refused (store_reached r));
    }

    pub drive_refused : (x : ℕ) → 0 < x → Drive.drive_refusal z (length c.area) c.journal (length space) ≡ x
        → answer c (drive z space limit) ≡ refused x
    unfolding answer Drive.drive
    drive_refused zero l h = absurd (omega arith)
    drive_refused (suc x) l h = rw h

    pub drive_stays : (x : ℕ) → answer c (drive z space limit) ≡ refused x → after c (drive z space limit) ≡ c
    unfolding answer after Drive.drive
    drive_stays x h = rw h
