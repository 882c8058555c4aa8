-- Every call keeps the invariant, adds to the count what it newly accepted, and closes the growth exactly if it is a close that was done.
-- Assumes nothing.
use mathlib.Core.Path.{◌≡◌, refl, sym, ◌∙◌}
use mathlib.Core.Bool.{Bool, true, false, not, ◌&&◌, ◌||◌, and-true, or-false}
use Prim.Native.Nat.{ℕ, ◌+◌}
use native.Mathlib.Nat.{zero-add}
use native.Mathlib.Omega.{arith}
use Rattle.base.proofs.Choice.{if_cases}
use Rattle.answer.specs.Answers.{is_done, newly_accepted}
use Rattle.protocol.specs.Parts.{Growth, Promises}
use Rattle.protocol.specs.World.{counts_as_open, is_closed, World}
use Rattle.protocol.specs.Drive.{Progress, drive_answer}
use Rattle.protocol.specs.Calls.{Call, step, drive, foreign, is_deliver, is_close, driven_world, answer, after_call, WasSent}
use Rattle.protocol.specs.Invariant.{Invariant}
use Rattle.protocol.proofs.States.{open_not_closed, opens, closes}
use Rattle.protocol.proofs.Kept.{kept}
use Rattle.protocol.proofs.Counting.{count_grows}
use Rattle.protocol.proofs.Driven.{at_end}

drive_refusal_law : {A : Type 0} (r : Progress A) → newly_accepted false (drive_answer r) ≡ r.accepted
drive_refusal_law r = if_cases (λ a. newly_accepted false a ≡ r.accepted) r.stopped _ _
    (λ p. zero-add r.accepted) (λ p. zero-add r.accepted)

never_done : {A : Type 0} (r : Progress A) → is_done (drive_answer r) ≡ false
never_done r = if_cases (λ a. is_done a ≡ false) r.stopped _ _ (λ p. refl) (λ p. refl)

module _ (G : Growth) (L : Promises G) where
  open G use {Block}

  pub record CallKept (s : World G) (x : Call Block) : Type 0 where
    pub invariant : Invariant G (after_call G s x)
    pub counted : (after_call G s x).journal.count ≡ s.journal.count + newly_accepted (is_deliver x) (answer G s x)
    pub open_by : counts_as_open (after_call G s x).journal.state
        ≡ counts_as_open s.journal.state && not (is_done (answer G s x) && is_close x)
    pub closed_by : is_closed (after_call G s x).journal.state ≡ is_closed s.journal.state || (is_done (answer G s x) && is_close x)

  drive_kept : (s : World G) → Invariant G s → (limit : ℕ) → CallKept s (drive limit)
  unfolding after_call answer
  drive_kept s I limit = go (counts_as_open s.journal.state) refl
    where
      r : Progress (World G)
      r = driven_world G limit s

      go : (b : Bool) → counts_as_open s.journal.state ≡ b → CallKept s (drive limit)
      go true p = let h = (at_end G L s (record { invariant = I; opened = p }) limit).along in record {
        invariant = rw p h.running.invariant;
        counted = rw (p, drive_refusal_law r) h.counted;
        open_by = rw (p, never_done r) h.running.opened;
        closed_by = rw (p, never_done r, or-false)
            (open_not_closed r.contents.journal.state h.running.opened ∙ sym (open_not_closed s.journal.state p));
      }
      go false p = record { invariant = rw p I; counted = rw p (omega arith); open_by = rw p p; closed_by = rw (p, or-false) }

  pub call_kept : (s : World G) → Invariant G s → (x : Call Block) → WasSent G s x → CallKept s x
  unfolding after_call answer
  call_kept s I (step x) h =
      record { invariant = kept G s I x h; counted = count_grows G s x; open_by = opens G s x; closed_by = closes G s x }
  call_kept s I (drive limit) h = drive_kept s I limit
  call_kept s I (foreign number) h =
      record { invariant = I; counted = omega arith; open_by = sym (and-true _); closed_by = sym (or-false _) }
