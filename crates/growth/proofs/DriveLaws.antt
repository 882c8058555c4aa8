-- All that is claimed of a drive that nothing refuses, and that it keeps every length. Assumes nothing.
use mathlib.Core.Path.{◌≡◌, refl, sym, ap, ◌∙◌, subst}
use mathlib.Core.Bool.{true, false}
use mathlib.Core.List.{List, ◌++◌}
use Prim.Native.Nat.{ℕ, ◌+◌}
use native.Mathlib.Omega.{arith}
use lib.ListN.{length, length-append, length-drop, take-append-drop}
use lib.Seq.{length-take-le}
use Rattle.base.proofs.Choice.{if_cases}
use Rattle.answer.specs.Answers.{spent, finished, is_refused, carried}
use Rattle.layout.specs.declared.Shape.{Shape}
use Rattle.layout.specs.Counts.{kept, transfers}
use Rattle.protocol.specs.Drive.{Progress, drive_answer}
use Rattle.protocol.specs.DriveRule.{DriveRule}
use Rattle.protocol.proofs.DriveRule.{drive_rule}
use Rattle.growth.specs.Send.{message_length}
use Rattle.growth.specs.Deliver.{receipt_length}
use Rattle.growth.specs.Drive.{drive_refusal, Store, store_drive, lent_store, driven_store, drive}
use Rattle.growth.specs.Claims.{LastSent, DriveClaims}
use Rattle.growth.proofs.Allowed.{WholeAllowed, drive_allowed}
use Rattle.growth.proofs.Stores.{SoundStore}
use Rattle.growth.proofs.DriveSteps.{space_of, Along}
use Rattle.growth.proofs.DriveSpaces.{driven_along, driven_last}

-- ---- the answer

pub not_refused : {A : Type 0} (r : Progress A) → is_refused (drive_answer r) ≡ false
not_refused r = if_cases (λ a. is_refused a ≡ false) r.stopped (spent r.accepted) (finished r.accepted) (λ p. refl) (λ p. refl)

carries : {A : Type 0} (r : Progress A) → carried (drive_answer r) ≡ r.accepted
carries r = if_cases (λ a. carried a ≡ r.accepted) r.stopped (spent r.accepted) (finished r.accepted) (λ p. refl) (λ p. refl)

finished_not_spent : {n x : ℕ} → finished n ≡ spent x → ⊥
finished_not_spent e = let z : ◌≡◌ {A = ℕ} 0 1 = cc in omega arith

-- spent is told only of a drive that stopped
spent_stopped : {A : Type 0} (r : Progress A) (x : ℕ) → drive_answer r ≡ spent x → r.stopped ≡ true
spent_stopped r x = if_cases (λ a. a ≡ spent x → r.stopped ≡ true) r.stopped (spent r.accepted) (finished r.accepted)
    (λ p e. p) (λ p e. absurd (finished_not_spent e))

-- finished only of one that did not
finished_unstopped : {A : Type 0} (r : Progress A) (x : ℕ) → drive_answer r ≡ finished x → r.stopped ≡ false
finished_unstopped r x = if_cases (λ a. a ≡ finished x → r.stopped ≡ false) r.stopped (spent r.accepted) (finished r.accepted)
    (λ p e. absurd (finished_not_spent (sym e))) (λ p e. p)

-- ---- the store that a drive comes to has the lengths of what drive was lent

pub record DriveLengths (area journal space : List ℕ) (c : Store) : Type 0 where
  pub area_kept : length c.area ≡ length area
  pub journal_kept : length c.journal ≡ length journal
  pub space_kept : length (c.message ++ c.receipt) ≡ length space

module _ (z : Shape) (area journal space : List ℕ) (limit : ℕ) (passes : drive_refusal z (length area) journal (length space) ≡ 0) where
  -- ---- what drive is lent

  allowed : WholeAllowed z (length area) journal
  allowed = (drive_allowed z (length area) journal (length space) passes).0

  space_long : length space ≡ message_length z + receipt_length
  space_long = (drive_allowed z (length area) journal (length space) passes).1

  pub lent_sound : SoundStore z (lent_store z area journal space)
  lent_sound =
      let long = space_long in
      record {
        area_long = allowed.area_long;
        opens = record { long = allowed.journal_long; whole = allowed.whole; opened = allowed.opened };
        message_long = length-take-le (message_length z) space (omega arith);
        receipt_long = length-drop (message_length z) space ∙ omega arith;
      }

  -- ---- what it leaves

  -- how far it comes
  abbrev progress : Progress Store
  progress = driven_store z limit (lent_store z area journal space)

  along : Along z (lent_store z area journal space) (kept z) progress
  along = driven_along z allowed.ok limit (lent_store z area journal space) lent_sound

  rule : DriveRule limit progress
  unfolding driven_store
  rule = drive_rule (store_drive z) limit (kept z) (transfers z) (lent_store z area journal space)

  answers : (drive z area journal space limit).answer ≡ drive_answer progress
  unfolding drive
  answers = rw passes

  leaves_journal : (drive z area journal space limit).journal ≡ progress.contents.journal
  unfolding drive
  leaves_journal = rw (passes, not_refused progress)

  leaves_space : (drive z area journal space limit).space ≡ space_of progress.contents
  unfolding drive
  leaves_space = rw (passes, not_refused progress)

  pub drive_claims : DriveClaims z area journal space limit
  drive_claims = record {
    marks_added = rw (leaves_journal, answers, carries progress) along.reached.counted;
    within = rw (answers, carries progress) rule.within;
    all_spent = λ x e.
        let told : drive_answer progress ≡ spent x = sym answers ∙ e in
        let stopped = spent_stopped progress x told in
        (sym (ap carried told) ∙ carries progress ∙ rule.spent_all stopped, rw leaves_journal (along.left stopped));
    all_released = λ x e. rw leaves_journal (along.released (finished_unstopped progress x (sym answers ∙ e)));
    spaces = rw (leaves_space, leaves_journal) (subst
        (λ lent. LastSent z limit (lent_store z area journal space) progress.contents.journal lent (space_of progress.contents))
        (take-append-drop (message_length z) space)
        (driven_last z allowed.ok limit (lent_store z area journal space) lent_sound));
    whole = rw leaves_journal along.reached.sound.opens.whole;
  }

  -- it was lent a store in order and left one, and these have the same lengths
  pub drive_lengths : DriveLengths area journal space progress.contents
  drive_lengths =
      let left = along.reached.sound in
      record {
        area_kept = left.area_long ∙ sym allowed.area_long;
        journal_kept = left.opens.long ∙ sym allowed.journal_long;
        space_kept = rw (length-append, left.message_long, left.receipt_long) (sym space_long);
      }
