-- What drive answers and leaves, from its refusal or from how far it has come. Assumes nothing.
use mathlib.Core.Path.{◌≡◌, refl, ap, ◌∙◌}
use mathlib.Core.Bool.{Bool, true, false}
use mathlib.Core.List.{List, ◌++◌}
use Prim.Native.Nat.{ℕ, zero, suc}
use lib.ListN.{length, take-append-drop}
use Rattle.answer.specs.Answers.{refused, spent, finished, refused_or, unless_refused}
use Rattle.layout.specs.declared.Shape.{Shape}
use Rattle.protocol.specs.Drive.{Progress, drive_answer}
use Rattle.growth.specs.Send.{message_length}
use Rattle.growth.specs.Drive.{Store, DriveOutcome, lent_store, drive_refusal, driven_store, drive}

-- the outcome, by the refusal's number and by how far the drive comes where nothing refuses it
made : ℕ → Progress Store → List ℕ → List ℕ → List ℕ → DriveOutcome
made number r area journal space =
    let a = refused_or number (drive_answer r) in
    record {
      answer = a;
      area = unless_refused a r.contents.area area;
      journal = unless_refused a r.contents.journal journal;
      space = unless_refused a (r.contents.message ++ r.contents.receipt) space;
    }

made_refused : (number : ℕ) (r : Progress Store) (area journal space : List ℕ) → (number ≡ 0 → ⊥)
    → record { answer = refused number; area = area; journal = journal; space = space } ≡ made number r area journal space
unfolding made
made_refused zero r area journal space h = absurd (h refl)
made_refused (suc number) r area journal space h = refl

module _ (z : Shape) (area journal space : List ℕ) (limit : ℕ) where
  is_made : made (drive_refusal z (length area) journal (length space)) (driven_store z limit (lent_store z area journal space)) area
      journal
      space
      ≡ drive z area journal space limit
  unfolding made drive
  is_made = refl

  pub refuses : {x : ℕ} → x ≡ drive_refusal z (length area) journal (length space) → (x ≡ 0 → ⊥)
      → ◌≡◌ {A = DriveOutcome} (record { answer = refused x; area = area; journal = journal; space = space })
      (drive z area journal space limit)
  refuses {x} e h = made_refused x (driven_store z limit (lent_store z area journal space)) area journal space h
      ∙ (ap (λ n. made n (driven_store z limit (lent_store z area journal space)) area journal space) e ∙ is_made)

  module _ (unrefused : drive_refusal z (length area) journal (length space) ≡ 0) (area' journal' space' : List ℕ) (accepted : ℕ)
      (stopped : Bool)
      (reached : ◌≡◌ {A = Progress Store}
      (record { contents = lent_store z area' journal' space'; accepted = accepted; stopped = stopped })
      (driven_store z limit (lent_store z area journal space))) where
    came : made 0 (record { contents = lent_store z area' journal' space'; accepted = accepted; stopped = stopped }) area journal space
        ≡ drive z area journal space limit
    came = rw (reached, ← unrefused) is_made

    pub spends : stopped ≡ true
        → ◌≡◌ {A = DriveOutcome} (record { answer = spent accepted; area = area'; journal = journal'; space = space' })
        (drive z area journal space limit)
    unfolding made
    spends s = rw (take-append-drop (message_length z) space') at (rw s at came)

    pub finishes : stopped ≡ false
        → ◌≡◌ {A = DriveOutcome} (record { answer = finished accepted; area = area'; journal = journal'; space = space' })
        (drive z area journal space limit)
    unfolding made
    finishes s = rw (take-append-drop (message_length z) space') at (rw s at came)
