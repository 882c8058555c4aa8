-- What drive leaves in the buffers that it is lent: lengths never change, and a refused drive changes nothing. Assumes nothing.
use mathlib.Core.Path.{◌≡◌, refl, sym}
use mathlib.Core.Bool.{Bool, true, false}
use mathlib.Core.List.{List, [], ◌∷◌, ◌++◌}
use Prim.Native.Nat.{ℕ}
use lib.ListN.{length}
use Rattle.base.specs.Tests.{if}
use Rattle.base.proofs.Choice.{if_cases}
use Rattle.answer.specs.Answers.{Answer, refused, already, done, spent, finished, refused_or, is_refused, unless_refused}
use Rattle.answer.proofs.Answers.{refused_or_law, or_unrefused, done_not_refused, already_not_refused, already_not_spent}
use Rattle.answer.proofs.Answers.{already_not_finished, spent_not_refused, finished_not_refused}
use Rattle.layout.specs.declared.Shape.{Shape}
use Rattle.growth.specs.Drive.{drive_refusal, Store, lent_store, driven_store, drive}
use Rattle.protocol.specs.Drive.{Progress, drive_answer}
use Rattle.growth.specs.Claims.{lengths, Leaves}
use Rattle.growth.proofs.DriveLaws.{drive_lengths}

-- ---- buffers that every call changes that is not refused, of a call that never answers already

leaves_unless : (a : Answer) (new old : List (List ℕ)) → (a ≡ already → ⊥) → (is_refused a ≡ false → lengths new ≡ lengths old)
    → Leaves a old (unless_refused a new old)
leaves_unless (refused x) new old h l = record { long = refl; refusal = λ y e. refl; repeat = λ e. refl }
leaves_unless already new old h l = absurd (h refl)
leaves_unless done new old h l = record { long = l refl; refusal = λ y e. absurd (done_not_refused e); repeat = λ e. absurd (h e) }
leaves_unless (spent x) new old h l = record { long = l refl; refusal = λ y e. absurd (spent_not_refused e); repeat = λ e. absurd (h e) }
leaves_unless (finished x) new old h l =
    record { long = l refl; refusal = λ y e. absurd (finished_not_refused e); repeat = λ e. absurd (h e) }

if_three : (t : Bool) (x y u v s q : List ℕ) → if t (x ∷ u ∷ s ∷ []) (y ∷ v ∷ q ∷ []) ≡ if t x y ∷ if t u v ∷ if t s q ∷ []
if_three true x y u v s q = refl
if_three false x y u v s q = refl

-- a drive answers spent or finished
drive_no_repeat : {A : Type 0} (n : ℕ) (r : Progress A) → refused_or n (drive_answer r) ≡ already → ⊥
drive_no_repeat n r = refused_or_law (λ a. a ≡ already → ⊥) n (drive_answer r) (λ h e. already_not_refused (sym e))
    (λ h. if_cases (λ a. a ≡ already → ⊥) r.stopped _ _ (λ p e. already_not_spent (sym e)) (λ p e. already_not_finished (sym e)))

module _ (z : Shape) (area journal space : List ℕ) (limit : ℕ) where
  reached : Store
  reached = (driven_store z limit (lent_store z area journal space)).contents

  pub drive_buffers : let o = drive z area journal space limit in
      Leaves o.answer (area ∷ journal ∷ space ∷ []) (o.area ∷ o.journal ∷ o.space ∷ [])
  unfolding drive reached
  drive_buffers =
      let n = drive_refusal z (length area) journal (length space) in
      let a = (drive z area journal space limit).answer in
      rw (sym (if_three (is_refused a) area reached.area journal reached.journal space (reached.message ++ reached.receipt)))
      (leaves_unless a _ _ (drive_no_repeat n (driven_store z limit (lent_store z area journal space)))
      (λ e. let k = drive_lengths z area journal space limit (or_unrefused n _ e) in
      rw (k.area_kept, k.journal_kept, k.space_kept)))
