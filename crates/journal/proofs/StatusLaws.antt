-- What status tells where nothing refuses it, and where something does. Assumes nothing.
use mathlib.Core.Path.{◌≡◌, refl}
use mathlib.Core.List.{List, [], ◌∷◌}
use mathlib.Core.Bool.{Bool, true, false, not}
use Prim.Native.Nat.{ℕ, zero, suc}
use Rattle.base.specs.Tests.{if}
use Rattle.base.specs.Refusals.{refuse, first}
use Rattle.layout.specs.declared.Shape.{Shape}
use Rattle.journal.specs.Journal.{header_of, state_of, count_of}
use Rattle.journal.specs.Status.{status_refusal, state_or, status}
use Rattle.journal.specs.StatusAnswer.{State, Refused}

-- the test of the book as the last of the list
pub book_last : (t : Bool) → if t 0 4 ≡ first (refuse (not t) 4 ∷ [])
book_last true = refl
book_last false = refl

module _ (z : Shape) (journal : List ℕ) where
  pub refused : {v : ℕ} → v ≡ status_refusal z journal → (v ≡ 0 → ⊥) → Refused v ≡ status z journal
  unfolding status
  refused {v} e h = rw (← e) (go v h)
    where
      go : (v : ℕ) → (v ≡ 0 → ⊥) → Refused v ≡ state_or v journal
      go zero h = absurd (h refl)
      go (suc x) h = refl

  pub tells : status_refusal z journal ≡ 0 → State (state_of (header_of journal)) (count_of (header_of journal)) ≡ status z journal
  unfolding status
  tells e = rw e
