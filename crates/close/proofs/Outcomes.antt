-- What close leaves, from the refusal and what was written. Assumes nothing.
use mathlib.Core.Path.{◌≡◌, refl, sym}
use mathlib.Core.Bool.{false}
use mathlib.Core.List.{List}
use Prim.Native.Nat.{ℕ}
use lib.ListN.{length}
use Rattle.answer.specs.declared.Refusal.{Refusal}
use Rattle.answer.specs.Answers.{refused, done}
use Rattle.answer.specs.Numbers.{number}
use Rattle.answer.proofs.Answers.{answered_refuses, answered_acts}
use Rattle.answer.proofs.Exits.{number_some}
use Rattle.layout.specs.declared.Shape.{Shape}
use Rattle.journal.specs.declared.headers.JournalHeader.{JournalHeader}
use Rattle.journal.specs.Journal.{header_of, put_header}
use Rattle.growth.specs.Shared.{Outcome}
use Rattle.growth.specs.Close.{close_refusal, cleared_area, closed_header, close}
use Rattle.growth.proofs.Allowed.{WholeAllowed, close_allowed}

module _ (z : Shape) (area journal : List ℕ) where
  pub allowed : 0 ≡ close_refusal z (length area) journal → WholeAllowed z (length area) journal
  allowed none = close_allowed z (length area) journal (sym none)

  pub refuses : (x : Refusal) → number x ≡ close_refusal z (length area) journal
      → ◌≡◌ {A = Outcome} (record { answer = refused (number x); area = area; journal = journal }) (close z area journal)
  unfolding close
  refuses x refusal = rw (← refusal, answered_refuses (number x) false (number_some x))

  -- of the area, the header and the journal as the code leaves them
  pub acts : 0 ≡ close_refusal z (length area) journal → (cleared : List ℕ) (h : JournalHeader) (closed : List ℕ)
      → cleared ≡ cleared_area z area → h ≡ closed_header z (header_of journal) → closed ≡ put_header journal h
      → ◌≡◌ {A = Outcome} (record { answer = done; area = cleared; journal = closed }) (close z area journal)
  unfolding close
  acts none cleared h closed p q r = rw (← none, answered_acts 0 false refl refl, r, q, p)
