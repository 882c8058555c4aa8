-- Begin is done exactly on the stores that a growth may start from, with a journal of exact length, and leaves what a history starts
-- with. Assumes nothing.
use mathlib.Core.Path.{◌≡◌}
use mathlib.Core.Bool.{true, false}
use mathlib.Core.List.{List}
use Prim.Native.Nat.{ℕ, ◌<◌}
use lib.ListN.{length}
use borrow.Author.Tests.{not-false}
use Rattle.base.proofs.Tests.{every_at, every_intro}
use Rattle.base.proofs.Refusals.{first_zero, or_else_zero}
use Rattle.answer.specs.Answers.{done}
use Rattle.answer.proofs.Answers.{answered_done}
use Rattle.area.proofs.Blocks.{same_bytes_eq, same_bytes_refl}
use Rattle.layout.specs.declared.Shape.{Shape}
use Rattle.layout.specs.Ranges.{rows, shape_refusal}
use Rattle.layout.specs.Counts.{stripes}
use Rattle.journal.specs.Journal.{journal_length}
use Rattle.growth.specs.Cells.{row, parity_of}
use Rattle.growth.specs.Begin.{stripe_holds, begin_refusals, begin_refusal, begin}
use Rattle.growth.proofs.Allowed.{begin_allowed}
use Rattle.growth.proofs.EncodeCells.{begin_refusal_law, begin_done}
use Rattle.history.specs.Begun.{Begun, begun_contents, Begins}

module _ (z : Shape) (area : List ℕ) (number : ℕ) where
  -- begin's test of a stripe
  pub holds : Begun z area number → (g : ℕ) → g < stripes z → stripe_holds z area g ≡ true
  unfolding stripe_holds
  holds b g l = every_intro (rows z) _ (λ j m. rw (b.parity g j l m) (same_bytes_refl (parity_of z area g j)))

  module _ (journal : List ℕ) where
    accepts : Begun z area number → length journal ≡ journal_length z → (begin z area journal number).answer ≡ done
    accepts b room = begin_done z b.in_ranges area journal number
        (begin_refusal_law z b.in_ranges area (length journal) number b.long room b.number_small
        (every_intro (stripes z) (stripe_holds z area) (holds b)))

    -- the last refusal did not apply
    parity_holds : begin_refusal z area (length journal) number ≡ 0
        → (g j : ℕ) → g < stripes z → j < rows z → row z area g j ≡ parity_of z area g j
    unfolding begin_refusal stripe_holds
    parity_holds e g j l m =
        let p = first_zero (begin_refusals z area (length journal) number) (tt, (tt, (tt, (tt, tt))))
        (or_else_zero (shape_refusal z) _ e).1 in
        same_bytes_eq _ _ (every_at (rows z) _ (every_at (stripes z) (stripe_holds z area) (not-false _ p.1.1.1.0) g l) j m)

    accepted : (begin z area journal number).answer ≡ done → Begun z area number × (length journal ≡ journal_length z)
    unfolding begin
    accepted e =
        let n = (answered_done (begin_refusal z area (length journal) number) false e).0 in
        let a = begin_allowed z area (length journal) number n in
        (record { in_ranges = a.ok; long = a.area_long; number_small = a.number_there; parity = parity_holds n }, a.journal_long)

    leaves : (begin z area journal number).answer ≡ done → let o = begin z area journal number in
        (o.area ≡ (begun_contents z area number).area) × (o.journal ≡ (begun_contents z area number).journal)
    unfolding begin begun_contents
    leaves e = (rw e, rw e)

    pub begin_begins : Begins z area journal number
    begin_begins = record { accepts = accepts; accepted = accepted; leaves = leaves }
