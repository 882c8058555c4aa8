-- Where the shape is in range and the lengths are exact, the first tests of a call on contents that are in order refuse nothing, and what
-- is left starts, as in the growth without bytes, with the test whether the journal is open. Assumes nothing.
use mathlib.Core.Path.{◌≡◌, refl, ◌∙◌}
use mathlib.Core.Bool.{Bool, true, false, not}
use mathlib.Core.List.{List, [], ◌∷◌, ◌++◌}
use Prim.Native.Nat.{ℕ}
use lib.ListN.{length}
use Rattle.base.specs.Tests.{if}
use Rattle.base.specs.Refusals.{Refusal, first, or_else}
use Rattle.base.proofs.Refusals.{NoneApplies, or_else_pass}
use Rattle.layout.specs.declared.Shape.{Shape}
use Rattle.layout.specs.Ranges.{shape_refusal, InRanges}
use Rattle.layout.specs.Addresses.{area_length}
use Rattle.layout.proofs.RangeLaws.{accepted}
use Rattle.journal.specs.Journal.{header_of, state_of, journal_length}
use Rattle.protocol.specs.Steps as Protocol
use Rattle.growth.specs.Shared.{wrong_length, damaged_header, damaged_word, not_open}
use Rattle.growth.proofs.NotRefused.{right_length}
use Rattle.history.specs.Contents.{Contents}
use Rattle.history.proofs.Growths.{view_of, Fit}
use Rattle.history.proofs.FitSeen.{parts}
use Rattle.history.proofs.StatesSeen.{over_same}

-- tests that refuse nothing can be left out
first_past : (passed rest : List Refusal) → NoneApplies passed → first (passed ++ rest) ≡ first rest
first_past [] rest p = refl
first_past (r ∷ passed) rest p = rw p.0 (first_past passed rest p.1)

-- a touched word is tested only where there is one
pub word_passes : (isThere isOk : Bool) → (isThere ≡ true → isOk ≡ true) → (damaged_word isThere isOk).applies ≡ false
word_passes true isOk h = rw (h refl)
word_passes false isOk h = refl

-- what is tested after a range needs to be the same only within it
pub within_same : (t : Bool) (n x y : ℕ) → (t ≡ true → x ≡ y) → if (not t) n x ≡ if (not t) n y
within_same true n x y h = h refl
within_same false n x y h = refl

module _ (z : Shape) (number : ℕ) (c : Contents) (f : Fit z number c) where
  pub right_area : (wrong_length (length c.area) (area_length z)).applies ≡ false
  right_area = right_length _ _ f.area_long

  pub right_journal : (wrong_length (length c.journal) (journal_length z)).applies ≡ false
  right_journal = right_length _ _ f.journal_long

  pub right_header : (damaged_header z (header_of c.journal)).applies ≡ false
  right_header = rw (parts z number c f).header

  -- tests that pass, then the test whether the journal is open, of both, then what comes after it
  pub past_open : InRanges z → (start : List ℕ) (passed rest seen : List Refusal) → NoneApplies passed → first rest ≡ first seen
      → or_else (shape_refusal z) (first (passed ++ (not_open (header_of c.journal) ∷ rest)))
      ≡ first (Protocol.not_open (view_of z start c).journal ∷ seen)
  past_open ok start passed rest seen p e =
      or_else_pass (shape_refusal z) _ (accepted z ok) ∙ first_past passed (not_open (header_of c.journal) ∷ rest) p ∙ open_both
    where
      open_both : first (not_open (header_of c.journal) ∷ rest) ≡ first (Protocol.not_open (view_of z start c).journal ∷ seen)
      open_both = over_same z (state_of (header_of c.journal)) (first rest) (first seen) e
