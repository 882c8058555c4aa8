-- Begin's chain of refusals, tested in two parts; what it may rely on where nothing refuses, and what it answers and leaves. Assumes
-- nothing.
use mathlib.Core.Path.{◌≡◌, sym, ◌∙◌}
use mathlib.Core.Bool.{Bool, true, false, not}
use mathlib.Core.List.{List, [], ◌∷◌}
use Prim.Native.Nat.{ℕ, ◌^◌, ◌≤◌, ◌<◌}
use lib.ListN.{length}
use borrow.Author.Tests.{lt-ltb, le-ltb}
use Rattle.base.specs.Tests.{every}
use Rattle.base.specs.Refusals.{Refusal, refuse, first, or_else}
use Rattle.base.proofs.Refusals.{or_else_pass, in_parts}
use Rattle.answer.specs.declared.Refusal as Why
use Rattle.answer.specs.Answers.{refused, done}
use Rattle.answer.specs.Numbers.{number}
use Rattle.answer.proofs.Answers.{answered_refuses}
use Rattle.answer.proofs.Exits.{number_some, stops}
use Rattle.layout.specs.declared.Shape.{Shape}
use Rattle.layout.specs.Ranges.{shape_refusal}
use Rattle.layout.specs.Counts.{stripes}
use Rattle.journal.specs.Fresh.{fresh_journal}
use Rattle.growth.specs.Shared.{out_of_range, Outcome, store_refusals}
use Rattle.growth.specs.Begin.{stripe_holds, begin_refusal, begun_area, begin}
use Rattle.growth.proofs.Allowed.{BeginAllowed, begin_allowed}
use Rattle.lent.specs.Checks.{store_refusal}

-- ---- the refusals

-- after the shape and the lengths: the growth number, and the stripes
abbrev other_refusals : Shape → List ℕ → ℕ → List Refusal
other_refusals z area growth = out_of_range growth (2 ^ 28) ∷ refuse (not (every (stripes z) (stripe_holds z area))) 12 ∷ []

module _ (z : Shape) (area : List ℕ) (words growth : ℕ) where
  two_parts : or_else (store_refusal z (length area) words) (first (other_refusals z area growth)) ≡ begin_refusal z area words growth
  unfolding store_refusal begin_refusal
  two_parts = in_parts (shape_refusal z) (store_refusals z (length area) words) (other_refusals z area growth) (tt, (tt, tt))

  pub lengths_stop : (x : Why.Refusal) → number x ≡ store_refusal z (length area) words → number x ≡ begin_refusal z area words growth
  lengths_stop x refusal = stops x _ _ refusal ∙ two_parts

  module _ (none : 0 ≡ store_refusal z (length area) words) where
    lengths_pass : first (other_refusals z area growth) ≡ begin_refusal z area words growth
    lengths_pass = sym (or_else_pass _ _ (sym none)) ∙ two_parts

    pub number_stops : 2 ^ 28 ≤ growth → 5 ≡ begin_refusal z area words growth
    number_stops l = rw (le-ltb growth (2 ^ 28) l) at lengths_pass

    module _ (l : growth < 2 ^ 28) {hold : Bool} (verified : hold ≡ every (stripes z) (stripe_holds z area)) where
      pub stripe_stops : not hold ≡ true → 12 ≡ begin_refusal z area words growth
      stripe_stops e = rw (lt-ltb growth (2 ^ 28) l, ← verified, e) at lengths_pass

      pub nothing_stops : not hold ≡ false → 0 ≡ begin_refusal z area words growth
      nothing_stops e = rw (lt-ltb growth (2 ^ 28) l, ← verified, e) at lengths_pass

-- ---- the answer

module _ (z : Shape) (area journal : List ℕ) (growth : ℕ) where
  pub allowed : 0 ≡ begin_refusal z area (length journal) growth → BeginAllowed z (length area) (length journal) growth
  allowed none = begin_allowed z area (length journal) growth (sym none)

  pub refuses : (x : Why.Refusal) → number x ≡ begin_refusal z area (length journal) growth
      → ◌≡◌ {A = Outcome} (record { answer = refused (number x); area = area; journal = journal }) (begin z area journal growth)
  unfolding begin
  refuses x refusal = rw (← refusal, answered_refuses (number x) _ (number_some x))

  pub acts : {after book : List ℕ} → 0 ≡ begin_refusal z area (length journal) growth → after ≡ begun_area z area
      → book ≡ fresh_journal z growth
      → ◌≡◌ {A = Outcome} (record { answer = done; area = after; journal = book }) (begin z area journal growth)
  unfolding begin
  acts none zeroes writes = rw (zeroes, writes, ← none)
