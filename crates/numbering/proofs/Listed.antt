-- A list of refusals whose numbers are 13 or less gives no number above 13, nor do the shape's refusals before it. Assumes nothing.
use mathlib.Core.Path.{◌≡◌, refl}
use mathlib.Core.Bool.{Bool, true, false, not, ◌&&◌}
use mathlib.Core.List.{List, [], ◌∷◌}
use Prim.Native.Nat.{ℕ, zero, suc, ◌-◌, ◌*◌, ◌≤◌}
use native.Mathlib.Omega.{arith}
use lib.Dec.{leb}
use borrow.Author.Tests.{leb-true}
use Rattle.base.specs.Tests.{if}
use Rattle.base.specs.Refusals.{Refusal, refuse, first, or_else}
use Rattle.base.proofs.Tests.{and_left, and_right}
use Rattle.layout.specs.declared.Shape.{Shape}
use Rattle.layout.specs.Ranges.{rows, within_ranges, shape_refusal}

-- each number is 13 or less: of a list that is written out, this computes, whatever the tests are
abbrev pub is_low : List Refusal → Bool
is_low [] = true
is_low (r ∷ rs) = leb r.refusal 13 && is_low rs

pub first_low : (rs : List Refusal) → is_low rs ≡ true → first rs ≤ 13
first_low [] low = omega arith
first_low (r ∷ rs) low =
    let own = leb-true r.refusal 13 (and_left (leb r.refusal 13) (is_low rs) low) in
    go r.applies own (first_low rs (and_right (leb r.refusal 13) (is_low rs) low))
  where
    go : (t : Bool) → r.refusal ≤ 13 → first rs ≤ 13 → if t r.refusal (first rs) ≤ 13
    go true own rest = own
    go false own rest = rest

-- ---- the shape's refusals, and then a call's own

shape_low : (z : Shape) → shape_refusal z ≤ 13
unfolding shape_refusal
shape_low z = first_low (refuse (not (within_ranges z)) 1 ∷ refuse (not (leb (z.s * (rows z - 1)) z.n)) 2 ∷ []) refl

either_low : (a b : ℕ) → a ≤ 13 → b ≤ 13 → or_else a b ≤ 13
either_low zero b p q = q
either_low (suc a) b p q = p

pub number_low : (z : Shape) (rs : List Refusal) → is_low rs ≡ true → or_else (shape_refusal z) (first rs) ≤ 13
number_low z rs low = either_low (shape_refusal z) (first rs) (shape_low z) (first_low rs low)
