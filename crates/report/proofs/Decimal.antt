-- The digits of a number: one more, and how many. Assumes nothing.
use mathlib.Core.Path.{◌≡◌, refl, ap}
use mathlib.Core.Bool.{Bool, true, false}
use mathlib.Core.List.{List, [], ◌∷◌, ◌++◌}
use Prim.Native.Nat.{ℕ, zero, suc, ◌+◌, ◌*◌, ◌/◌, ◌%◌, ◌≤◌, ◌<◌}
use native.Mathlib.Decide.{dec_lt}
use native.Mathlib.Omega.{arith}
use lib.Dec.{ltb}
use lib.ListN.{length, length-append}
use borrow.Author.Tests.{ltb-false, lt-ltb, le-ltb}
use Rattle.base.specs.Tests.{if}
use Rattle.report.specs.Text.{decimal_with, decimal}

-- any bound above the number gives the same digits
bound_free : (f g m : ℕ) → m < f → m < g → decimal_with f m ≡ decimal_with g m
unfolding decimal_with
bound_free zero g m a b = absurd (omega arith)
bound_free (suc f) zero m a b = absurd (omega arith)
bound_free (suc f) (suc g) m a b = go (ltb m 10) refl (bound_free f g (m / 10))
  where
    go : (t : Bool) → ltb m 10 ≡ t → (m / 10 < f → m / 10 < g → decimal_with f (m / 10) ≡ decimal_with g (m / 10))
        → if t [] (decimal_with f (m / 10)) ++ (48 + m % 10) ∷ [] ≡ if t [] (decimal_with g (m / 10)) ++ (48 + m % 10) ∷ []
    go true e r = refl
    go false e r = let h = ltb-false m 10 e in ap (λ (l : List ℕ). l ++ (48 + m % 10) ∷ []) (r (omega arith) (omega arith))

-- a number below 10 is one digit; any other has those of m / 10 before its last
pub decimal_one : (m : ℕ) → m < 10 → decimal m ≡ (48 + m % 10) ∷ []
unfolding decimal decimal_with
decimal_one m h = rw (lt-ltb m 10 h)

pub decimal_more : (m : ℕ) → 10 ≤ m → decimal m ≡ decimal (m / 10) ++ (48 + m % 10) ∷ []
unfolding decimal decimal_with
decimal_more m h = rw (le-ltb m 10 h, bound_free m (suc (m / 10)) (m / 10) (omega arith) (omega arith))

-- ---- how many digits

length_one : (m : ℕ) → m < 10 → length (decimal m) ≤ 1
length_one m h = rw (decimal_one m h) (omega arith)

pub length_more : (m : ℕ) → 10 ≤ m → length (decimal m) ≡ length (decimal (m / 10)) + 1
length_more m h = rw (decimal_more m h) (length-append (decimal (m / 10)) ((48 + m % 10) ∷ []))

length_step : (b d : ℕ) → 1 ≤ d → ((m : ℕ) → m < b → length (decimal m) ≤ d) → (m : ℕ) → m < b * 10 → length (decimal m) ≤ d + 1
length_step b d p h m l = go (dec_lt m 10)
  where
    go : Dec (m < 10) → length (decimal m) ≤ d + 1
    go (yes s) = omega (arith, length_one m s)
    go (no s) = omega (arith, length_more m (omega arith), h (m / 10) (omega arith))

length_two : (m : ℕ) → m < 100 → length (decimal m) ≤ 2
length_two = length_step 10 1 (omega arith) length_one

pub length_three : (m : ℕ) → m < 1000 → length (decimal m) ≤ 3
length_three = length_step 100 2 (omega arith) length_two

length_four : (m : ℕ) → m < 10000 → length (decimal m) ≤ 4
length_four = length_step 1000 3 (omega arith) length_three

length_five : (m : ℕ) → m < 100000 → length (decimal m) ≤ 5
length_five = length_step 10000 4 (omega arith) length_four

pub length_six : (m : ℕ) → m < 1000000 → length (decimal m) ≤ 6
length_six = length_step 100000 5 (omega arith) length_five

-- all numbers of a line are short
pub line_short : (n k s : ℕ) → (n < 1000) × (k < 1000) × (s < 1000) → (length (decimal n) ≤ 3) × (length (decimal k) ≤ 3)
    × (length (decimal s) ≤ 3)
line_short n k s h = (length_three n h.0, length_three k h.1, length_three s h.2)
