-- The choice between two values; tests: of two numbers, of every number below a bound, of every member of a list. Assumes nothing.
use Rattle.std.specs.Prelude.{Bool, true, false, ◌&&◌, ◌||◌, List, [], ◌∷◌, ℕ, zero, suc, eqb, ltb}

-- the first value where the test is true, else the second
abbrev pub if : {A : Type 0} → Bool → A → A → A
if true a b = a
if false a b = b

-- two numbers are the same; the first is below the second
unfoldable pub same : ℕ → ℕ → Bool
same x y = eqb x y

unfoldable pub below : ℕ → ℕ → Bool
below x y = ltb x y

-- two pairs of numbers are the same: x and w, y and e
unfoldable pub same2 : ℕ → ℕ → ℕ → ℕ → Bool
same2 x w y e = same x w && same y e

-- the first test only if the second
abbrev pub only_if : Bool → Bool → Bool
only_if a b = if a b true

-- every number below n passes
unfoldable pub every : ℕ → (ℕ → Bool) → Bool
every zero f = true
every (suc n) f = f n && every n f

-- some number below n passes
unfoldable pub some : ℕ → (ℕ → Bool) → Bool
some zero f = false
some (suc n) f = some n f || f n

-- every test of a list passes
abbrev pub all : List Bool → Bool
all [] = true
all (t ∷ ts) = t && all ts
