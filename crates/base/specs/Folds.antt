-- What is made over a range of numbers: sums, runs of steps, lists; and which numbers pass a test. Assumes nothing.
use Rattle.std.specs.Prelude.{Bool, true, false, List, [], ◌∷◌, ◌++◌, ℕ, zero, suc, ◌+◌}
use Rattle.base.specs.Tests.{if, some}

-- f 0 + f 1 + .. + f (n - 1)
unfoldable pub sum : ℕ → (ℕ → ℕ) → ℕ
sum zero f = 0
sum (suc n) f = sum n f + f n

-- 1 where the test is true, else 0
abbrev pub indicator : Bool → ℕ
indicator true = 1
indicator false = 0

-- how many pairs (w, e), w below p and e below n, are marked
unfoldable pub total : ℕ → ℕ → (ℕ → ℕ → Bool) → ℕ
total p n mark = sum p (λ w. sum n (λ e. indicator (mark w e)))

-- ---- runs and lists

-- step p, then step (p + 1), .. n of them
unfoldable pub run : {A : Type 0} → (ℕ → A → A) → ℕ → ℕ → A → A
run step p zero a = a
run step p (suc n) a = step (p + n) (run step p n a)

-- f 0, f 1, .. f (n - 1)
unfoldable pub table : ℕ → (ℕ → ℕ) → List ℕ
table zero f = []
table (suc n) f = f 0 ∷ table n (λ i. f (suc i))

-- ---- the numbers that pass a test

-- those of a, a + 1, .. a + m - 1 that pass, by rising size
unfoldable pub filter_range : (ℕ → Bool) → ℕ → ℕ → List ℕ
filter_range test a zero = []
filter_range test a (suc m) = filter_range test a m ++ if (test (a + m)) ((a + m) ∷ []) []

-- how many of them pass
unfoldable pub count_range : (ℕ → Bool) → ℕ → ℕ → ℕ
count_range test a m = sum m (λ x. indicator (test (a + x)))

-- the first number below n that passes; n where none does
unfoldable pub find : ℕ → (ℕ → Bool) → ℕ
find zero test = zero
find (suc n) test = if (some n test) (find n test) (if (test n) n (suc n))
