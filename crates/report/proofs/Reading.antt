-- The numbers that are read: a step more, and the numbers of a line. Assumes nothing.
use mathlib.Core.Path.{◌≡◌, refl, ap, ◌∙◌}
use mathlib.Core.Bool.{Bool, true, false}
use mathlib.Core.List.{List, [], ◌∷◌, ◌++◌}
use Prim.Native.Nat.{ℕ, zero, suc, ◌+◌, ◌*◌, ◌/◌, ◌%◌, ◌<◌}
use native.Mathlib.Numerals.{add-one}
use native.Mathlib.Omega.{arith}
use lib.Dec.{ltb}
use lib.ListN.{length, drop, get_or}
use lib.Seq.{drop-cons, drop-length}
use borrow.Author.Tests.{ltb-true, ltb-false, lt-ltb, le-ltb, ne_eqb}
use Rattle.base.specs.Tests.{if}
use Rattle.report.specs.declared.numbers.Numbers.{Numbers}
use Rattle.report.specs.Text.{decimal_with, decimal, space, newline, line}
use Rattle.report.specs.Reading.{three, next_number, after_byte, after_bytes, numbers_of}

-- ---- the loop over a text

pub read_none : (text : List ℕ) → numbers_of text ≡ after_bytes (three 0 0 0) text
unfolding numbers_of
read_none text = refl

pub read_more : (text : List ℕ) (z : Numbers) (i : ℕ) → i < length text
    → after_bytes z (drop i text) ≡ after_bytes (after_byte z (get_or text i 0)) (drop (i + 1) text)
unfolding after_bytes
read_more text z i h = rw (drop-cons text i 0 h, add-one)

pub read_all : (text : List ℕ) (z : Numbers) (i : ℕ) → i ≡ length text → after_bytes z (drop i text) ≡ z
unfolding after_bytes
read_all text z i h = rw (h, drop-length text)

-- ---- a text after another

pub after_append : (z : Numbers) (a b : List ℕ) → after_bytes z (a ++ b) ≡ after_bytes (after_bytes z a) b
unfolding after_bytes
after_append z [] b = refl
after_append z (c ∷ cs) b = after_append (after_byte z c) cs b

-- ---- the numbers of a line

digit : (z : Numbers) (d : ℕ) → d < 10 → z.third < 1000 → after_byte z (48 + d) ≡ three z.first z.second (z.third * 10 + d)
unfolding after_byte
digit z d h l =
    rw (ne_eqb (48 + d) 32 (λ e. omega arith), le-ltb (48 + d) 48 (omega arith), lt-ltb z.third 1000 l)
    (ap (λ (x : ℕ). three z.first z.second (z.third * 10 + x)) (omega arith))

-- the digits of a number of at most 3 digits, where a number begins
number : (a b fuel m : ℕ) → m < fuel → m < 1000 → after_bytes (three a b 0) (decimal_with fuel m) ≡ three a b m
unfolding decimal_with after_bytes
number a b zero m h l = absurd (omega arith)
number a b (suc fuel) m h l = go (ltb m 10) refl (number a b fuel (m / 10))
  where
    go : (t : Bool) → ltb m 10 ≡ t → (m / 10 < fuel → m / 10 < 1000
        → after_bytes (three a b 0) (decimal_with fuel (m / 10)) ≡ three a b (m / 10))
        → after_bytes (three a b 0) (if t [] (decimal_with fuel (m / 10)) ++ (48 + m % 10) ∷ []) ≡ three a b m
    go true e r =
        let s = ltb-true m 10 e in digit (three a b 0) (m % 10) (omega arith) (omega arith) ∙ ap (λ (x : ℕ). three a b x) (omega arith)
    go false e r =
        let s = ltb-false m 10 e in
        after_append (three a b 0) (decimal_with fuel (m / 10)) ((48 + m % 10) ∷ []) ∙
        rw (r (omega arith) (omega arith)) (digit (three a b (m / 10)) (m % 10) (omega arith) (omega arith)
        ∙ ap (λ (x : ℕ). three a b x) (omega arith))

read_number : (a b m : ℕ) → m < 1000 → after_bytes (three a b 0) (decimal m) ≡ three a b m
unfolding decimal
read_number a b m l = number a b (suc m) m (omega arith) l

read_space : (z : Numbers) → after_bytes z space ≡ next_number z
unfolding after_bytes after_byte
read_space z = refl

read_newline : (z : Numbers) → after_bytes z newline ≡ z
unfolding after_bytes after_byte
read_newline z = refl

-- the numbers read from a line are its own
pub numbers_line : (n k s : ℕ) → n < 1000 → k < 1000 → s < 1000 → numbers_of (line n k s) ≡ three n k s
unfolding numbers_of line
numbers_line n k s a b c =
    simp after_append
    (rw (read_number 0 0 n a, read_space (three 0 0 n), read_number 0 n k b, read_space (three 0 n k), read_number n k s c, read_newline))
