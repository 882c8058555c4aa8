-- Three numbers are read from a text by going over its bytes once, whatever the text is. An inner matter of the code: what is
-- claimed of the program, in Text and Reports, does not speak of it. Assumes nothing.
use Rattle.std.specs.Prelude.{List, [], ◌∷◌, ℕ, ◌+◌, ◌*◌, ◌-◌, ltb, eqb}
use Rattle.base.specs.Tests.{if}
use Rattle.report.specs.declared.numbers.Numbers.{Numbers}

abbrev pub three : ℕ → ℕ → ℕ → Numbers
three a b c = record { first = a; second = b; third = c }

-- a space: the numbers move up, and a new one begins
abbrev pub next_number : Numbers → Numbers
next_number z = three z.second z.third 0

-- a digit: the last number gets one digit more
abbrev pub next_digit : Numbers → ℕ → Numbers
next_digit z c = three z.first z.second (z.third * 10 + (c - 48))

-- the numbers after one byte more; what is below the digits, or follows a number that has 4 already, is passed over
unfoldable pub after_byte : Numbers → ℕ → Numbers
after_byte z c = if (eqb c 32) (next_number z) (if (ltb c 48) z (if (ltb z.third 1000) (next_digit z c) z))

unfoldable pub after_bytes : Numbers → List ℕ → Numbers
after_bytes z [] = z
after_bytes z (c ∷ cs) = after_bytes (after_byte z c) cs

unfoldable pub numbers_of : List ℕ → Numbers
numbers_of text = after_bytes (three 0 0 0) text
