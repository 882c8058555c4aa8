-- What one pass over a block adds to it: only the kernel's inner functions speak of these. Assumes nothing.
use Rattle.std.specs.Prelude.{List, ℕ, ◌+◌, length, get_or}
use Rattle.base.specs.Folds.{table}
use Rattle.gf256.specs.Field.{◌⊕◌, xtime, mul}

-- a block doubled; a block with f added
unfoldable pub doubled : List ℕ → List ℕ
doubled d = table (length d) (λ i. xtime (get_or d i 0))

unfoldable pub plus : List ℕ → (ℕ → ℕ) → List ℕ
plus d f = table (length d) (λ i. get_or d i 0 ⊕ f i)

-- m times each byte that f gives; a block times m
unfoldable pub times : ℕ → (ℕ → ℕ) → ℕ → ℕ
times m f i = mul m (f i)

unfoldable pub scaled : ℕ → List ℕ → List ℕ
scaled m d = table (length d) (λ i. mul m (get_or d i 0))

-- byte i of the block of src at o, of the sum of two blocks, of three and of four
unfoldable pub one : List ℕ → ℕ → ℕ → ℕ
one src o i = get_or src (o + i) 0

unfoldable pub two : List ℕ → ℕ → ℕ → ℕ → ℕ
two src o p i = get_or src (o + i) 0 ⊕ get_or src (p + i) 0

unfoldable pub three : List ℕ → ℕ → ℕ → ℕ → ℕ → ℕ
three src o p u i = (get_or src (o + i) 0 ⊕ get_or src (p + i) 0) ⊕ get_or src (u + i) 0

unfoldable pub four : List ℕ → ℕ → ℕ → ℕ → ℕ → ℕ → ℕ
four src o p u v i = (get_or src (o + i) 0 ⊕ get_or src (p + i) 0) ⊕ (get_or src (u + i) 0 ⊕ get_or src (v + i) 0)
