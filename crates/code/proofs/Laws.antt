-- Growth of a row, and rows made of coefficients in an array. Assumes nothing.
use mathlib.Core.Path.{◌≡◌, refl, ap, ◌∙◌}
use mathlib.Core.List.{List, ◌++◌}
use Prim.Native.Nat.{ℕ, ◌+◌, ◌≤◌, ◌<◌}
use native.Mathlib.Nat.{zero-add}
use lib.ListN.{length, take}
use Rattle.area.specs.Area.{block}
use Rattle.area.specs.Scratch.{blank}
use Rattle.area.proofs.Sums.{xor_blocks_twice}
use Rattle.area.proofs.Lending.{part_block}
use Rattle.combine.specs.Columns.{columns_at, combined}
use Rattle.combine.proofs.Laws.{length_combination, combination_same, combination_split, combined_is}
use Rattle.code.specs.Rows.{coefficient, parity_row, delta, vandermonde}
use Rattle.code.specs.Growth.{GrowthLaws}
use Rattle.code.specs.Filled.{Filled}

pub length_parity_row : (m : ℕ → ℕ) (b k j : ℕ) (column : ℕ → List ℕ) → length (parity_row m b k j column) ≡ b
unfolding parity_row
length_parity_row m b k j column = length_combination b k _ column

pub length_delta : (m : ℕ → ℕ) (b k s j : ℕ) (new : ℕ → List ℕ) → length (delta m b k s j new) ≡ b
unfolding delta
length_delta m b k s j new = length_combination b s _ new

-- the same columns
pub parity_row_same : (m : ℕ → ℕ) (b k j : ℕ) (x y : ℕ → List ℕ) → ((c : ℕ) → c < k → x c ≡ y c)
    → parity_row m b k j x ≡ parity_row m b k j y
unfolding parity_row
parity_row_same m b k j x y h = combination_same b k _ _ x y (λ c l. refl) h

pub delta_same : (m : ℕ → ℕ) (b k s j : ℕ) (x y : ℕ → List ℕ) → ((t : ℕ) → t < s → x t ≡ y t) → delta m b k s j x ≡ delta m b k s j y
unfolding delta
delta_same m b k s j x y h = combination_same b s _ _ x y (λ t l. refl) h

pub growth_laws : (m : ℕ → ℕ) → GrowthLaws m
unfolding parity_row delta
growth_laws m =
    record {
      grown = λ b k s j column. combination_split b k s (coefficient m j) column;
      twice = λ b k s j row new h. xor_blocks_twice b row (delta m b k s j new) h;
    }

-- ---- by the coefficients in an array

pub filled_row : (b k j : ℕ) (q at src : List ℕ) → Filled j 0 k q
    → combined b k q at src ≡ parity_row vandermonde b k j (columns_at at src b)
unfolding parity_row
filled_row b k j q at src f =
    combined_is b k q at src (coefficient vandermonde j) (λ c l. f.each c l ∙ ap (coefficient vandermonde j) (zero-add c))

pub filled_delta : (b k s j : ℕ) (q at src : List ℕ) → Filled j k s q
    → combined b s q at src ≡ delta vandermonde b k s j (columns_at at src b)
unfolding delta
filled_delta b k s j q at src f = combined_is b s q at src (λ t. coefficient vandermonde j (k + t)) (λ t l. f.each t l)

-- ---- a row or a delta made in the first b bytes of a scratch block of w

module _ (w b k j : ℕ) (at src : List ℕ) {z r : List ℕ} (made : z ≡ blank w) (small : b ≤ w)
    (e : r ≡ parity_row vandermonde (length (take b z)) k j (columns_at at src (length (take b z)))) where
  abbrev row : ℕ → List ℕ
  row m = parity_row vandermonde m k j (columns_at at src m)

  row_size : (m : ℕ) → length (row m) ≡ m
  row_size m = length_parity_row vandermonde m k j (columns_at at src m)

  pub row_block : (l : List ℕ) → block (r ++ l) 0 b ≡ parity_row vandermonde b k j (columns_at at src b)
  row_block l = part_block row row_size w b made small e l

module _ (w b k s j : ℕ) (at src : List ℕ) {z r : List ℕ} (made : z ≡ blank w) (small : b ≤ w)
    (e : r ≡ delta vandermonde (length (take b z)) k s j (columns_at at src (length (take b z)))) where
  abbrev change : ℕ → List ℕ
  change m = delta vandermonde m k s j (columns_at at src m)

  change_size : (m : ℕ) → length (change m) ≡ m
  change_size m = length_delta vandermonde m k s j (columns_at at src m)

  pub delta_block : (l : List ℕ) → block (r ++ l) 0 b ≡ delta vandermonde b k s j (columns_at at src b)
  delta_block l = part_block change change_size w b made small e l
