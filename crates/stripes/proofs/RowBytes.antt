-- The rows of a stripe, byte by byte. Assumes nothing.
use mathlib.Core.Path.{◌≡◌, sym, ap, ◌∙◌}
use mathlib.Core.List.{List}
use Prim.Native.Nat.{ℕ, ◌+◌, ◌≤◌, ◌<◌}
use lib.ListN.{length, get_or}
use Rattle.base.proofs.Tables.{table_at}
use Rattle.gf256.specs.Field.{mul, xor_sum}
use Rattle.gf256.proofs.Sums.{xor_sum_same}
use Rattle.area.proofs.Blocks.{block_at}
use Rattle.combine.specs.Combination.{combination}
use Rattle.combine.specs.Columns.{columns_at}
use Rattle.code.specs.Rows.{coefficient, parity_row}
use Rattle.code.proofs.Laws.{length_parity_row}
use Rattle.stripes.specs.Stripes.{row_of, with_rows}
use Rattle.stripes.proofs.PutRuns.{Outside, length_puts, puts_out, puts_in, puts_are}

-- byte i of row j
unfoldable pub row_byte : (ℕ → ℕ) → List ℕ → ℕ → List ℕ → ℕ → ℕ → ℕ
row_byte m at k src j i = xor_sum k (λ c. mul (coefficient m j c) (get_or src (get_or at c 0 + i) 0))

pub row_byte_law : (m : ℕ → ℕ) (at : List ℕ) (b k : ℕ) (src : List ℕ) (j i : ℕ) → i < b
    → get_or (row_of m at b k src j) i 0 ≡ row_byte m at k src j i
unfolding parity_row combination columns_at row_byte
row_byte_law m at b k src j i l =
    table_at b _ i l ∙ xor_sum_same k _ _ (λ c u. ap (mul (coefficient m j c)) (block_at src (get_or at c 0) b i l))

-- it is made of byte i of each column
pub byte_same : (m : ℕ → ℕ) (at there : List ℕ) (k : ℕ) (src lent : List ℕ) (j i h : ℕ)
    → ((c : ℕ) → c < k → get_or src (get_or there c 0 + h) 0 ≡ get_or lent (get_or at c 0 + i) 0)
    → row_byte m there k src j h ≡ row_byte m at k lent j i
unfolding row_byte
byte_same m at there k src lent j i h same = xor_sum_same k _ _ (λ c u. ap (mul (coefficient m j c)) (same c u))

module _ (m : ℕ → ℕ) (at : List ℕ) (b k : ℕ) (lent : List ℕ) where
  size : (j : ℕ) → length (row_of m at b k lent j) ≡ b
  size j = length_parity_row m b k j (columns_at at lent b)

  pub length_rows : (r : ℕ) → length (with_rows m at b k r lent) ≡ length lent
  unfolding with_rows
  length_rows r = length_puts (λ j. get_or at (k + j) 0) (row_of m at b k lent) b size lent r

  -- a byte of no row
  pub rows_out : (r p : ℕ) → ((q : ℕ) → q < r → Outside b p (get_or at (k + q) 0))
      → get_or (with_rows m at b k r lent) p 0 ≡ get_or lent p 0
  unfolding with_rows
  rows_out r p h = puts_out (λ j. get_or at (k + j) 0) (row_of m at b k lent) b size lent r p h

  -- a byte of row j, and of no other
  pub rows_in : (r j i : ℕ) → j < r → i < b → get_or at (k + j) 0 + b ≤ length lent
      → ((q : ℕ) → q < r → (q ≡ j → ⊥) → Outside b (get_or at (k + j) 0 + i) (get_or at (k + q) 0))
      → get_or (with_rows m at b k r lent) (get_or at (k + j) 0 + i) 0 ≡ row_byte m at k lent j i
  unfolding with_rows
  rows_in r j i l u f h =
      puts_in (λ j. get_or at (k + j) 0) (row_of m at b k lent) b size lent r j i l u f h ∙ row_byte_law m at b k lent j i u

  -- an area with these bytes in the rows, and elsewhere as it was
  pub rows_are : (r : ℕ) (e : List ℕ) → ((q : ℕ) → q < r → get_or at (k + q) 0 + b ≤ length lent)
      → ((q i : ℕ) → q < r → i < b → get_or e (get_or at (k + q) 0 + i) 0 ≡ row_byte m at k lent q i)
      → (p : ℕ) → (((q : ℕ) → q < r → Outside b p (get_or at (k + q) 0)) → get_or e p 0 ≡ get_or lent p 0)
      → get_or e p 0 ≡ get_or (with_rows m at b k r lent) p 0
  unfolding with_rows
  rows_are r e f there p kept =
      puts_are (λ j. get_or at (k + j) 0) (row_of m at b k lent) b size lent r e f
      (λ q i l u. there q i l u ∙ sym (row_byte_law m at b k lent q i u)) p kept
