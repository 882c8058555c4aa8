-- At most four equations over at most twenty places, each place of which is known or unknown, and their reduction by rows. A
-- matrix is a list of 80 bytes, row by row: row j says that the sum over the places p of its factor at p times the value at p
-- is 0. Assumes nothing.
use Rattle.std.specs.Prelude.{◌≡◌, List, Bool, Option, Some, None, ◌&&◌, ℕ, zero, suc, ◌+◌, ◌-◌, ◌*◌, ◌/◌, ◌%◌, ◌<◌, ◌≤◌, eqb, ltb, get_or}
use Rattle.base.specs.Tests.{if}
use Rattle.base.specs.Folds.{table, run}
use Rattle.gf256.specs.Field.{◌⊕◌, mul, xor_sum}
use Rattle.gf256.specs.Logs.{inv}
use Rattle.area.specs.Area.{put}

-- the factor of row j at place p
unfoldable pub entry : List ℕ → ℕ → ℕ → ℕ
entry w j p = get_or w (j * 20 + p) 0

-- the sum over n places of a factor times the value there
unfoldable pub weighted : ℕ → (ℕ → ℕ) → (ℕ → ℕ) → ℕ
weighted n u y = xor_sum n (λ p. mul (u p) (y p))

-- a number counted from 1; 0 where there is none
abbrev pub from_one : Option ℕ → ℕ
from_one None = 0
from_one (Some x) = x + 1

-- one more than the last number below n that passes the test; 0 where none does
unfoldable pub last_below : (ℕ → Bool) → ℕ → ℕ
last_below f zero = 0
last_below f (suc n) = if (f n) (suc n) (last_below f n)

-- place p is unknown and row i has a factor there
unfoldable pub has_unknown : (ℕ → Bool) → List ℕ → ℕ → ℕ → Bool
has_unknown unknown w i p = unknown p && ltb 0 (entry w i p)

-- row i's pivot, counted from 1: its last unknown place, of the first k; 0 where it has none
unfoldable pub pivot_of : (ℕ → Bool) → ℕ → List ℕ → ℕ → ℕ
pivot_of unknown k w i = last_below (has_unknown unknown w i) k

-- row i times v
unfoldable pub scaled_row : List ℕ → ℕ → ℕ → List ℕ
scaled_row w v i = table 20 (λ p. mul v (entry w i p))

-- the matrix with v times u added to row j
unfoldable pub with_added : List ℕ → ℕ → ℕ → List ℕ → List ℕ
with_added m j v u = put m (j * 20) (table 20 (λ p. entry m j p ⊕ mul v (get_or u p 0)))

-- row i made 1 at place q, and taken from the other rows as often as makes them 0 there
unfoldable pub pivot_entry : List ℕ → ℕ → ℕ → ℕ → ℕ → ℕ
pivot_entry w i q j p =
    if (eqb j i) (mul (inv (entry w i q)) (entry w i p))
    (entry w j p ⊕ mul (entry w j q) (mul (inv (entry w i q)) (entry w i p)))

unfoldable pub pivoted : List ℕ → ℕ → ℕ → List ℕ
pivoted w i q = table 80 (λ a. pivot_entry w i q (a / 20) (a % 20))

-- the rows of m before j are those of the pivot step, the others those of w
pub record PivotedTo (w : List ℕ) (i q j : ℕ) (m : List ℕ) : Type 0 where
  pub before : (o p : ℕ) → o < j → p < 20 → entry m o p ≡ pivot_entry w i q o p
  pub after : (o p : ℕ) → j ≤ o → o < 4 → p < 20 → entry m o p ≡ entry w o p

-- row i reduced by its pivot, if it has one
unfoldable pub reduce_step : (ℕ → Bool) → ℕ → ℕ → List ℕ → List ℕ
reduce_step unknown k i w = if (ltb 0 (pivot_of unknown k w i)) (pivoted w i (pivot_of unknown k w i - 1)) w

-- all four rows reduced, one after the other
unfoldable pub reduced : (ℕ → Bool) → ℕ → List ℕ → List ℕ
reduced unknown k w = run (reduce_step unknown k) 0 4 w
