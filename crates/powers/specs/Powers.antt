-- Sums of columns in which each coefficient is so many times the one before it. Only the kernel speaks of these. Assumes nothing.
use Rattle.std.specs.Prelude.{◌≡◌, List, ℕ, ◌+◌, ◌-◌, ◌≤◌, ◌<◌, length, get_or}
use Rattle.base.specs.Folds.{table}
use Rattle.gf256.specs.Field.{mul, pow, xor_sum}

-- byte i of column c: the columns are the blocks of src at the offsets in `at`
unfoldable pub column : List ℕ → List ℕ → ℕ → ℕ → ℕ
column at src c i = get_or src (get_or at c 0 + i) 0

-- byte i of the sum of the columns c to n - 1, column c + t times the power t of m
unfoldable pub power_byte : ℕ → List ℕ → List ℕ → ℕ → ℕ → ℕ → ℕ
power_byte m at src n c i = xor_sum (n - c) (λ t. mul (pow m t) (column at src (c + t) i))

-- b bytes of that sum, from byte x on
unfoldable pub power_bytes : ℕ → List ℕ → List ℕ → ℕ → ℕ → ℕ → ℕ → List ℕ
power_bytes m at src n c x b = table b (λ i. power_byte m at src n c (x + i))

-- src has the first e bytes of each of the n columns, at least one and at most 20
pub record Columns (at : List ℕ) (n e : ℕ) (src : List ℕ) : Type 0 where
  pub some : 0 < n
  pub count : n ≤ 20
  pub fits : (c : ℕ) → c < n → get_or at c 0 + e ≤ length src

-- the multipliers that there is a step for
pub data Multiplier : ℕ → Type 0 where
  once : Multiplier 1
  twice : Multiplier 2
  threefold : Multiplier 3
  fourfold : Multiplier 4
  eightfold : Multiplier 8

-- each of the n coefficients is m times the one before it
pub record Powers (q : List ℕ) (n m : ℕ) : Type 0 where
  pub known : Multiplier m
  pub some : 0 < n
  pub byte : get_or q 0 0 < 256
  pub each : (c : ℕ) → c < n → get_or q c 0 ≡ mul (get_or q 0 0) (pow m c)
