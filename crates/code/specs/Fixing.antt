-- FORMAT §15. Which columns of a stripe the present blocks fix: a matter of the rows' coefficients and of the losses alone, not of
-- contents. All is said of one byte of each block: block p of the stripe is a number, the columns 0 to k - 1, then the rows. co j c is the
-- coefficient of row j and column c. The loss byte of a block is 1 if it is lost and 0 if it is present. Assumes nothing.
use Rattle.std.specs.Prelude.{◌≡◌, List, ℕ, ◌-◌, ◌<◌, ltb, get_or}
use Rattle.base.specs.Tests.{if}
use Rattle.gf256.specs.Field.{mul, Bytes, xor_sum}
use Rattle.code.specs.Rows.{coefficient}

-- block p of the stripe that the data y encode
unfoldable pub encoded : (ℕ → ℕ → ℕ) → ℕ → (ℕ → ℕ) → ℕ → ℕ
encoded co k y p = if (ltb p k) (y p) (xor_sum k (λ c. mul (co (p - k) c) (y c)))

-- the data y agree with the stripe z: their encoding equals each of the n blocks that is present
pub record Matches (co : ℕ → ℕ → ℕ) (n k : ℕ) (losses : List ℕ) (z y : ℕ → ℕ) : Type 0 where
  pub bytes : Bytes y
  pub present : (p : ℕ) → p < n → get_or losses p 0 ≡ 0 → encoded co k y p ≡ z p

-- null data: every present block of their encoding is zero
abbrev pub Null : (ℕ → ℕ → ℕ) → ℕ → ℕ → List ℕ → (ℕ → ℕ) → Type 0
Null co n k losses y = Matches co n k losses (λ _. 0) y

-- the present blocks fix column c: it is zero in all null data
abbrev pub Fixes : (ℕ → ℕ → ℕ) → ℕ → ℕ → List ℕ → ℕ → Type 0
Fixes co n k losses c = (y : ℕ → ℕ) → Null co n k losses y → y c ≡ 0

-- the present blocks fix every column
abbrev pub FixesAll : (ℕ → ℕ) → ℕ → ℕ → List ℕ → Type 0
FixesAll m n k losses = (c : ℕ) → c < k → Fixes (coefficient m) n k losses c
