-- A row's running power is its coefficient at every column. Assumes nothing.
use mathlib.Core.Path.{◌≡◌, refl, sym, ap, ◌∙◌}
use mathlib.Core.List.{List, []}
use Prim.Native.Nat.{ℕ, ◌+◌, ◌≤◌, ◌<◌}
use native.Mathlib.Nat.{zero-add}
use native.Mathlib.Numerals.{add-one}
use native.Mathlib.Omega.{arith}
use lib.ListN.{length, get_or, set}
use Rattle.base.proofs.Tables.{entry_more}
use Rattle.gf256.specs.Field.{mul, pow}
use Rattle.gf256.proofs.PowerLaws.{pow_suc}
use Rattle.code.specs.Rows.{coefficient, vandermonde}
use Rattle.code.specs.Filled.{Filled}
use Rattle.code.proofs.CoefficientTable.{coefficients, coefficient_at}

-- ---- column by column

-- before column c: the columns below c have their powers of m, and the running value is the power of c
pub record UpTo (m c power : ℕ) (q : List ℕ) : Type 0 where
  pub made : (i : ℕ) → i < c → get_or q i 0 ≡ pow m i
  pub current : power ≡ pow m c

pub up_to_start : (m : ℕ) (q : List ℕ) → UpTo m 0 1 q
unfolding pow
up_to_start m q = record { made = λ i l. absurd (omega arith); current = refl }

pub up_to_next : (m c power : ℕ) (q : List ℕ) {next : ℕ} → UpTo m c power q → c < length q → next ≡ mul m power
    → UpTo m (c + 1) next (set q c power)
up_to_next m c power q u room e =
    record {
      made = entry_more (pow m) c q u.made room u.current;
      current = e ∙ ap (mul m) u.current ∙ sym (ap (pow m) (add-one c) ∙ pow_suc m c);
    }

-- ---- rows

-- what `fill_powers` leaves: q starts with the coefficients of every row that has the multiplier m, whatever the rows are
abbrev pub Running : (m count : ℕ) → List ℕ → Type 0
Running m count q = (rows : ℕ → ℕ) (j c : ℕ) → rows j ≡ m → c < count → get_or q c 0 ≡ coefficient rows j c

pub running : (m count power : ℕ) (q : List ℕ) → UpTo m count power q → Running m count q
unfolding coefficient
running m count power q u rows j c e l = u.made c l ∙ ap (λ (x : ℕ). pow x c) (sym e)

-- row j of document 01's code
pub running_filled : (j k : ℕ) (q : List ℕ) → Running (j + 1) k q → Filled j 0 k q
running_filled j k q r = record { each = λ t l. r vandermonde j t refl l ∙ ap (coefficient vandermonde j) (sym (zero-add t)) }

-- the running power is what the table has
pub as_in_table : (j k : ℕ) (q : List ℕ) → j < 4 → k ≤ 19 → Running (j + 1) k q
    → (c : ℕ) → c < k → get_or q c 0 ≡ get_or (get_or coefficients j []) c 0
as_in_table j k q hj hk r c l = r vandermonde j c refl l ∙ sym (coefficient_at j c hj (omega arith))
