-- A combination whose coefficients are powers is the first coefficient times the sum by Horner's rule. Assumes nothing.
use mathlib.Core.Path.{◌≡◌, refl, sym, ap, ap₂, ◌∙◌}
use mathlib.Core.List.{List}
use Prim.Native.Nat.{ℕ, ◌+◌, ◌-◌, ◌<◌}
use native.Mathlib.Nat.{zero-add}
use native.Mathlib.Omega.{arith}
use lib.Bits.{xor_zero_l}
use lib.ListN.{get_or}
use Rattle.base.specs.Folds.{table}
use Rattle.base.proofs.Tables.{table_at, table_same}
use Rattle.gf256.specs.Field.{mul, pow, xor_sum}
use Rattle.gf256.proofs.Product.{mul_lt, mul_one_l, mul_assoc}
use Rattle.gf256.proofs.PowerLaws.{pow_lt}
use Rattle.gf256.proofs.Sums.{xor_sum_same, xor_sum_lt, xor_sum_mul}
use Rattle.area.proofs.Blocks.{block_at}
use Rattle.passes.specs.Passes.{scaled, one, times}
use Rattle.passes.proofs.Laws.{scaled_table}
use Rattle.powers.specs.Powers.{column, power_byte, power_bytes, Multiplier, Powers}
use Rattle.powers.proofs.RatioLaws.{multiplier_byte}
use Rattle.combine.specs.Combination.{combination}
use Rattle.combine.specs.Columns.{columns_at, combined}
use Rattle.combine.proofs.Laws.{combined_is}

module _ (q at src : List ℕ) (n m : ℕ) (powers : Powers q n m) (hs : (k : ℕ) → get_or src k 0 < 256) where
  m_byte : m < 256
  m_byte = multiplier_byte powers.known

  column_lt : (c i : ℕ) → column at src c i < 256
  unfolding column
  column_lt c i = hs _

  -- one term
  term : (b c i : ℕ) → c < n → i < b → mul (get_or q 0 0) (mul (pow m c) (column at src (0 + c) (0 + i)))
      ≡ mul (get_or q c 0) (get_or (columns_at at src b c) i 0)
  unfolding column columns_at
  term b c i h l =
      rw (zero-add c, zero-add i)
      (sym (mul_assoc (get_or q 0 0) (pow m c) (get_or src (get_or at c 0 + i) 0) powers.byte (pow_lt m c m_byte) (hs _))
      ∙ ap₂ mul (sym (powers.each c h)) (sym (block_at src (get_or at c 0) b i l)))

  byte : (b i : ℕ) → i < b → mul (get_or q 0 0) (power_byte m at src n 0 (0 + i))
      ≡ xor_sum n (λ c. mul (get_or q c 0) (get_or (columns_at at src b c) i 0))
  unfolding power_byte
  byte b i l =
      xor_sum_mul (n - 0) (get_or q 0 0) (λ c. mul (pow m c) (column at src (0 + c) (0 + i)))
      ∙ xor_sum_same (n - 0) (λ c. mul (get_or q 0 0) (mul (pow m c) (column at src (0 + c) (0 + i))))
      (λ c. mul (get_or q c 0) (get_or (columns_at at src b c) i 0))
      (λ c h. term b c i (omega arith) l)
      ∙ ap (λ (k : ℕ). xor_sum k (λ c. mul (get_or q c 0) (get_or (columns_at at src b c) i 0))) (let e : n - 0 ≡ n = omega arith in e)

  byte_lt : (i : ℕ) → power_byte m at src n 0 i < 256
  unfolding power_byte
  byte_lt i =
      xor_sum_lt (n - 0) (λ c. mul (pow m c) (column at src (0 + c) i))
      (λ c h. mul_lt (pow m c) (column at src (0 + c) i) (pow_lt m c m_byte))

  pub powers_scaled : (b : ℕ) {x r : List ℕ} → x ≡ power_bytes m at src n 0 0 b → r ≡ scaled (get_or q 0 0) x → r ≡ combined b n q at src
  unfolding power_bytes combined combination
  powers_scaled b {x} {r} p e =
      e ∙ ap (scaled (get_or q 0 0)) p ∙ scaled_table (get_or q 0 0) b (λ i. power_byte m at src n 0 (0 + i))
      ∙ table_same b (λ i. mul (get_or q 0 0) (power_byte m at src n 0 (0 + i)))
      (λ i. xor_sum n (λ c. mul (get_or q c 0) (get_or (columns_at at src b c) i 0))) (λ i l. byte b i l)

  powers_once : (b : ℕ) {x : List ℕ} → get_or q 0 0 ≡ 1 → x ≡ power_bytes m at src n 0 0 b → x ≡ combined b n q at src
  unfolding power_bytes combined combination
  powers_once b {x} h p =
      p ∙ table_same b (λ i. power_byte m at src n 0 (0 + i))
      (λ i. xor_sum n (λ c. mul (get_or q c 0) (get_or (columns_at at src b c) i 0)))
      (λ i l. sym (mul_one_l (power_byte m at src n 0 (0 + i)) (byte_lt (0 + i)))
      ∙ ap (λ (y : ℕ). mul y (power_byte m at src n 0 (0 + i))) (sym h) ∙ byte b i l)

-- ---- a single column

pub single_column : (b n : ℕ) (q at src : List ℕ) {r : List ℕ} → n ≡ 1 → r ≡ table b (times (get_or q 0 0) (one src (get_or at 0 0)))
    → r ≡ combined b n q at src
unfolding combined combination columns_at xor_sum times one
single_column b n q at src h e =
    rw h
    (e ∙ table_same b (λ i. mul (get_or q 0 0) (get_or src (get_or at 0 0 + i) 0))
    (λ i. xor_sum 1 (λ c. mul (get_or q c 0) (get_or (columns_at at src b c) i 0)))
    (λ i l. ap (mul (get_or q 0 0)) (sym (block_at src (get_or at 0 0) b i l))
    ∙ sym (xor_zero_l (mul (get_or q 0 0) (get_or (columns_at at src b 0) i 0)))))

-- ---- the powers themselves as coefficients

table_powers : (n m : ℕ) → Multiplier m → 0 < n → Powers (table n (pow m)) n m
unfolding pow
table_powers n m k h =
    let first : get_or (table n (pow m)) 0 0 ≡ 1 = table_at n (pow m) 0 h in
    record {
      known = k;
      some = h;
      byte = rw first (omega arith);
      each = λ c l. table_at n (pow m) c l ∙ rw first (sym (mul_one_l (pow m c) (pow_lt m c (multiplier_byte k))));
    }

table_first : (n m : ℕ) → 0 < n → get_or (table n (pow m)) 0 0 ≡ 1
unfolding pow
table_first n m h = table_at n (pow m) 0 h

pub powers_alone : (at src : List ℕ) (n m b : ℕ) → Multiplier m → 0 < n → ((k : ℕ) → get_or src k 0 < 256)
    → power_bytes m at src n 0 0 b ≡ combination b n (pow m) (columns_at at src b)
powers_alone at src n m b k h hs =
    powers_once (table n (pow m)) at src n m (table_powers n m k h) hs b (table_first n m h) refl
    ∙ combined_is b n (table n (pow m)) at src (pow m) (λ c l. table_at n (pow m) c l)
