-- A block times a power of 2, by doublings. Assumes nothing.
use mathlib.Core.Path.{◌≡◌, refl, sym, ap, ◌∙◌}
use mathlib.Core.List.{List}
use Prim.Native.Nat.{ℕ, ◌+◌, ◌<◌}
use native.Mathlib.Numerals.{add-one}
use native.Mathlib.Omega.{arith}
use lib.ListN.{length, get_or}
use Rattle.base.specs.Folds.{table}
use Rattle.base.proofs.Tables.{table_same}
use Rattle.gf256.specs.Field.{xtime, mul, pow}
use Rattle.gf256.proofs.Product.{mul_xtime_l}
use Rattle.gf256.proofs.PowerLaws.{pow_lt, pow_suc}
use Rattle.passes.specs.Passes.{doubled, scaled, one, times}
use Rattle.passes.proofs.Times.{mul_two}
use Rattle.passes.proofs.Laws.{doubled_table, scaled_one, scaled_times}

pub power_start : 1 ≡ pow 2 0
unfolding pow
power_start = refl

double_power : (e : ℕ) → xtime (pow 2 e) ≡ pow 2 (e + 1)
double_power e = rw add-one (sym (pow_suc 2 e ∙ mul_two (pow 2 e) (pow_lt 2 e (omega arith))))

pub power_more : (e : ℕ) {p r : ℕ} → p ≡ pow 2 e → r ≡ xtime p → r ≡ pow 2 (e + 1)
power_more e h x = x ∙ ap xtime h ∙ double_power e

pub scaled_start : (d : List ℕ) → ((i : ℕ) → get_or d i 0 < 256) → d ≡ scaled (pow 2 0) d
unfolding pow
scaled_start d h = scaled_one d h

doubled_scaled : (p : ℕ) (d : List ℕ) → p < 256 → doubled (scaled p d) ≡ scaled (xtime p) d
unfolding scaled
doubled_scaled p d h =
    doubled_table (length d) (λ i. mul p (get_or d i 0))
    ∙ table_same (length d) (λ i. xtime (mul p (get_or d i 0))) (λ i. mul (xtime p) (get_or d i 0))
    (λ i l. sym (mul_xtime_l p (get_or d i 0) h))

pub scaled_more : (d : List ℕ) (e : ℕ) {x r : List ℕ} → x ≡ scaled (pow 2 e) d → r ≡ doubled x → r ≡ scaled (pow 2 (e + 1)) d
scaled_more d e h x =
    x ∙ ap doubled h ∙ doubled_scaled (pow 2 e) d (pow_lt 2 e (omega arith)) ∙ ap (λ (p : ℕ). scaled p d) (double_power e)

-- a block that was stored, and then scaled
pub stored_scaled : (b f p : ℕ) (src : List ℕ) (o : ℕ) {x r : List ℕ} → f ≡ p → x ≡ table b (one src o) → r ≡ scaled p x
    → r ≡ table b (times f (one src o))
stored_scaled b f p src o h e k = rw h (k ∙ ap (scaled p) e ∙ scaled_times p b (one src o))
