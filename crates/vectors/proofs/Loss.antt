-- E8: two data sets agree with what is left of the stripe. Assumes nothing.
use mathlib.Core.Path.{◌≡◌, refl, ap}
use mathlib.Core.List.{List, [], ◌∷◌}
use mathlib.Core.Bool.{Bool, true}
use Prim.Native.Nat.{ℕ, zero, suc, ◌*◌, ◌<◌}
use native.Mathlib.Omega.{arith}
use lib.Dec.{eqb}
use lib.ListN.{length, get_or}
use borrow.Author.Tests.{eq-eqb}
use Rattle.base.specs.Tests.{if, every}
use Rattle.base.specs.Folds.{table}
use Rattle.base.proofs.Tests.{every_at}
use Rattle.gf256.specs.Field.{xtime, mul_bits, mul, pow, xor_sum}
use Rattle.area.specs.Area.{block, same_bytes, slot}
use Rattle.area.proofs.Blocks.{same_bytes_eq}
use Rattle.combine.specs.Combination.{combination}
use Rattle.code.specs.Rows.{coefficient, parity_row}
use Rattle.code.specs.Agreement.{stripe_block, Agrees}
use Rattle.recovery.specs.RebuildAnswer.{RebuildAnswer}
use Rattle.recovery.specs.RebuildAnswer.{Refused}
use Rattle.recovery.specs.Rebuild.{is_flag, rebuild_refusal, Two, Rebuilds, several, stripe_multiplier}
use Rattle.recovery.proofs.Determined.{determined}
use Rattle.vectors.specs.Examples.{stripe7, losses8}

-- block p is lost, or the same in the stripe and in the encoding of the data
fits : List ℕ → ℕ → Bool
fits d p = if (eqb (get_or losses8 p 0) 0) (same_bytes (slot stripe7 1 p) (stripe_block stripe_multiplier 1 4 d p)) true

-- data whose blocks all fit agree
fits_agrees : (d : List ℕ) → length d ≡ 4 * 1 → ((i : ℕ) → get_or d i 0 < 256) → every 7 (fits d) ≡ true
    → Agrees stripe_multiplier 7 4 1 losses8 stripe7 d
unfolding fits
fits_agrees d size bytes all =
    record {
      size = size;
      bytes = bytes;
      present =
          λ p hp e. same_bytes_eq (slot stripe7 1 p) (stripe_block stripe_multiplier 1 4 d p) (at p e (every_at 7 (fits d) all p hp));
    }
  where
    at : (p : ℕ) → get_or losses8 p 0 ≡ 0
        → if (eqb (get_or losses8 p 0) 0) (same_bytes (slot stripe7 1 p) (stripe_block stripe_multiplier 1 4 d p)) true ≡ true
        → same_bytes (slot stripe7 1 p) (stripe_block stripe_multiplier 1 4 d p) ≡ true
    at p e t = rw (eq-eqb (get_or losses8 p 0) 0 e) at t

-- the data of E7, and zeros
abbrev one : List ℕ
one = 0x06 ∷ 0x07 ∷ 0x00 ∷ 0x01 ∷ []

abbrev none : List ℕ
none = 0x00 ∷ 0x00 ∷ 0x00 ∷ 0x00 ∷ []

both_agree : Two stripe_multiplier 7 4 1 losses8 stripe7
unfolding fits every same_bytes slot block table stripe_block parity_row combination coefficient xor_sum mul mul_bits xtime pow
both_agree =
    record {
      one = one;
      other = none;
      one_agrees = fits_agrees one refl one_bytes refl;
      other_agrees = fits_agrees none refl none_bytes refl;
      differ = λ e. (let z : ◌≡◌ {A = ℕ} 6 0 = ap (λ (l : List ℕ). get_or l 0 0) e in omega arith);
    }
  where
    one_bytes : (i : ℕ) → get_or one i 0 < 256
    one_bytes zero = omega arith
    one_bytes (suc zero) = omega arith
    one_bytes (suc (suc zero)) = omega arith
    one_bytes (suc (suc (suc zero))) = omega arith
    one_bytes (suc (suc (suc (suc i)))) = omega arith

    none_bytes : (i : ℕ) → get_or none i 0 < 256
    none_bytes zero = omega arith
    none_bytes (suc zero) = omega arith
    none_bytes (suc (suc zero)) = omega arith
    none_bytes (suc (suc (suc zero))) = omega arith
    none_bytes (suc (suc (suc (suc i)))) = omega arith

pub eleven : Rebuilds stripe_multiplier 7 4 1 losses8 stripe7 (Refused 11) stripe7
unfolding rebuild_refusal every is_flag
eleven = several refl both_agree

pub only_eleven : (a : RebuildAnswer) (out : List ℕ) → Rebuilds stripe_multiplier 7 4 1 losses8 stripe7 a out
    → (a ≡ Refused 11) × (out ≡ stripe7)
only_eleven a out r = determined stripe_multiplier 7 4 1 losses8 stripe7 a (Refused 11) out stripe7 r eleven
