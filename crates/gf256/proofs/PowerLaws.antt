-- Laws of powers. Assumes nothing.
use mathlib.Core.Path.{◌≡◌, refl, sym, ap, ◌∙◌}
use Prim.Native.Nat.{ℕ, zero, suc, ◌+◌, ◌*◌, ◌<◌}
use native.Mathlib.Nat as N
use native.Mathlib.Omega.{arith}
use Rattle.gf256.specs.Field.{xtime, mul, pow}
use Rattle.gf256.proofs.Product.{xtimes, mul_lt, mul_comm, mul_assoc, mul_one_l, mul_two_r}

pub pow_lt : (x n : ℕ) → x < 256 → pow x n < 256
unfolding pow
pow_lt x zero h = omega arith
pow_lt x (suc n) h = mul_lt x (pow x n) h

pub pow_suc : (x n : ℕ) → pow x (suc n) ≡ mul x (pow x n)
unfolding pow
pow_suc x n = refl

pub pow_add : (x i j : ℕ) → x < 256 → pow x (i + j) ≡ mul (pow x i) (pow x j)
unfolding pow
pow_add x zero j h = ap (pow x) (N.zero-add j) ∙ sym (mul_one_l (pow x j) (pow_lt x j h))
pow_add x (suc i) j h =
    ap (pow x) (N.suc-add i j) ∙ ap (mul x) (pow_add x i j h)
    ∙ sym (mul_assoc x (pow x i) (pow x j) h (pow_lt x i h) (pow_lt x j h))

pub pow_mul : (x i j : ℕ) → x < 256 → pow (pow x i) j ≡ pow x (i * j)
unfolding pow
pow_mul x i zero h = sym (ap (pow x) (N.mul-zero i))
pow_mul x i (suc j) h =
    ap (mul (pow x i)) (pow_mul x i j h) ∙ sym (pow_add x i (i * j) h)
    ∙ ap (pow x) (let e : i + i * j ≡ i * suc j = omega (arith, N.mul-suc i j) in e)

pub one_pow : (n : ℕ) → pow 1 n ≡ 1
unfolding pow
one_pow zero = refl
one_pow (suc n) = mul_one_l (pow 1 n) (pow_lt 1 n (omega arith)) ∙ one_pow n

pub pow_two : (n : ℕ) → pow 2 n ≡ xtimes n 1
unfolding pow xtimes
pow_two zero = refl
pow_two (suc n) =
    mul_comm 2 (pow 2 n) (omega arith) (pow_lt 2 n (omega arith)) ∙ mul_two_r (pow 2 n) ∙ ap xtime (pow_two n)
