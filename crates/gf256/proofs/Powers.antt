-- Each element other than 0 is a power of 2; the product and the inverse by logarithms; no zero divisors. Assumes nothing.
use mathlib.Core.Path.{◌≡◌, refl, sym, ap, ap₂, ◌∙◌}
use mathlib.Core.Logic.{◌⊎◌, inl, inr}
use Prim.Native.Nat.{ℕ, suc, ◌+◌, ◌-◌, ◌<◌, ◌≤◌}
use native.Mathlib.Nat as N
use native.Mathlib.Decide.{ℕ_discrete}
use native.Mathlib.Omega.{arith}
use lib.ListN.{get_or}
use Rattle.gf256.specs.Field.{xtime, mul, pow}
use Rattle.gf256.specs.Logs.{inv, IsLog}
use Rattle.gf256.proofs.Product.{xtimes, mul_comm, mul_assoc, mul_one_l, mul_one_r, mul_zero_r}
use Rattle.gf256.proofs.PowerLaws.{pow_lt, pow_suc, pow_add, pow_mul, one_pow, pow_two}
use Rattle.gf256.proofs.TableRule.{logs, log_at}

-- ---- each element but 0 is a power of 2, and 2 has order 255

pub log_of : (a : ℕ) → 0 < a → a < 256 → IsLog a (get_or logs (a - 1) 0)
log_of a h₀ h =
    let hk : a - 1 < 255 = omega arith in
    let e : suc (a - 1) ≡ a = omega arith in
    rw e at (log_at (a - 1) hk)

pub order : pow 2 255 ≡ 1
unfolding xtimes xtime
order = pow_two 255

pub fermat : (a : ℕ) → 0 < a → a < 256 → pow a 255 ≡ 1
fermat a h₀ h =
    let i : ℕ = get_or logs (a - 1) 0 in
    ap (λ (x : ℕ). pow x 255) (sym (log_of a h₀ h).power) ∙ pow_mul 2 i 255 (omega arith) ∙ ap (pow 2) (N.mul_comm i 255)
    ∙ sym (pow_mul 2 255 i (omega arith)) ∙ ap (λ (x : ℕ). pow x i) order ∙ one_pow i

-- ---- the product by logarithms

pub exp_log_mul : (a b : ℕ) (i j : ℕ) → pow 2 i ≡ a → pow 2 j ≡ b → pow 2 (i + j) ≡ mul a b
exp_log_mul a b i j p q = pow_add 2 i j (omega arith) ∙ ap₂ mul p q

pub pow_255 : (n : ℕ) → pow 2 (255 + n) ≡ pow 2 n
pow_255 n = pow_add 2 255 n (omega arith) ∙ ap (λ (x : ℕ). mul x (pow 2 n)) order ∙ mul_one_l (pow 2 n) (pow_lt 2 n (omega arith))

pub exp_log_mul_255 : (a b : ℕ) (i j : ℕ) → pow 2 i ≡ a → pow 2 j ≡ b → 255 ≤ i + j → pow 2 (i + j - 255) ≡ mul a b
exp_log_mul_255 a b i j p q h =
    sym (pow_255 (i + j - 255)) ∙ ap (pow 2) (let e : 255 + (i + j - 255) ≡ i + j = omega arith in e) ∙ exp_log_mul a b i j p q

-- ---- inverses

pub inv_lt : (a : ℕ) → a < 256 → inv a < 256
unfolding inv
inv_lt a h = pow_lt a 254 h

pub mul_inv : (a : ℕ) → 0 < a → a < 256 → mul a (inv a) ≡ 1
unfolding inv
mul_inv a h₀ h = sym (pow_suc a 254) ∙ fermat a h₀ h

-- a factor that is not 0 can be taken away
pub inv_mul : (a b : ℕ) → 0 < a → a < 256 → b < 256 → mul (inv a) (mul a b) ≡ b
inv_mul a b h₀ ha hb =
    sym (mul_assoc (inv a) a b (inv_lt a ha) ha hb)
    ∙ ap (λ (x : ℕ). mul x b) (mul_comm (inv a) a (inv_lt a ha) ha ∙ mul_inv a h₀ ha) ∙ mul_one_l b hb

pub inv_unique : (a b : ℕ) → 0 < a → a < 256 → b < 256 → mul a b ≡ 1 → b ≡ inv a
inv_unique a b h₀ ha hb e = sym (inv_mul a b h₀ ha hb) ∙ ap (mul (inv a)) e ∙ mul_one_r (inv a)

pub no_zero_divisor : (a b : ℕ) → a < 256 → b < 256 → 0 < a → mul a b ≡ 0 → b ≡ 0
no_zero_divisor a b ha hb h₀ e = sym (inv_mul a b h₀ ha hb) ∙ ap (mul (inv a)) e ∙ mul_zero_r (inv a)

-- by logarithms
pub exp_inv : (a i : ℕ) → a < 256 → 0 < a → pow 2 i ≡ a → i ≤ 255 → pow 2 (255 - i) ≡ inv a
exp_inv a i ha h₀ p h =
    inv_unique a (pow 2 (255 - i)) h₀ ha (pow_lt 2 (255 - i) (omega arith))
    (sym (exp_log_mul a (pow 2 (255 - i)) i (255 - i) p refl) ∙ ap (pow 2) (let e : i + (255 - i) ≡ 255 = omega arith in e) ∙ order)

pub exp_inv_zero : (a i : ℕ) → a < 256 → 0 < a → pow 2 i ≡ a → i ≡ 0 → pow 2 0 ≡ inv a
exp_inv_zero a i ha h₀ p e =
    sym (pow_255 0) ∙ ap (pow 2) (let q : 255 + 0 ≡ 255 - i = omega arith in q) ∙ exp_inv a i ha h₀ p (omega arith)

pub zero_product : (a b : ℕ) → a < 256 → b < 256 → mul a b ≡ 0 → (a ≡ 0) ⊎ (b ≡ 0)
zero_product a b ha hb e =
    elim (ℕ_discrete a 0) [ yes z ↦ inl z | no n ↦ inr (no_zero_divisor a b ha hb (omega arith) e) ]
