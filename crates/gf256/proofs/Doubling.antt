-- Doubling, as the code does it, and the product bit by bit from the top. Assumes nothing.
use mathlib.Core.Path.{◌≡◌, refl, sym, ap, ap₂, ◌∙◌}
use Prim.Native.Nat.{ℕ, zero, suc, ◌+◌, ◌*◌, ◌/◌, ◌%◌, ◌^◌, ◌<◌}
use native.Mathlib.Nat as N
use native.Mathlib.Omega.{arith}
use lib.Bits.{bit_xor, xor_zero_r, xor_block, xor_shifted}
use Rattle.gf256.specs.Field.{◌⊕◌, polynomial, bit_times, xtime, mul, xor_sum}
use Rattle.gf256.proofs.Product.{xtime_xor, mul_xor_l, mul_xtime_l, mul_zero_l, mul_one_l}
use Rattle.gf256.proofs.Sums.{xor_sum_lt}

-- the doubling of the code
pub double_xtime : (x : ℕ) → x < 256 → (x % 128 * 2) ⊕ (x / 128 * 29) ≡ xtime x
unfolding xtime
double_xtime x h = go (x / 128) refl
  where
    go : (t : ℕ) → x / 128 ≡ t → (x % 128 * 2) ⊕ (x / 128 * 29) ≡ (x * 2) ⊕ bit_times (x / 128) polynomial
    go zero e = let r : x % 128 ≡ x = omega arith in rw (e, r)
    go (suc zero) e =
        let r : ℕ = x % 128 * 2 in
        let hr : r < 256 = omega arith in
        let e₁ : x * 2 ≡ 256 + r = omega arith in
        let e₂ : (256 + r) ⊕ polynomial ≡ r ⊕ 29 = xor_block 8 1 1 r 29 hr (omega arith) ∙ N.zero-add (r ⊕ 29) in
        rw (e, e₁) (sym e₂)
    go (suc (suc t)) e = omega arith

-- an element below 128 doubles by a shift
pub shift : (a : ℕ) → a < 128 → xtime a ≡ a * 2
unfolding xtime
shift a h = let e : a / 128 ≡ 0 = omega arith in rw (e, xor_zero_r)

-- a number is its half, doubled, and its lowest bit
split : (a : ℕ) → a < 256 → a ≡ xtime (a / 2) ⊕ (a % 2)
split a h =
    let e : bit_xor (a / 2 * 2 ^ 1) (a % 2) ≡ a / 2 * 2 ^ 1 + a % 2 = xor_shifted (a / 2) 1 (a % 2) (omega arith) in
    let f : a / 2 * 2 ^ 1 + a % 2 ≡ a = omega arith in
    sym (ap (λ (y : ℕ). y ⊕ (a % 2)) (shift (a / 2) (omega arith)) ∙ e ∙ f)

mul_digit : (e x : ℕ) → e < 2 → x < 256 → mul e x ≡ bit_times e x
mul_digit zero x h hx = mul_zero_l x hx
mul_digit (suc zero) x h hx = mul_one_l x hx
mul_digit (suc (suc e)) x h hx = omega arith

-- one bit more of a factor
pub mul_horner : (a x : ℕ) → a < 256 → x < 256 → mul a x ≡ xtime (mul (a / 2) x) ⊕ bit_times (a % 2) x
mul_horner a x ha hx =
    let h2 : xtime (a / 2) < 256 = rw (shift (a / 2) (omega arith)) (omega arith) in
    ap (λ (y : ℕ). mul y x) (split a ha)
    ∙ mul_xor_l (xtime (a / 2)) (a % 2) x h2 (omega arith)
    ∙ ap₂ bit_xor (mul_xtime_l (a / 2) x (omega arith)) (mul_digit (a % 2) x (omega arith) hx)

-- a sum, doubled
pub xor_sum_xtime : (n : ℕ) (f : ℕ → ℕ) → ((i : ℕ) → i < n → f i < 256) → xtime (xor_sum n f) ≡ xor_sum n (λ i. xtime (f i))
unfolding xor_sum
xor_sum_xtime zero f h = shift 0 (omega arith)
xor_sum_xtime (suc n) f h =
    xtime_xor (xor_sum n f) (f n) (xor_sum_lt n f (λ i l. h i (omega arith))) (h n (omega arith))
    ∙ ap (λ (y : ℕ). y ⊕ xtime (f n)) (xor_sum_xtime n f (λ i l. h i (omega arith)))
