-- The product is the product of polynomials modulo 0x11D. Assumes nothing.
use mathlib.Core.Path.{◌≡◌, refl, sym, ap, ap₂, ◌∙◌}
use Prim.Native.Nat.{ℕ, zero, suc, ◌+◌, ◌*◌, ◌/◌, ◌%◌, ◌^◌, ◌≤◌, ◌<◌}
use native.Mathlib.Nat.{pow-suc, pow-le-pow_right}
use native.Mathlib.Omega.{arith}
use lib.Dec.{leb, leb→le}
use lib.Bits.{bit_xor, xor_self, xor_zero_r, xor_lt}
use Rattle.gf256.specs.Field.{◌⊕◌, polynomial, bit_times, xtime, mul_bits, mul}
use Rattle.gf256.specs.Claims.{times_bits, times, Remainder, ModuloClaims}
use Rattle.gf256.proofs.Xor.{xor_assoc, xor4, xor_half, xor_odd, xor_byte, xor_double, xor_cancel, xor_none, odd_lt}
use Rattle.gf256.proofs.Product.{bit_times_differ, bit_times_xor, bit_times_lt, xtime_lt, mul_lt}
use Rattle.base.specs.Tests.{every}
use Rattle.base.proofs.Tests.{every_test}

-- ---- the product of polynomials: additive in the second, and over doubling

times_xor : (n a b c : ℕ) → times_bits n a (b ⊕ c) ≡ times_bits n a b ⊕ times_bits n a c
unfolding times_bits
times_xor zero a b c = refl
times_xor (suc n) a b c =
    ap₂ (λ (x y : ℕ). bit_times x a ⊕ times_bits n (a * 2) y) (xor_odd b c) (xor_half b c)
    ∙ ap₂ bit_xor (bit_times_differ (b % 2) (c % 2) a (odd_lt b) (odd_lt c)) (times_xor n (a * 2) (b / 2) (c / 2))
    ∙ xor4 (bit_times (b % 2) a) (bit_times (c % 2) a) (times_bits n (a * 2) (b / 2)) (times_bits n (a * 2) (c / 2))

bit_times_double : (x a : ℕ) → bit_times x (a * 2) ≡ bit_times x a * 2
bit_times_double zero a = refl
bit_times_double (suc x) a = refl

times_doubled : (n a b : ℕ) → times_bits n (a * 2) b ≡ times_bits n a b * 2
unfolding times_bits
times_doubled zero a b = refl
times_doubled (suc n) a b =
    ap₂ bit_xor (bit_times_double (b % 2) a) (times_doubled n (a * 2) (b / 2))
    ∙ sym (xor_double (bit_times (b % 2) a) (times_bits n (a * 2) (b / 2)))

-- a bit that the second does not have adds nothing
times_short : (n a b : ℕ) → b < 2 ^ n → times_bits (suc n) a b ≡ times_bits n a b
unfolding times_bits
times_short zero a b h = let e : b ≡ 0 = omega arith in rw e
times_short (suc n) a b h = ap (λ (x : ℕ). bit_times (b % 2) a ⊕ x) (times_short n (a * 2) (b / 2) (omega (arith, pow-suc 2 n)))

times_twice : (n a b : ℕ) → times_bits (suc n) a (b * 2) ≡ times_bits n (a * 2) b
unfolding times_bits
times_twice n a b =
    let e : b * 2 % 2 ≡ 0 = omega arith in
    let f : b * 2 / 2 ≡ b = omega arith in
    rw (e, f)

times_double : (a b : ℕ) → b < 128 → times a (b * 2) ≡ times a b * 2
times_double a b h = times_twice 7 a b ∙ times_doubled 7 a b ∙ ap (λ (x : ℕ). x * 2) (sym (times_short 7 a b h))

-- ---- multiples of the polynomial

abbrev multiple : ℕ → ℕ
multiple q = times polynomial q

multiple_bit : (t : ℕ) → t < 2 → multiple t ≡ bit_times t polynomial
unfolding times_bits
multiple_bit zero h = refl
multiple_bit (suc zero) h = refl
multiple_bit (suc (suc t)) h = omega arith

bit_multiple : (x q : ℕ) → bit_times x (multiple q) ≡ multiple (bit_times x q)
unfolding times_bits
bit_multiple zero q = refl
bit_multiple (suc x) q = refl

-- twice an element that a multiple was added to is its double in the field, with a multiple added
doubled_away : (a q : ℕ) → q < 128 → a < 256 → (a ⊕ multiple q) * 2 ≡ xtime a ⊕ multiple ((a / 128) ⊕ (q * 2))
unfolding xtime
doubled_away a q hq ha =
    let t : ℕ = a / 128 in
    let away : multiple (t ⊕ (q * 2)) ≡ bit_times t polynomial ⊕ (multiple q * 2) =
    times_xor 8 polynomial t (q * 2) ∙ ap₂ bit_xor (multiple_bit t (omega arith)) (times_double polynomial q hq) in
    let cancel : ((a * 2) ⊕ bit_times t polynomial) ⊕ (bit_times t polynomial ⊕ (multiple q * 2)) ≡ (a * 2) ⊕ (multiple q * 2) =
    xor_assoc (a * 2) (bit_times t polynomial) (bit_times t polynomial ⊕ (multiple q * 2))
    ∙ ap (λ (x : ℕ). (a * 2) ⊕ x) (xor_cancel (bit_times t polynomial) (multiple q * 2)) in
    xor_double a (multiple q) ∙ sym (ap (λ (x : ℕ). ((a * 2) ⊕ bit_times t polynomial) ⊕ x) away ∙ cancel)

-- ---- n bits of the product, whose first factor is a multiple away from an element

abbrev Away : ℕ → ℕ → Type 0
Away c r = (q : ℕ) × (q < 256) × (c ≡ r ⊕ multiple q)

one_bit : (n a b q p : ℕ)
    → times_bits n ((a ⊕ multiple q) * 2) (b / 2) ≡ mul_bits n (xtime a) (b / 2) ⊕ multiple p
    → times_bits (suc n) (a ⊕ multiple q) b ≡ mul_bits (suc n) a b ⊕ multiple (bit_times (b % 2) q ⊕ p)
unfolding times_bits mul_bits
one_bit n a b q p e =
    ap₂ bit_xor (bit_times_xor (b % 2) a (multiple q) ∙ ap (λ (x : ℕ). bit_times (b % 2) a ⊕ x) (bit_multiple (b % 2) q)) e
    ∙ xor4 (bit_times (b % 2) a) (multiple (bit_times (b % 2) q)) (mul_bits n (xtime a) (b / 2)) (multiple p)
    ∙ ap (λ (x : ℕ). (bit_times (b % 2) a ⊕ mul_bits n (xtime a) (b / 2)) ⊕ x) (sym (times_xor 8 polynomial (bit_times (b % 2) q) p))

all_bits : (n j a b q : ℕ) → n + j ≤ 8 → a < 256 → q < 2 ^ j → Away (times_bits n (a ⊕ multiple q) b) (mul_bits n a b)
unfolding times_bits mul_bits
all_bits zero j a b q hj ha hq = (0, omega arith, refl)
all_bits (suc n) j a b q hj ha hq = step (all_bits n (suc j) (xtime a) (b / 2) next (omega arith) (xtime_lt a ha) next_lt)
  where
    small : q < 128
    small =
        let seven : j ≤ 7 = omega arith in
        let le : 2 ^ j ≤ 2 ^ 7 = pow-le-pow_right {n = 2} (omega arith) seven in
        omega arith

    next : ℕ
    next = (a / 128) ⊕ (q * 2)

    next_lt : next < 2 ^ suc j
    next_lt = xor_lt (suc j) (a / 128) (q * 2) (omega (arith, pow-suc 2 j)) (omega (arith, pow-suc 2 j))

    step : Away (times_bits n (xtime a ⊕ multiple next) (b / 2)) (mul_bits n (xtime a) (b / 2))
        → Away (times_bits (suc n) (a ⊕ multiple q) b) (mul_bits (suc n) a b)
    step (p, hp, e) = (
      bit_times (b % 2) q ⊕ p,
      xor_byte (bit_times (b % 2) q) p (bit_times_lt (b % 2) q (let l : q < 256 = omega (arith, small) in l)) hp,
      one_bit n a b q p (ap (λ (x : ℕ). times_bits n x (b / 2)) (doubled_away a q small ha) ∙ e),
    )

product_away : (a b : ℕ) → a < 256 → Away (times a b) (mul a b)
unfolding mul times_bits mul_bits
product_away a b ha = rw (xor_zero_r a) at (all_bits 8 0 a b 0 (omega arith) ha (omega arith))

remainder_of : (a b : ℕ) → a < 256 → Remainder (times a b) (mul a b)
remainder_of a b ha =
    let w : Away (times a b) (mul a b) = product_away a b ha in
    record { small = mul_lt a b ha; quotient = w.0; quotient_small = w.1; away = w.2 }

-- ---- one remainder at most: a multiple other than 0 has degree 8 or more

large : (k : ℕ) → k < 255 → 256 ≤ multiple (suc k)
unfolding every times_bits
large k h = leb→le 256 (multiple (suc k)) (every_test 255 (λ k. leb 256 (multiple (suc k))) tt k h)

only_zero : (q : ℕ) → q < 256 → multiple q < 256 → q ≡ 0
only_zero zero h l = refl
only_zero (suc k) h l = omega (arith, large k (omega arith))

one_remainder : (c r u : ℕ) → Remainder c r → Remainder c u → r ≡ u
unfolding times_bits
one_remainder c r u x y =
    xor_none r u (sum ∙ ap multiple none)
  where
    both : ℕ
    both = x.quotient ⊕ y.quotient

    sum : r ⊕ u ≡ multiple both
    sum =
        let mx : ℕ = multiple x.quotient in
        let my : ℕ = multiple y.quotient in
        let twice : (r ⊕ u) ⊕ (mx ⊕ my) ≡ 0 = xor4 r u mx my ∙ ap₂ bit_xor (sym x.away) (sym y.away) ∙ xor_self c in
        xor_none (r ⊕ u) (mx ⊕ my) twice ∙ sym (times_xor 8 polynomial x.quotient y.quotient)

    none : both ≡ 0
    none =
        only_zero both (xor_byte x.quotient y.quotient x.quotient_small y.quotient_small)
        (rw sum at (xor_byte r u x.small y.small))

pub modulo_holds : ModuloClaims
modulo_holds = record { product = λ a b ha hb. remainder_of a b ha; only = one_remainder }
