-- Laws of the product of GF(256). Assumes nothing.
use mathlib.Core.Path.{◌≡◌, refl, sym, ap, ap₂, ◌∙◌}
use Prim.Native.Nat.{ℕ, zero, suc, ◌+◌, ◌-◌, ◌*◌, ◌/◌, ◌%◌, ◌^◌, ◌≤◌, ◌<◌}
use native.Mathlib.Nat.{pow-suc, pow-le-pow_right, one-mul}
use native.Mathlib.Decide.{dec_lt}
use native.Mathlib.Omega.{arith}
use lib.Dec.{eqb, eqb→eq}
use mathlib.Core.Bool.{Bool}
use lib.Bits.{bit_xor, differ, xor_self, xor_zero_r, xor_block, xor_shr, xor_shifted}
use Rattle.gf256.specs.Field.{◌⊕◌, polynomial, bit_times, xtime, mul_bits, mul}
use Rattle.gf256.proofs.Xor.{xor4, xor_half, xor_odd, xor_byte, xor_double, odd_lt}
use Rattle.base.specs.Tests.{every}
use Rattle.base.proofs.Tests.{every_test}

-- ---- a bit times an element

pub bit_times_differ : (x y a : ℕ) → x < 2 → y < 2 → bit_times (differ x y) a ≡ bit_times x a ⊕ bit_times y a
bit_times_differ zero y a hx hy = refl
bit_times_differ (suc x) zero a hx hy = sym (xor_zero_r a)
bit_times_differ (suc zero) (suc zero) a hx hy = sym (xor_self a)
bit_times_differ (suc zero) (suc (suc y)) a hx hy = omega arith
bit_times_differ (suc (suc x)) (suc y) a hx hy = omega arith

pub bit_times_xor : (x a b : ℕ) → bit_times x (a ⊕ b) ≡ bit_times x a ⊕ bit_times x b
bit_times_xor zero a b = refl
bit_times_xor (suc x) a b = refl

pub bit_times_lt : (x a : ℕ) → a < 256 → bit_times x a < 256
bit_times_lt zero a h = omega arith
bit_times_lt (suc x) a h = h

-- ---- twice an element

top_lt : (a : ℕ) → a < 256 → a / 128 < 2
top_lt a h = omega arith

-- the top bit of a sum
top_xor : (a b : ℕ) → a < 256 → b < 256 → (a ⊕ b) / 128 ≡ differ (a / 128) (b / 128)
top_xor a b ha hb = xor_shr a b 7 ∙ bits (a / 128) (b / 128) (top_lt a ha) (top_lt b hb)
  where
    bits : (x y : ℕ) → x < 2 → y < 2 → bit_xor x y ≡ differ x y
    bits zero y hx hy = refl
    bits (suc zero) zero hx hy = refl
    bits (suc zero) (suc zero) hx hy = refl
    bits (suc zero) (suc (suc y)) hx hy = omega arith
    bits (suc (suc x)) y hx hy = omega arith

pub xtime_xor : (a b : ℕ) → a < 256 → b < 256 → xtime (a ⊕ b) ≡ xtime a ⊕ xtime b
unfolding xtime
xtime_xor a b ha hb =
    ap₂ (λ (x y : ℕ). x ⊕ bit_times y polynomial) (xor_double a b) (top_xor a b ha hb)
    ∙ ap (λ (x : ℕ). ((a * 2) ⊕ (b * 2)) ⊕ x) (bit_times_differ (a / 128) (b / 128) polynomial (top_lt a ha) (top_lt b hb))
    ∙ xor4 (a * 2) (b * 2) (bit_times (a / 128) polynomial) (bit_times (b / 128) polynomial)

pub xtime_lt : (a : ℕ) → a < 256 → xtime a < 256
unfolding xtime
xtime_lt a h = go (a / 128) refl
  where
    go : (q : ℕ) → a / 128 ≡ q → (a * 2) ⊕ bit_times (a / 128) polynomial < 256
    go zero e = rw e (rw xor_zero_r (omega arith))
    go (suc zero) e =
        let r : ℕ = a * 2 - 256 in
        let hr : r < 256 = omega arith in
        let e₁ : a * 2 ≡ 256 + r = omega arith in
        let e₂ : (256 + r) ⊕ polynomial ≡ 0 + (r ⊕ (polynomial - 256)) = xor_block 8 1 1 r (polynomial - 256) hr (omega arith) in
        rw (e, e₁, e₂) (omega (arith, xor_byte r (polynomial - 256) hr (omega arith)))
    go (suc (suc q)) e = omega arith

pub mul_bits_lt : (n a b : ℕ) → a < 256 → mul_bits n a b < 256
unfolding mul_bits
mul_bits_lt zero a b h = omega arith
mul_bits_lt (suc n) a b h = xor_byte _ _ (bit_times_lt (b % 2) a h) (mul_bits_lt n (xtime a) (b / 2) (xtime_lt a h))

mul_bits_xor_r : (n a b c : ℕ) → mul_bits n a (b ⊕ c) ≡ mul_bits n a b ⊕ mul_bits n a c
unfolding mul_bits
mul_bits_xor_r zero a b c = refl
mul_bits_xor_r (suc n) a b c =
    ap₂ (λ (x y : ℕ). bit_times x a ⊕ mul_bits n (xtime a) y) (xor_odd b c) (xor_half b c)
    ∙ ap₂ bit_xor (bit_times_differ (b % 2) (c % 2) a (odd_lt b) (odd_lt c)) (mul_bits_xor_r n (xtime a) (b / 2) (c / 2))
    ∙ xor4 (bit_times (b % 2) a) (bit_times (c % 2) a) (mul_bits n (xtime a) (b / 2)) (mul_bits n (xtime a) (c / 2))

mul_bits_xor_l : (n a b c : ℕ) → a < 256 → b < 256 → mul_bits n (a ⊕ b) c ≡ mul_bits n a c ⊕ mul_bits n b c
unfolding mul_bits
mul_bits_xor_l zero a b c ha hb = refl
mul_bits_xor_l (suc n) a b c ha hb =
    ap₂ bit_xor (bit_times_xor (c % 2) a b)
    (ap (λ (x : ℕ). mul_bits n x (c / 2)) (xtime_xor a b ha hb)
    ∙ mul_bits_xor_l n (xtime a) (xtime b) (c / 2) (xtime_lt a ha) (xtime_lt b hb))
    ∙ xor4 (bit_times (c % 2) a) (bit_times (c % 2) b) (mul_bits n (xtime a) (c / 2)) (mul_bits n (xtime b) (c / 2))

bit_times_xtime : (x a : ℕ) → bit_times x (xtime a) ≡ xtime (bit_times x a)
unfolding xtime
bit_times_xtime zero a = refl
bit_times_xtime (suc x) a = refl

mul_bits_xtime : (n a b : ℕ) → a < 256 → mul_bits n (xtime a) b ≡ xtime (mul_bits n a b)
unfolding mul_bits xtime
mul_bits_xtime zero a b h = refl
mul_bits_xtime (suc n) a b h =
    ap₂ bit_xor (bit_times_xtime (b % 2) a) (mul_bits_xtime n (xtime a) (b / 2) (xtime_lt a h))
    ∙ sym (xtime_xor (bit_times (b % 2) a) (mul_bits n (xtime a) (b / 2)) (bit_times_lt (b % 2) a h)
    (mul_bits_lt n (xtime a) (b / 2) (xtime_lt a h)))

mul_bits_zero_r : (n a : ℕ) → mul_bits n a 0 ≡ 0
unfolding mul_bits
mul_bits_zero_r zero a = refl
mul_bits_zero_r (suc n) a = mul_bits_zero_r n (xtime a)

-- ---- the product: closed, additive on both sides, and over doubling

pub mul_lt : (a b : ℕ) → a < 256 → mul a b < 256
unfolding mul
mul_lt a b h = mul_bits_lt 8 a b h

pub mul_xor_r : (a b c : ℕ) → mul a (b ⊕ c) ≡ mul a b ⊕ mul a c
unfolding mul
mul_xor_r a b c = mul_bits_xor_r 8 a b c

pub mul_xor_l : (a b c : ℕ) → a < 256 → b < 256 → mul (a ⊕ b) c ≡ mul a c ⊕ mul b c
unfolding mul
mul_xor_l a b c ha hb = mul_bits_xor_l 8 a b c ha hb

pub mul_xtime_l : (a b : ℕ) → a < 256 → mul (xtime a) b ≡ xtime (mul a b)
unfolding mul
mul_xtime_l a b h = mul_bits_xtime 8 a b h

pub mul_zero_r : (a : ℕ) → mul a 0 ≡ 0
unfolding mul
mul_zero_r a = mul_bits_zero_r 8 a

pub mul_one_r : (a : ℕ) → mul a 1 ≡ a
unfolding mul mul_bits
mul_one_r a = ap (λ (x : ℕ). a ⊕ x) (mul_bits_zero_r 7 (xtime a)) ∙ xor_zero_r a

pub mul_two_r : (a : ℕ) → mul a 2 ≡ xtime a
unfolding mul mul_bits
mul_two_r a = ap (λ (x : ℕ). xtime a ⊕ x) (mul_bits_zero_r 6 (xtime (xtime a))) ∙ xor_zero_r (xtime a)

-- ---- two additive functions that agree at the eight powers of 2 agree at each element

abbrev Additive : (ℕ → ℕ) → Type 0
Additive f = (a b : ℕ) → a < 256 → b < 256 → f (a ⊕ b) ≡ f a ⊕ f b

additive_zero : (f : ℕ → ℕ) → Additive f → f 0 ≡ 0
additive_zero f hf = hf 0 0 (omega arith) (omega arith) ∙ xor_self (f 0)

module _ (f g : ℕ → ℕ) (hf : Additive f) (hg : Additive g) (same : (i : ℕ) → i < 8 → f (2 ^ i) ≡ g (2 ^ i)) where
  from_bits : (k : ℕ) → k ≤ 8 → (a : ℕ) → a < 2 ^ k → f a ≡ g a
  from_bits zero hk a h = let e : a ≡ 0 = omega arith in rw (e, additive_zero f hf, additive_zero g hg)
  from_bits (suc k) hk a h = elim (dec_lt a (2 ^ k))
      [ yes lt ↦ from_bits k (omega arith) a lt | no ge ↦ top (from_bits k (omega arith)) ge ]
    where
      top : ((b : ℕ) → b < 2 ^ k → f b ≡ g b) → ¬ (a < 2 ^ k) → f a ≡ g a
      top ih ge =
          let r : ℕ = a - 2 ^ k in
          let hr : r < 2 ^ k = omega (arith, pow-suc 2 k) in
          let hb : 2 ^ k < 256 = omega (arith, pow-suc 2 k, pow-le-pow_right {n = 2} (omega arith) hk) in
          let e : a ≡ (2 ^ k) ⊕ r = omega (arith, rw one-mul at (xor_shifted 1 k r hr)) in
          rw (e, hf (2 ^ k) r hb (omega arith), hg (2 ^ k) r hb (omega arith), same k hk, ih r hr)

  basis : (a : ℕ) → a < 256 → f a ≡ g a
  basis a h = from_bits 8 (omega arith) a h

-- ---- commutative: at the powers of 2 by computing, and so at each element

comm_test : ℕ → ℕ → Bool
comm_test i j = eqb (mul (2 ^ i) (2 ^ j)) (mul (2 ^ j) (2 ^ i))

comm_bits : (i j : ℕ) → i < 8 → j < 8 → mul (2 ^ i) (2 ^ j) ≡ mul (2 ^ j) (2 ^ i)
unfolding every comm_test mul mul_bits xtime
comm_bits i j hi hj =
    eqb→eq (mul (2 ^ i) (2 ^ j)) (mul (2 ^ j) (2 ^ i))
    (every_test 8 (comm_test i) (every_test 8 (λ i. every 8 (comm_test i)) tt i hi) j hj)

comm_bit : (i b : ℕ) → i < 8 → b < 256 → mul (2 ^ i) b ≡ mul b (2 ^ i)
comm_bit i b hi hb =
    basis (λ b. mul (2 ^ i) b) (λ b. mul b (2 ^ i)) (λ x y hx hy. mul_xor_r (2 ^ i) x y) (λ x y hx hy. mul_xor_l x y (2 ^ i) hx hy)
    (λ j hj. comm_bits i j hi hj) b hb

pub mul_comm : (a b : ℕ) → a < 256 → b < 256 → mul a b ≡ mul b a
mul_comm a b ha hb =
    basis (λ a. mul a b) (λ a. mul b a) (λ x y hx hy. mul_xor_l x y b hx hy) (λ x y hx hy. mul_xor_r b x y)
    (λ i hi. comm_bit i b hi hb) a ha

pub mul_zero_l : (b : ℕ) → b < 256 → mul 0 b ≡ 0
mul_zero_l b h = mul_comm 0 b (omega arith) h ∙ mul_zero_r b

pub mul_one_l : (b : ℕ) → b < 256 → mul 1 b ≡ b
mul_one_l b h = mul_comm 1 b (omega arith) h ∙ mul_one_r b

pub mul_xtime_r : (a b : ℕ) → a < 256 → b < 256 → mul a (xtime b) ≡ xtime (mul a b)
mul_xtime_r a b ha hb =
    mul_comm a (xtime b) ha (xtime_lt b hb) ∙ mul_xtime_l b a hb ∙ ap xtime (mul_comm b a hb ha)

-- ---- doubled i times

unfoldable pub xtimes : ℕ → ℕ → ℕ
xtimes zero a = a
xtimes (suc i) a = xtime (xtimes i a)

pub xtimes_lt : (i a : ℕ) → a < 256 → xtimes i a < 256
unfolding xtimes
xtimes_lt zero a h = h
xtimes_lt (suc i) a h = xtime_lt (xtimes i a) (xtimes_lt i a h)

pub mul_xtimes_r : (i a b : ℕ) → a < 256 → b < 256 → mul a (xtimes i b) ≡ xtimes i (mul a b)
unfolding xtimes
mul_xtimes_r zero a b ha hb = refl
mul_xtimes_r (suc i) a b ha hb = mul_xtime_r a (xtimes i b) ha (xtimes_lt i b hb) ∙ ap xtime (mul_xtimes_r i a b ha hb)

-- the powers of 2 below 256 are 1, doubled
bit_xtimes : (i : ℕ) → i < 8 → 2 ^ i ≡ xtimes i 1
unfolding every xtimes xtime
bit_xtimes i h = eqb→eq (2 ^ i) (xtimes i 1) (every_test 8 (λ i. eqb (2 ^ i) (xtimes i 1)) tt i h)

pub mul_bit : (i a : ℕ) → i < 8 → a < 256 → mul a (2 ^ i) ≡ xtimes i a
mul_bit i a h ha = ap (mul a) (bit_xtimes i h) ∙ mul_xtimes_r i a 1 ha (omega arith) ∙ ap (xtimes i) (mul_one_r a)

-- ---- associative

pub mul_assoc : (a b c : ℕ) → a < 256 → b < 256 → c < 256 → mul (mul a b) c ≡ mul a (mul b c)
mul_assoc a b c ha hb hc =
    basis (λ c. mul (mul a b) c) (λ c. mul a (mul b c))
    (λ x y hx hy. mul_xor_r (mul a b) x y)
    (λ x y hx hy. ap (mul a) (mul_xor_r b x y) ∙ mul_xor_r a (mul b x) (mul b y))
    (λ i hi. mul_bit i (mul a b) hi (mul_lt a b ha) ∙ sym (ap (mul a) (mul_bit i b hi hb) ∙ mul_xtimes_r i a b ha hb))
    c hc
