-- FORMAT §2. What is claimed of the field: the product is that of polynomials over the bits modulo 0x11D, and it makes a field of the
-- bytes. Proved as `field_holds` in proofs/FieldHolds. Assumes nothing.
use Rattle.std.specs.Prelude.{◌≡◌, ℕ, zero, suc, ◌*◌, ◌/◌, ◌%◌, ◌<◌}
use Rattle.gf256.specs.Field.{◌⊕◌, bit_times, mul}
use Rattle.gf256.specs.Logs.{inv}

-- the product of two polynomials over the bits, the second of degree below n: a times each power of x that b has, added up
unfoldable pub times_bits : ℕ → ℕ → ℕ → ℕ
times_bits zero a b = 0
times_bits (suc n) a b = bit_times (b % 2) a ⊕ times_bits n (a * 2) (b / 2)

abbrev pub times : ℕ → ℕ → ℕ
times a b = times_bits 8 a b

-- r is c modulo x^8 + x^4 + x^3 + x^2 + 1: of degree below 8, and a multiple of that polynomial away from c
pub record Remainder (c r : ℕ) : Type 0 where
  pub small : r < 256
  pub quotient : ℕ
  pub quotient_small : quotient < 256
  pub away : c ≡ r ⊕ times 0x11D quotient

-- the product is the remainder of the polynomials' product, and a polynomial has one remainder at most
pub record ModuloClaims : Type 0 where
  pub product : (a b : ℕ) → a < 256 → b < 256 → Remainder (times a b) (mul a b)
  pub only : (c r u : ℕ) → Remainder c r → Remainder c u → r ≡ u

-- bytes are a commutative group under addition, in which each is its own opposite
pub record SumClaims : Type 0 where
  pub byte : (a b : ℕ) → a < 256 → b < 256 → a ⊕ b < 256
  pub comm : (a b : ℕ) → a ⊕ b ≡ b ⊕ a
  pub assoc : (a b c : ℕ) → (a ⊕ b) ⊕ c ≡ a ⊕ (b ⊕ c)
  pub zero_is : (a : ℕ) → a ⊕ 0 ≡ a
  pub self : (a : ℕ) → a ⊕ a ≡ 0

-- bytes other than 0 are a commutative group under the product
pub record ProductClaims : Type 0 where
  pub byte : (a b : ℕ) → a < 256 → b < 256 → mul a b < 256
  pub comm : (a b : ℕ) → a < 256 → b < 256 → mul a b ≡ mul b a
  pub assoc : (a b c : ℕ) → a < 256 → b < 256 → c < 256 → mul (mul a b) c ≡ mul a (mul b c)
  pub one_is : (a : ℕ) → mul a 1 ≡ a
  pub inverse : (a : ℕ) → 0 < a → a < 256 → (inv a < 256) × (mul a (inv a) ≡ 1)
  pub inverse_only : (a b : ℕ) → 0 < a → a < 256 → b < 256 → mul a b ≡ 1 → b ≡ inv a

pub record FieldClaims : Type 0 where
  pub modulo : ModuloClaims
  pub sums : SumClaims
  pub products : ProductClaims
  pub distributes : (a b c : ℕ) → a < 256 → b < 256 → c < 256 → mul a (b ⊕ c) ≡ mul a b ⊕ mul a c
