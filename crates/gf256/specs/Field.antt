-- FORMAT §2. GF(256) modulo 0x11D. An element is a number below 256 whose bits are the coefficients of a polynomial over the bits.
-- Document 01, "Shape and code": bytes are elements of GF(256) modulo 0x11D; adding is exclusive or. Assumes nothing.
use Rattle.std.specs.Prelude.{ℕ, zero, suc, ◌*◌, ◌/◌, ◌%◌, ◌<◌}
use Rattle.std.specs.Int.Bits.{bit_xor}

infixl 65 ◌⊕◌
-- the sum of two elements
abbrev pub ◌⊕◌ : ℕ → ℕ → ℕ
a ⊕ b = bit_xor a b

-- x^8 + x^4 + x^3 + x^2 + 1
abbrev pub polynomial : ℕ
polynomial = 0x11D

-- an element where the bit is set, else 0
abbrev pub bit_times : ℕ → ℕ → ℕ
bit_times zero a = 0
bit_times (suc bit) a = a

-- twice an element: shifted by one bit, and reduced by the polynomial where bit 7 was set
unfoldable pub xtime : ℕ → ℕ
xtime a = (a * 2) ⊕ bit_times (a / 128) polynomial

-- the sum over the n low bits of b, lowest first, of a times the bit's power of 2
unfoldable pub mul_bits : ℕ → ℕ → ℕ → ℕ
mul_bits zero a b = 0
mul_bits (suc n) a b = bit_times (b % 2) a ⊕ mul_bits n (xtime a) (b / 2)

-- the product of two elements
unfoldable pub mul : ℕ → ℕ → ℕ
mul a b = mul_bits 8 a b

-- the c-th power of an element; x^0 = 1
unfoldable pub pow : ℕ → ℕ → ℕ
pow x zero = 1
pow x (suc c) = mul x (pow x c)

-- every value is a byte
abbrev pub Bytes : (ℕ → ℕ) → Type 0
Bytes y = (p : ℕ) → y p < 256

-- f 0 ⊕ f 1 ⊕ .. ⊕ f (n - 1)
unfoldable pub xor_sum : ℕ → (ℕ → ℕ) → ℕ
xor_sum zero f = 0
xor_sum (suc n) f = xor_sum n f ⊕ f n
