-- Sums over a range in GF(256). Assumes nothing.
use mathlib.Core.Path.{◌≡◌, refl, sym, ap, ap₂, ◌∙◌}
use Prim.Native.Nat.{ℕ, zero, suc, ◌+◌, ◌<◌}
use native.Mathlib.Nat as N
use native.Mathlib.Omega.{arith}
use lib.Bits.{bit_xor, xor_zero_r}
use Rattle.gf256.specs.Field.{◌⊕◌, mul, xor_sum}
use Rattle.gf256.proofs.Xor.{xor_assoc, xor4, xor_byte}
use Rattle.gf256.proofs.Product.{mul_xor_r, mul_zero_r}

pub xor_sum_same : (n : ℕ) (f g : ℕ → ℕ) → ((i : ℕ) → i < n → f i ≡ g i) → xor_sum n f ≡ xor_sum n g
unfolding xor_sum
xor_sum_same zero f g h = refl
xor_sum_same (suc n) f g h = ap₂ bit_xor (xor_sum_same n f g (λ i hi. h i (omega arith))) (h n (omega arith))

pub xor_sum_lt : (n : ℕ) (f : ℕ → ℕ) → ((i : ℕ) → i < n → f i < 256) → xor_sum n f < 256
unfolding xor_sum
xor_sum_lt zero f h = omega arith
xor_sum_lt (suc n) f h = xor_byte (xor_sum n f) (f n) (xor_sum_lt n f (λ i hi. h i (omega arith))) (h n (omega arith))

pub xor_sum_zero : (n : ℕ) → xor_sum n (λ i. 0) ≡ 0
unfolding xor_sum
xor_sum_zero zero = refl
xor_sum_zero (suc n) = ap (λ (x : ℕ). x ⊕ 0) (xor_sum_zero n)

-- a range in two parts
pub xor_sum_add : (m n : ℕ) (f : ℕ → ℕ) → xor_sum (m + n) f ≡ xor_sum m f ⊕ xor_sum n (λ i. f (m + i))
unfolding xor_sum
xor_sum_add m zero f = ap (λ (k : ℕ). xor_sum k f) (N.add-zero m) ∙ sym (xor_zero_r (xor_sum m f))
xor_sum_add m (suc n) f =
    ap (λ (k : ℕ). xor_sum k f) (N.add-suc m n) ∙ ap (λ (x : ℕ). x ⊕ f (m + n)) (xor_sum_add m n f)
    ∙ xor_assoc (xor_sum m f) (xor_sum n (λ i. f (m + i))) (f (m + n))

-- the sum of two sums
pub xor_sum_xor : (n : ℕ) (f g : ℕ → ℕ) → xor_sum n (λ i. f i ⊕ g i) ≡ xor_sum n f ⊕ xor_sum n g
unfolding xor_sum
xor_sum_xor zero f g = refl
xor_sum_xor (suc n) f g =
    ap (λ (x : ℕ). x ⊕ (f n ⊕ g n)) (xor_sum_xor n f g) ∙ xor4 (xor_sum n f) (xor_sum n g) (f n) (g n)

-- a sum, scaled
pub xor_sum_mul : (n c : ℕ) (f : ℕ → ℕ) → mul c (xor_sum n f) ≡ xor_sum n (λ i. mul c (f i))
unfolding xor_sum
xor_sum_mul zero c f = mul_zero_r c
xor_sum_mul (suc n) c f = mul_xor_r c (xor_sum n f) (f n) ∙ ap (λ (x : ℕ). x ⊕ mul c (f n)) (xor_sum_mul n c f)

-- a sum of sums, the other way round
pub xor_sum_swap : (n m : ℕ) (f : ℕ → ℕ → ℕ) → xor_sum n (λ i. xor_sum m (f i)) ≡ xor_sum m (λ j. xor_sum n (λ i. f i j))
unfolding xor_sum
xor_sum_swap zero m f = sym (xor_sum_zero m)
xor_sum_swap (suc n) m f =
    ap (λ (x : ℕ). x ⊕ xor_sum m (f n)) (xor_sum_swap n m f) ∙ sym (xor_sum_xor m (λ j. xor_sum n (λ i. f i j)) (f n))
