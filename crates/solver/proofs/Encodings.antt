-- Laws of encodings at one byte of each block: they are bytes, and sums of data encode sums. Assumes nothing.
use mathlib.Core.Path.{◌≡◌, refl, sym, ap, ap₂, ◌∙◌}
use mathlib.Core.List.{List}
use mathlib.Core.Bool.{Bool, true, false}
use Prim.Native.Nat.{ℕ, ◌+◌, ◌-◌, ◌<◌}
use native.Mathlib.Omega.{arith}
use lib.Bits.{bit_xor, xor_self, xor_zero_r}
use lib.Dec.{ltb}
use borrow.Author.Tests.{lt-ltb, le-ltb, ltb-true, ltb-false}
use Rattle.base.specs.Tests.{if}
use Rattle.gf256.specs.Field.{◌⊕◌, mul, Bytes, xor_sum}
use Rattle.gf256.proofs.Xor.{xor_byte}
use Rattle.gf256.proofs.Product.{mul_lt, mul_xor_r, mul_zero_l}
use Rattle.gf256.proofs.Sums.{xor_sum_same, xor_sum_lt, xor_sum_xor}
use Rattle.code.specs.Agreement.{is_lost}
use Rattle.elimination.specs.Matrix.{weighted}
use Rattle.solver.specs.Losses.{OverPresent}
use Rattle.code.specs.Fixing.{encoded, Matches, Null}

module _ (co : ℕ → ℕ → ℕ) (k : ℕ) where
  -- row j over the columns y
  abbrev row : ℕ → (ℕ → ℕ) → ℕ
  row j y = xor_sum k (λ c. mul (co j c) (y c))

  pub encoded_column : (y : ℕ → ℕ) (p : ℕ) → p < k → encoded co k y p ≡ y p
  unfolding encoded
  encoded_column y p h = rw (lt-ltb p k h)

  pub encoded_row : (y : ℕ → ℕ) (j : ℕ) → encoded co k y (k + j) ≡ row j y
  unfolding encoded
  encoded_row y j = let e : k + j - k ≡ j = omega arith in rw (le-ltb (k + j) k (omega arith), e)

  -- the columns alone count
  pub encoded_same : (y x : ℕ → ℕ) (p : ℕ) → ((c : ℕ) → c < k → y c ≡ x c) → encoded co k y p ≡ encoded co k x p
  unfolding encoded
  encoded_same y x p h = go (ltb p k) refl
    where
      go : (t : Bool) → ltb p k ≡ t → if t (y p) (row (p - k) y) ≡ if t (x p) (row (p - k) x)
      go true e = h p (ltb-true p k e)
      go false e = xor_sum_same k _ _ (λ c l. ap (mul (co (p - k) c)) (h c l))

  pub encoded_xor : (y x : ℕ → ℕ) (p : ℕ) → encoded co k (λ c. y c ⊕ x c) p ≡ encoded co k y p ⊕ encoded co k x p
  unfolding encoded
  encoded_xor y x p = go (ltb p k)
    where
      go : (t : Bool) → if t (y p ⊕ x p) (row (p - k) (λ c. y c ⊕ x c)) ≡ if t (y p) (row (p - k) y) ⊕ if t (x p) (row (p - k) x)
      go true = refl
      go false = xor_sum_same k _ _ (λ c l. mul_xor_r (co (p - k) c) (y c) (x c)) ∙ xor_sum_xor k _ _

  pub encoded_byte : ((j c : ℕ) → j < 4 → co j c < 256) → (y : ℕ → ℕ) → Bytes y → (p : ℕ) → p < k + 4 → encoded co k y p < 256
  unfolding encoded
  encoded_byte hco y hy p hp = go (ltb p k) refl
    where
      go : (t : Bool) → ltb p k ≡ t → if t (y p) (row (p - k) y) < 256
      go true e = hy p
      go false e = xor_sum_lt k _ (λ c l. mul_lt (co (p - k) c) (y c) (hco (p - k) c (let q = ltb-false p k e in omega arith)))

-- coefficients over the present blocks give the same for blocks that are the same where they are present
pub over_same : (n : ℕ) (losses : List ℕ) (u : ℕ → ℕ) → OverPresent n losses u → (x y : ℕ → ℕ) → ((p : ℕ) → p < n → x p < 256)
    → ((p : ℕ) → p < n → y p < 256)
    → ((p : ℕ) → p < n → is_lost losses p ≡ false → x p ≡ y p) → weighted n u x ≡ weighted n u y
unfolding weighted
over_same n losses u over x y hx hy h = xor_sum_same n _ _ (λ p l. go p l (is_lost losses p) refl)
  where
    none : (p : ℕ) → p < n → is_lost losses p ≡ true → (v : ℕ) → v < 256 → mul (u p) v ≡ 0
    none p l e v hv = rw (over.lost p l e) (mul_zero_l v hv)

    go : (p : ℕ) → p < n → (t : Bool) → is_lost losses p ≡ t → mul (u p) (x p) ≡ mul (u p) (y p)
    go p l true e = none p l e (x p) (hx p l) ∙ sym (none p l e (y p) (hy p l))
    go p l false e = ap (mul (u p)) (h p l e)

module _ (co : ℕ → ℕ → ℕ) (n k : ℕ) (losses : List ℕ) where
  -- sums of data agree with sums of stripes
  pub matches_xor : (z t r y x : ℕ → ℕ) → ((p : ℕ) → p < n → z p ⊕ t p ≡ r p) → Matches co n k losses z y → Matches co n k losses t x
      → Matches co n k losses r (λ c. y c ⊕ x c)
  matches_xor z t r y x h a c =
      record {
        bytes = λ p. xor_byte (y p) (x p) (a.bytes p) (c.bytes p);
        present = λ p hp e. encoded_xor co k y x p ∙ ap₂ bit_xor (a.present p hp e) (c.present p hp e) ∙ h p hp;
      }

  pub matches_added : (z y v : ℕ → ℕ) → Matches co n k losses z y → Null co n k losses v → Matches co n k losses z (λ c. y c ⊕ v c)
  matches_added z y v a c = matches_xor z (λ _. 0) z y v (λ p hp. xor_zero_r (z p)) a c

  pub matches_null : (z y x : ℕ → ℕ) → Matches co n k losses z y → Matches co n k losses z x → Null co n k losses (λ c. y c ⊕ x c)
  matches_null z y x a c = matches_xor z z (λ _. 0) y x (λ p hp. xor_self (z p)) a c
