-- Row operations keep the values that solve all the equations. Assumes nothing.
use mathlib.Core.Path.{◌≡◌, refl, sym, ap, ap₂, ◌∙◌}
use mathlib.Core.List.{List}
use Prim.Native.Nat.{ℕ, zero, suc, ◌+◌, ◌*◌, ◌/◌, ◌%◌, ◌<◌, ◌≤◌}
use native.Mathlib.Decide.{ℕ_discrete}
use native.Mathlib.Omega.{arith}
use lib.Bits.{bit_xor, xor_zero_r, xor_zero_l}
use lib.ListN.{get_or}
use lib.Dec.{eqb}
use borrow.Author.Tests.{eq-eqb, ne_eqb}
use Rattle.gf256.specs.Field.{◌⊕◌, mul, Bytes, xor_sum}
use Rattle.gf256.specs.Logs.{inv}
use Rattle.base.specs.Tests.{if}
use Rattle.base.specs.Folds.{table}
use Rattle.gf256.proofs.Xor.{xor_byte}
use Rattle.gf256.proofs.Product.{mul_lt, mul_xor_r, mul_xor_l, mul_zero_l, mul_zero_r, mul_one_l, mul_assoc}
use Rattle.gf256.proofs.Powers.{inv_lt, mul_inv}
use Rattle.gf256.proofs.Sums.{xor_sum_same, xor_sum_lt, xor_sum_zero, xor_sum_xor, xor_sum_mul}
use Rattle.base.proofs.Tables.{table_at}
use Rattle.elimination.specs.Matrix.{entry, weighted, pivot_entry, pivoted}

abbrev pub ByteList : List ℕ → Type 0
ByteList w = (a : ℕ) → get_or w a 0 < 256

-- the values y with v added at place q
unfoldable pub bump : (ℕ → ℕ) → ℕ → ℕ → ℕ → ℕ
bump y q v p = y p ⊕ if (eqb p q) v 0

-- a sum with one part
pub xor_sum_single : (n : ℕ) (f : ℕ → ℕ) (q : ℕ) → q < n → ((p : ℕ) → p < n → (p ≡ q → ⊥) → f p ≡ 0) → xor_sum n f ≡ f q
unfolding xor_sum
xor_sum_single zero f q h z = absurd (omega arith)
xor_sum_single (suc n) f q h z = go (ℕ_discrete q n) (λ l. xor_sum_single n f q l (λ p hp x. z p (omega arith) x))
  where
    none : q ≡ n → xor_sum n f ≡ 0
    none e = xor_sum_same n f (λ p. 0) (λ p hp. z p (omega arith) (λ d. omega arith)) ∙ xor_sum_zero n

    go : Dec (q ≡ n) → (q < n → xor_sum n f ≡ f q) → xor_sum n f ⊕ f n ≡ f q
    go (yes e) rest = ap₂ bit_xor (none e) (ap f (sym e)) ∙ xor_zero_l (f q)
    go (no d) rest = ap₂ bit_xor (rest (omega arith)) (z n (omega arith) (λ e. d (sym e))) ∙ xor_zero_r (f q)

pub weighted_same : (n : ℕ) (u t y z : ℕ → ℕ) → ((p : ℕ) → p < n → mul (u p) (y p) ≡ mul (t p) (z p)) → weighted n u y ≡ weighted n t z
unfolding weighted
weighted_same n u t y z h = xor_sum_same n _ _ h

pub weighted_lt : (n : ℕ) (u y : ℕ → ℕ) → Bytes u → weighted n u y < 256
unfolding weighted
weighted_lt n u y hu = xor_sum_lt n _ (λ p hp. mul_lt (u p) (y p) (hu p))

-- a row times v
pub weighted_scale : (n v : ℕ) (u y : ℕ → ℕ) → v < 256 → Bytes u → Bytes y → weighted n (λ p. mul v (u p)) y ≡ mul v (weighted n u y)
unfolding weighted
weighted_scale n v u y hv hu hy =
    xor_sum_same n (λ p. mul (mul v (u p)) (y p)) (λ p. mul v (mul (u p) (y p))) (λ p hp. mul_assoc v (u p) (y p) hv (hu p) (hy p))
    ∙ sym (xor_sum_mul n v (λ p. mul (u p) (y p)))

-- a row plus f times another
pub weighted_add : (n f : ℕ) (u t y : ℕ → ℕ) → f < 256 → Bytes u → Bytes t → Bytes y
    → weighted n (λ p. u p ⊕ mul f (t p)) y ≡ weighted n u y ⊕ mul f (weighted n t y)
unfolding weighted
weighted_add n f u t y hf hu ht hy =
    xor_sum_same n (λ p. mul (u p ⊕ mul f (t p)) (y p)) (λ p. mul (u p) (y p) ⊕ mul (mul f (t p)) (y p))
    (λ p hp. mul_xor_l (u p) (mul f (t p)) (y p) (hu p) (mul_lt f (t p) hf))
    ∙ xor_sum_xor n (λ p. mul (u p) (y p)) (λ p. mul (mul f (t p)) (y p))
    ∙ ap (λ (x : ℕ). xor_sum n (λ p. mul (u p) (y p)) ⊕ x) (weighted_scale n f t y hf ht hy)

-- one value changed
pub bump_at : (y : ℕ → ℕ) (q v : ℕ) → bump y q v q ≡ y q ⊕ v
unfolding bump
bump_at y q v = rw (eq-eqb q q refl)

pub bump_off : (y : ℕ → ℕ) (q v p : ℕ) → (p ≡ q → ⊥) → bump y q v p ≡ y p
unfolding bump
bump_off y q v p h = rw (ne_eqb p q h) (xor_zero_r (y p))

pub bump_lt : (y : ℕ → ℕ) (q v : ℕ) → Bytes y → v < 256 → Bytes (bump y q v)
bump_lt y q v hy hv p = go (ℕ_discrete p q)
  where
    go : Dec (p ≡ q) → bump y q v p < 256
    go (yes e) = rw (e, bump_at y q v) (xor_byte (y q) v (hy q) hv)
    go (no d) = rw (bump_off y q v p d) (hy p)

pub weighted_bump : (n : ℕ) (u y : ℕ → ℕ) (q v : ℕ) → q < n → weighted n u (bump y q v) ≡ weighted n u y ⊕ mul (u q) v
unfolding weighted bump
weighted_bump n u y q v h =
    xor_sum_same n (λ p. mul (u p) (y p ⊕ if (eqb p q) v 0)) (λ p. mul (u p) (y p) ⊕ mul (u p) (if (eqb p q) v 0))
    (λ p hp. mul_xor_r (u p) (y p) (if (eqb p q) v 0))
    ∙ xor_sum_xor n (λ p. mul (u p) (y p)) (λ p. mul (u p) (if (eqb p q) v 0))
    ∙ ap (λ (x : ℕ). xor_sum n (λ p. mul (u p) (y p)) ⊕ x)
    (xor_sum_single n (λ p. mul (u p) (if (eqb p q) v 0)) q h (λ p hp d. rw (ne_eqb p q d) (mul_zero_r (u p))) ∙ rw (eq-eqb q q refl))

-- ---- the pivot step

-- an entry of a matrix made by its entries
pub entry_table : (f : ℕ → ℕ → ℕ) (j p : ℕ) → j < 4 → p < 20 → entry (table 80 (λ a. f (a / 20) (a % 20))) j p ≡ f j p
unfolding entry
entry_table f j p hj hp =
    table_at 80 (λ a. f (a / 20) (a % 20)) (j * 20 + p) (omega arith)
    ∙ ap₂ f (let e : (j * 20 + p) / 20 ≡ j = omega arith in e) (let e : (j * 20 + p) % 20 ≡ p = omega arith in e)

pub entry_pivoted : (w : List ℕ) (i q j p : ℕ) → j < 4 → p < 20 → entry (pivoted w i q) j p ≡ pivot_entry w i q j p
unfolding pivoted
entry_pivoted w i q j p hj hp = entry_table (pivot_entry w i q) j p hj hp

pub entry_lt : (w : List ℕ) → ByteList w → (j : ℕ) → Bytes (entry w j)
unfolding entry
entry_lt w h j p = h (j * 20 + p)

pub pivot_entry_own : (w : List ℕ) (i q p : ℕ) → pivot_entry w i q i p ≡ mul (inv (entry w i q)) (entry w i p)
unfolding pivot_entry
pivot_entry_own w i q p = rw (eq-eqb i i refl)

pub pivot_entry_other : (w : List ℕ) (i q j p : ℕ) → (j ≡ i → ⊥)
    → pivot_entry w i q j p ≡ entry w j p ⊕ mul (entry w j q) (mul (inv (entry w i q)) (entry w i p))
unfolding pivot_entry
pivot_entry_other w i q j p h = rw (ne_eqb j i h)

-- a row that is 0 at q stays
pub pivot_entry_kept : (w : List ℕ) (i q j p : ℕ) → (j ≡ i → ⊥) → inv (entry w i q) < 256 → entry w j q ≡ 0
    → pivot_entry w i q j p ≡ entry w j p
pivot_entry_kept w i q j p d byte e =
    pivot_entry_other w i q j p d ∙ ap (λ (x : ℕ). entry w j p ⊕ mul x (mul (inv (entry w i q)) (entry w i p))) e
    ∙ ap (λ (x : ℕ). entry w j p ⊕ x) (mul_zero_l (mul (inv (entry w i q)) (entry w i p)) (mul_lt (inv (entry w i q)) (entry w i p) byte))
    ∙ xor_zero_r (entry w j p)

-- all four equations hold
abbrev pub Solves : ℕ → List ℕ → (ℕ → ℕ) → Type 0
Solves n w y = (j : ℕ) → j < 4 → weighted n (entry w j) y ≡ 0

module _ (n : ℕ) (w : List ℕ) (i q : ℕ) (y : ℕ → ℕ) (hn : n ≤ 20) (hi : i < 4) (hw : ByteList w) (hy : Bytes y) (hq : 0 < entry w i q) where
  pub weighted_own : weighted n (entry (pivoted w i q) i) y ≡ mul (inv (entry w i q)) (weighted n (entry w i) y)
  weighted_own =
      weighted_same n (entry (pivoted w i q) i) (λ p. mul (inv (entry w i q)) (entry w i p)) y y
      (λ p hp. ap (λ (x : ℕ). mul x (y p)) (entry_pivoted w i q i p hi (omega arith) ∙ pivot_entry_own w i q p))
      ∙ weighted_scale n (inv (entry w i q)) (entry w i) y (inv_lt (entry w i q) (entry_lt w hw i q)) (entry_lt w hw i) hy

  pub weighted_other : (j : ℕ) → j < 4 → (j ≡ i → ⊥)
      → weighted n (entry (pivoted w i q) j) y ≡ weighted n (entry w j) y
      ⊕ mul (entry w j q) (mul (inv (entry w i q)) (weighted n (entry w i) y))
  weighted_other j hj d =
      weighted_same n (entry (pivoted w i q) j) (λ p. entry w j p ⊕ mul (entry w j q) (mul (inv (entry w i q)) (entry w i p))) y y
      (λ p hp. ap (λ (x : ℕ). mul x (y p)) (entry_pivoted w i q j p hj (omega arith) ∙ pivot_entry_other w i q j p d))
      ∙ weighted_add n (entry w j q) (entry w j) (λ p. mul (inv (entry w i q)) (entry w i p)) y (entry_lt w hw j q) (entry_lt w hw j)
      (λ p. mul_lt (inv (entry w i q)) (entry w i p) (inv_lt (entry w i q) (entry_lt w hw i q))) hy
      ∙ ap (λ (x : ℕ). weighted n (entry w j) y ⊕ mul (entry w j q) x)
      (weighted_scale n (inv (entry w i q)) (entry w i) y (inv_lt (entry w i q) (entry_lt w hw i q)) (entry_lt w hw i) hy)

  own_back : mul (inv (entry w i q)) (weighted n (entry w i) y) ≡ 0 → weighted n (entry w i) y ≡ 0
  own_back e =
      sym (inv_back (entry w i q) (weighted n (entry w i) y) hq (entry_lt w hw i q) (weighted_lt n (entry w i) y (entry_lt w hw i)))
      ∙ ap (mul (entry w i q)) e ∙ mul_zero_r (entry w i q)
    where
      inv_back : (a x : ℕ) → 0 < a → a < 256 → x < 256 → mul a (mul (inv a) x) ≡ x
      inv_back a x h₀ ha hx = sym (mul_assoc a (inv a) x ha (inv_lt a ha) hx) ∙ ap (λ (t : ℕ). mul t x) (mul_inv a h₀ ha) ∙ mul_one_l x hx

  -- the pivot step keeps the solutions, both ways
  pub pivot_to : Solves n w y → Solves n (pivoted w i q) y
  pivot_to z j hj = go (ℕ_discrete j i)
    where
      own : mul (inv (entry w i q)) (weighted n (entry w i) y) ≡ 0
      own = ap (mul (inv (entry w i q))) (z i hi) ∙ mul_zero_r (inv (entry w i q))

      go : Dec (j ≡ i) → weighted n (entry (pivoted w i q) j) y ≡ 0
      go (yes e) = rw e (weighted_own ∙ own)
      go (no d) =
          weighted_other j hj d ∙ ap₂ (λ (a b : ℕ). a ⊕ mul (entry w j q) b) (z j hj) own ∙ ap (λ (x : ℕ). 0 ⊕ x) (mul_zero_r (entry w j q))

  pub pivot_from : Solves n (pivoted w i q) y → Solves n w y
  pivot_from z j hj = go (ℕ_discrete j i)
    where
      own : mul (inv (entry w i q)) (weighted n (entry w i) y) ≡ 0
      own = sym weighted_own ∙ z i hi

      go : Dec (j ≡ i) → weighted n (entry w j) y ≡ 0
      go (yes e) = rw e (own_back own)
      go (no d) =
          sym (xor_zero_r (weighted n (entry w j) y))
          ∙ ap (λ (x : ℕ). weighted n (entry w j) y ⊕ x) (sym (mul_zero_r (entry w j q)) ∙ ap (mul (entry w j q)) (sym own))
          ∙ sym (weighted_other j hj d) ∙ z j hj
