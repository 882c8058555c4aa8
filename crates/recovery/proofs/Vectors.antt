-- A stripe and its data byte by byte: byte i of every block, as a function of the block. Assumes nothing.
use mathlib.Core.Path.{◌≡◌, refl, sym, ap, ap₂, ◌∙◌}
use mathlib.Core.List.{List}
use mathlib.Core.Bool.{Bool, true, false}
use Prim.Native.Nat.{ℕ, ◌+◌, ◌-◌, ◌*◌, ◌/◌, ◌%◌, ◌≤◌, ◌<◌}
use native.Mathlib.Nat.{mod-lt, mul-zero}
use native.Mathlib.Decide.{dec_lt}
use native.Mathlib.Omega.{arith}
use lib.Arith.{digits_div, digits_mod}
use lib.Dec.{ltb}
use lib.ListN.{length, get_or, get_or-eq_default}
use lib.Seq.{ext_get_or}
use borrow.Author.Tests.{lt-ltb}
use Rattle.base.specs.Tests.{if}
use Rattle.base.specs.Folds.{table}
use Rattle.base.proofs.Tables.{length_table, table_at, table_small}
use Rattle.gf256.specs.Field.{mul, Bytes, xor_sum}
use Rattle.gf256.proofs.Sums.{xor_sum_same, xor_sum_zero}
use Rattle.gf256.proofs.Product.{mul_zero_l, mul_zero_r}
use Rattle.area.specs.Area.{zeros, slot}
use Rattle.area.proofs.Slots.{room, length_slot}
use Rattle.area.proofs.Blocks.{block_at, length_zeros}
use Rattle.combine.specs.Combination.{combination}
use Rattle.combine.proofs.Laws.{length_combination}
use Rattle.code.specs.Rows.{parity_row, coefficient}
use Rattle.code.specs.Agreement.{stripe_block}
use Rattle.code.proofs.Laws.{length_parity_row}
use Rattle.elimination.specs.Matrix.{weighted}
use Rattle.elimination.proofs.RowLaws.{ByteList}
use Rattle.code.specs.Fixing.{encoded}

-- byte i of the blocks of s
abbrev pub vector : ℕ → List ℕ → ℕ → ℕ → ℕ
vector b s i p = get_or (slot s b p) i 0

-- past the last element there is 0
pub past : (l : List ℕ) (i : ℕ) → length l ≤ i → get_or l i 0 ≡ 0
past l i h = get_or-eq_default l 0 {n = i} h

pub zeros_byte : (b i : ℕ) → get_or (zeros b) i 0 ≡ 0
unfolding zeros
zeros_byte b i = elim (dec_lt i b) [ yes h ↦ table_at b (λ _. 0) i h | no h ↦ past (zeros b) i (rw length_table (omega arith)) ]

-- two blocks are equal by their bytes
pub block_ext : (b : ℕ) (x y : List ℕ) → length x ≡ b → length y ≡ b → ((i : ℕ) → i < b → get_or x i 0 ≡ get_or y i 0) → x ≡ y
block_ext b x y lx ly h = ext_get_or 0 x y (lx ∙ sym ly) (λ i l. h i (omega arith))

pub slot_byte : (s : List ℕ) (b p i : ℕ) → i < b → get_or (slot s b p) i 0 ≡ get_or s (p * b + i) 0
unfolding slot
slot_byte s b p i h = block_at s (p * b) b i h

pub vector_past : (b : ℕ) (s : List ℕ) (i p : ℕ) → b ≤ i → vector b s i p ≡ 0
vector_past b s i p h = past (slot s b p) i (rw length_slot h)

pub vector_bytes : (b : ℕ) (s : List ℕ) → ByteList s → (i : ℕ) → Bytes (vector b s i)
vector_bytes b s hs i p = go (dec_lt i b)
  where
    go : Dec (i < b) → vector b s i p < 256
    go (yes h) = rw (slot_byte s b p i h) (hs (p * b + i))
    go (no h) = let e = vector_past b s i p (omega arith) in omega arith

-- ---- data by their columns' bytes: z i c is byte i of column c

pub data_of : ℕ → ℕ → (ℕ → ℕ → ℕ) → List ℕ
data_of k b z = table (k * b) (λ a. z (a % b) (a / b))

pub length_data : (k b : ℕ) (z : ℕ → ℕ → ℕ) → length (data_of k b z) ≡ k * b
unfolding data_of
length_data k b z = length_table (k * b) _

pub data_byte : (k b : ℕ) (z : ℕ → ℕ → ℕ) (c i : ℕ) → c < k → i < b → vector b (data_of k b z) i c ≡ z i c
unfolding data_of
data_byte k b z c i hc hi =
    slot_byte (data_of k b z) b c i hi
    ∙ table_at (k * b) (λ a. z (a % b) (a / b)) (c * b + i) (omega (arith, room c k b hc))
    ∙ ap₂ z (digits_mod c hi) (digits_div c hi)

pub data_bytes : (k b : ℕ) (z : ℕ → ℕ → ℕ) → ((i : ℕ) → i < b → Bytes (z i)) → ByteList (data_of k b z)
unfolding data_of
data_bytes k b z hz = table_small (k * b) 256 (λ a. z (a % b) (a / b)) (omega arith) (λ a h. go a h (dec_lt 0 b))
  where
    none : (a x : ℕ) → x ≡ 0 → a < k * x → ⊥
    none a x e l = let q : k * x ≡ 0 = rw e (mul-zero k) in omega arith

    go : (a : ℕ) → a < k * b → Dec (0 < b) → z (a % b) (a / b) < 256
    go a h (yes b0) = hz (a % b) (mod-lt a b0) (a / b)
    go a h (no b0) = absurd (none a b (omega arith) h)

-- ---- the blocks of an encoding, and combinations of a stripe's blocks

pub length_stripe_block : (m : ℕ → ℕ) (b k : ℕ) (d : List ℕ) (p : ℕ) → length (stripe_block m b k d p) ≡ b
unfolding stripe_block
length_stripe_block m b k d p = go (ltb p k)
  where
    go : (t : Bool) → length (if t (slot d b p) (parity_row m b k (p - k) (slot d b))) ≡ b
    go true = length_slot d b p
    go false = length_parity_row m b k (p - k) (slot d b)

pub stripe_byte : (m : ℕ → ℕ) (b k : ℕ) (d : List ℕ) (p i : ℕ) → i < b
    → get_or (stripe_block m b k d p) i 0 ≡ encoded (coefficient m) k (vector b d i) p
unfolding stripe_block encoded parity_row combination
stripe_byte m b k d p i h = go (ltb p k)
  where
    go : (t : Bool) → get_or (if t (slot d b p) (table b (λ i. xor_sum k (λ c. mul (coefficient m (p - k) c) (vector b d i c))))) i 0
        ≡ if t (vector b d i p) (xor_sum k (λ c. mul (coefficient m (p - k) c) (vector b d i c)))
    go true = refl
    go false = table_at b (λ i. xor_sum k (λ c. mul (coefficient m (p - k) c) (vector b d i c))) i h

pub stripe_column : (m : ℕ → ℕ) (b k : ℕ) (d : List ℕ) (p : ℕ) → p < k → stripe_block m b k d p ≡ slot d b p
unfolding stripe_block
stripe_column m b k d p h = rw (lt-ltb p k h)

pub combination_byte : (b n : ℕ) (u : ℕ → ℕ) (s : List ℕ) (i : ℕ) → get_or (combination b n u (slot s b)) i 0 ≡ weighted n u (vector b s i)
unfolding combination weighted
combination_byte b n u s i = go (dec_lt i b)
  where
    sum : ℕ → ℕ
    sum i = xor_sum n (λ p. mul (u p) (vector b s i p))

    none : b ≤ i → sum i ≡ 0
    none h = xor_sum_same n _ (λ _. 0) (λ p l. ap (mul (u p)) (vector_past b s i p h) ∙ mul_zero_r (u p)) ∙ xor_sum_zero n

    go : Dec (i < b) → get_or (table b sum) i 0 ≡ sum i
    go (yes h) = table_at b sum i h
    go (no h) = past (table b sum) i (rw length_table (omega arith)) ∙ sym (none (omega arith))

-- where all coefficients are zero the combination is
pub combination_none : (b n : ℕ) (u : ℕ → ℕ) (s : List ℕ) → ByteList s → ((p : ℕ) → u p ≡ 0) → combination b n u (slot s b) ≡ zeros b
unfolding weighted
combination_none b n u s bytes h =
    block_ext b (combination b n u (slot s b)) (zeros b) (length_combination b n u (slot s b)) (length_zeros b) (λ i l.
    combination_byte b n u s i
    ∙ xor_sum_same n _ (λ _. 0) (λ p k. ap (λ (x : ℕ). mul x (vector b s i p)) (h p)
    ∙ mul_zero_l (vector b s i p) (vector_bytes b s bytes i p)) ∙ xor_sum_zero n
    ∙ sym (zeros_byte b i))
