-- Blocks with something added, and doubled. Assumes nothing.
use mathlib.Core.Path.{◌≡◌, refl, sym, ap, ◌∙◌}
use mathlib.Core.List.{List}
use Prim.Native.Nat.{ℕ, ◌+◌, ◌-◌, ◌≤◌, ◌<◌}
use native.Mathlib.Omega.{arith}
use lib.Bits.{xor_zero_r}
use lib.ListN.{length, get_or, take, drop}
use Rattle.base.specs.Folds.{table}
use Rattle.base.proofs.Tables.{length_table, table_at, table_ext, table_same}
use Rattle.gf256.specs.Field.{◌⊕◌, xtime, mul}
use Rattle.gf256.proofs.Xor.{xor_assoc}
use Rattle.gf256.proofs.Product.{mul_one_l}
use Rattle.area.specs.Area.{block}
use Rattle.area.proofs.Parts.{part_block}
use Rattle.passes.specs.Passes.{doubled, plus, scaled, times, one}

-- a step over a block that is a table
pub plus_table : (b : ℕ) (f g : ℕ → ℕ) → plus (table b f) g ≡ table b (λ i. f i ⊕ g i)
unfolding plus
plus_table b f g =
    table_ext b (λ i. f i ⊕ g i) (table (length (table b f)) (λ i. get_or (table b f) i 0 ⊕ g i))
    (length_table (length (table b f)) (λ i. get_or (table b f) i 0 ⊕ g i) ∙ length_table b f)
    (λ i h. table_at (length (table b f)) (λ i. get_or (table b f) i 0 ⊕ g i) i (omega (arith, length_table b f))
    ∙ ap (λ (y : ℕ). y ⊕ g i) (table_at b f i h))

pub doubled_table : (b : ℕ) (f : ℕ → ℕ) → doubled (table b f) ≡ table b (λ i. xtime (f i))
unfolding doubled
doubled_table b f =
    table_ext b (λ i. xtime (f i)) (table (length (table b f)) (λ i. xtime (get_or (table b f) i 0)))
    (length_table (length (table b f)) (λ i. xtime (get_or (table b f) i 0)) ∙ length_table b f)
    (λ i h. table_at (length (table b f)) (λ i. xtime (get_or (table b f) i 0)) i (omega (arith, length_table b f))
    ∙ ap xtime (table_at b f i h))

pub length_plus : (d : List ℕ) (f : ℕ → ℕ) → length (plus d f) ≡ length d
unfolding plus
length_plus d f = length_table (length d) (λ i. get_or d i 0 ⊕ f i)

pub length_doubled : (d : List ℕ) → length (doubled d) ≡ length d
unfolding doubled
length_doubled d = length_table (length d) (λ i. xtime (get_or d i 0))

pub plus_same : (d : List ℕ) (f g : ℕ → ℕ) → ((i : ℕ) → i < length d → f i ≡ g i) → plus d f ≡ plus d g
unfolding plus
plus_same d f g h = table_same (length d) (λ i. get_or d i 0 ⊕ f i) (λ i. get_or d i 0 ⊕ g i)
    (λ i l. ap (λ (y : ℕ). get_or d i 0 ⊕ y) (h i l))

pub plus_zero : (d : List ℕ) (f : ℕ → ℕ) → ((i : ℕ) → i < length d → f i ≡ 0) → d ≡ plus d f
unfolding plus
plus_zero d f h =
    table_ext (length d) (λ i. get_or d i 0 ⊕ f i) d refl
    (λ i l. sym (ap (λ (y : ℕ). get_or d i 0 ⊕ y) (h i l) ∙ xor_zero_r (get_or d i 0)))

pub plus_plus : (d : List ℕ) (f g : ℕ → ℕ) → plus (plus d f) g ≡ plus d (λ i. f i ⊕ g i)
unfolding plus
plus_plus d f g =
    plus_table (length d) (λ i. get_or d i 0 ⊕ f i) g
    ∙ table_same (length d) (λ i. (get_or d i 0 ⊕ f i) ⊕ g i) (λ i. get_or d i 0 ⊕ (f i ⊕ g i))
    (λ i l. xor_assoc (get_or d i 0) (f i) (g i))

-- d doubled, with f added, byte by byte
pub doubled_plus : (d : List ℕ) (f : ℕ → ℕ) → table (length d) (λ i. xtime (get_or d i 0) ⊕ f i) ≡ plus (doubled d) f
unfolding doubled
doubled_plus d f = sym (plus_table (length d) (λ i. xtime (get_or d i 0)) f)

-- ---- a block times m

pub scaled_table : (m b : ℕ) (f : ℕ → ℕ) → scaled m (table b f) ≡ table b (λ i. mul m (f i))
unfolding scaled
scaled_table m b f =
    table_ext b (λ i. mul m (f i)) (table (length (table b f)) (λ i. mul m (get_or (table b f) i 0)))
    (length_table (length (table b f)) (λ i. mul m (get_or (table b f) i 0)) ∙ length_table b f)
    (λ i h. table_at (length (table b f)) (λ i. mul m (get_or (table b f) i 0)) i (omega (arith, length_table b f))
    ∙ ap (mul m) (table_at b f i h))

pub scaled_times : (m b : ℕ) (f : ℕ → ℕ) → scaled m (table b f) ≡ table b (times m f)
unfolding times
scaled_times m b f = scaled_table m b f

pub scaled_plus : (m : ℕ) (d : List ℕ) (f : ℕ → ℕ) → table (length d) (λ i. mul m (get_or d i 0) ⊕ f i) ≡ plus (scaled m d) f
unfolding scaled
scaled_plus m d f = sym (plus_table (length d) (λ i. mul m (get_or d i 0)) f)

-- once a block of bytes
pub scaled_one : (d : List ℕ) → ((i : ℕ) → get_or d i 0 < 256) → d ≡ scaled 1 d
unfolding scaled
scaled_one d h = table_ext (length d) (λ i. mul 1 (get_or d i 0)) d refl (λ i l. sym (mul_one_l (get_or d i 0) (h i)))

-- ---- a block that is copied

pub one_copied : (src : List ℕ) (o n : ℕ) → o + n ≤ length src → take ((o + n) - o) (drop o src) ≡ table n (one src o)
unfolding one block
one_copied src o n h = let e : (o + n) - o ≡ n = omega arith in rw e (part_block src o n h)
