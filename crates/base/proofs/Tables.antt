-- Laws of tables. Assumes nothing.
use mathlib.Core.Path.{◌≡◌, refl, sym, ap, ◌∙◌}
use Prim.Native.Nat.{ℕ, zero, suc, ◌+◌, ◌<◌}
use mathlib.Core.List.{List}
use native.Mathlib.Nat.{le_of_suc-le-suc}
use native.Mathlib.Decide.{dec_lt}
use native.Mathlib.Omega.{arith}
use lib.ListN.{length, get_or, set, get_or-eq_default}
use lib.Seq.{ext_get_or, get_or-set_same, get_or-set_other}
use Rattle.base.specs.Folds.{table}

pub length_table : (n : ℕ) (f : ℕ → ℕ) → length (table n f) ≡ n
unfolding table
length_table zero f = refl
length_table (suc n) f = ap suc (length_table n (λ i. f (suc i)))

pub table_at : (n : ℕ) (f : ℕ → ℕ) (i : ℕ) → i < n → get_or (table n f) i 0 ≡ f i
unfolding table
table_at zero f i h = absurd (omega arith)
table_at (suc n) f zero h = refl
table_at (suc n) f (suc i) h = table_at n (λ i. f (suc i)) i (le_of_suc-le-suc h)

-- a list is the table of its elements
pub table_ext : (n : ℕ) (f : ℕ → ℕ) (l : List ℕ) → length l ≡ n → ((i : ℕ) → i < n → get_or l i 0 ≡ f i) → l ≡ table n f
table_ext n f l e h =
    ext_get_or 0 l (table n f) (e ∙ sym (length_table n f)) (λ i hi. let k : i < n = omega arith in h i k ∙ sym (table_at n f i k))

-- two tables are equal where their functions are
pub table_same : (n : ℕ) (f g : ℕ → ℕ) → ((i : ℕ) → i < n → f i ≡ g i) → table n f ≡ table n g
table_same n f g h = table_ext n g (table n f) (length_table n f) (λ i l. table_at n f i l ∙ h i l)

-- a table of small numbers has no other elements, also where it is read past its end
pub table_small : (n bound : ℕ) (f : ℕ → ℕ) → 0 < bound → ((i : ℕ) → i < n → f i < bound) → (a : ℕ) → get_or (table n f) a 0 < bound
table_small n bound f some h a = go (dec_lt a n)
  where
    go : Dec (a < n) → get_or (table n f) a 0 < bound
    go (yes l) = rw (table_at n f a l) (h a l)
    go (no l) = rw (get_or-eq_default (table n f) 0 {n = a} (rw length_table (omega arith))) some

-- ---- a list that is filled in one entry after the other

pub entry_more : (f : ℕ → ℕ) (n : ℕ) (l : List ℕ) {x : ℕ} → ((i : ℕ) → i < n → get_or l i 0 ≡ f i) → n < length l → x ≡ f n
    → (i : ℕ) → i < n + 1 → get_or (set l n x) i 0 ≡ f i
entry_more f n l {x} h room e i u =
    elim (dec_lt i n) [ yes w ↦ get_or-set_other l n i x 0 (omega arith) ∙ h i w | no w ↦ last (omega arith) ]
  where
    last : i ≡ n → get_or (set l n x) i 0 ≡ f i
    last w = rw w (get_or-set_same l n x 0 room ∙ e)
