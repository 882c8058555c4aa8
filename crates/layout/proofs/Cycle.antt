-- The nodes of a stripe stand in a cycle: node (g + c) mod n is at place c of stripe g. Places and nodes are inverse to each other, and
-- the stripes that have a node at a place not below c are counted: of the n stripes of a period they are n - c. Assumes nothing.
use mathlib.Core.Path.{◌≡◌, refl, sym, ap, ◌∙◌}
use mathlib.Core.Bool.{Bool}
use Prim.Native.Nat.{ℕ, suc, ◌+◌, ◌-◌, ◌*◌, ◌%◌, ◌≤◌, ◌<◌, min}
use native.Mathlib.Nat.{le_refl, lt_of_not-le, add-zero, zero-add, add_comm, add_right_cancel, sub-add_cancel, min-eq_left, mul-one}
use native.Mathlib.Nat.{mul-zero, mod-lt, mod-mod, mod-eq_of_lt, mod-add-mod, add-mod_left, add-mod_right, mul-add-mod_self_right}
use native.Mathlib.Decide.{dec_le, dec_lt}
use native.Mathlib.Omega.{arith}
use lib.Dec.{leb}
use borrow.Author.Tests.{le-leb, lt-leb}
use Rattle.base.specs.Tests.{if}
use Rattle.base.specs.Folds.{sum, indicator}
use Rattle.layout.specs.Offsets.{nth_offset, offset_rank}
use Rattle.base.proofs.Sums.{sum_same, sum_const, sum_split, sum_periods}
use Rattle.base.proofs.Tests.{Leb, holds, fails, leb_view}

-- ---- cyclic order: the node at place c of stripe g, and the place of node i in stripe g

unfoldable pub node_at : ℕ → ℕ → ℕ → ℕ
node_at n g c = (g + c) % n

unfoldable pub place_of : ℕ → ℕ → ℕ → ℕ
place_of n g i = (i + (n - g % n)) % n

pub node_lt : (n g c : ℕ) → 0 < n → node_at n g c < n
unfolding node_at
node_lt n g c h = mod-lt (g + c) h

pub place_lt : (n g c : ℕ) → 0 < n → place_of n g c < n
unfolding place_of
place_lt n g i h = mod-lt (i + (n - g % n)) h

pub place_period : (n g i : ℕ) → place_of n (n + g) i ≡ place_of n g i
unfolding place_of
place_period n g i = rw add-mod_left

pub place_periods : (n a g i : ℕ) → place_of n (a * n + g) i ≡ place_of n g i
unfolding place_of
place_periods n a g i = rw mul-add-mod_self_right

place_mod : (n g i : ℕ) → place_of n g i ≡ place_of n (g % n) i
unfolding place_of
place_mod n g i = rw mod-mod

-- ---- in the first period: the place of node i is i - x up to stripe i, and i + n - x past it

-- the remainder by n is c for a number c below n, and for c + n
mod_is : (n a c : ℕ) → c < n → a ≡ c → a % n ≡ c
mod_is n a c l e = rw e (mod-eq_of_lt l)

mod_over : (n a c : ℕ) → c < n → a ≡ c + n → a % n ≡ c
mod_over n a c l e = rw e (add-mod_right c n ∙ mod-eq_of_lt l)

place_upto : (n x i : ℕ) → x ≤ i → i < n → place_of n x i + x ≡ i
unfolding place_of
place_upto n x i h l =
    let m : x % n ≡ x = mod-eq_of_lt (omega arith) in
    let e : (i + (n - x)) % n ≡ i - x = mod_over n (i + (n - x)) (i - x) (omega arith) (omega arith) in
    rw (m, e) (sub-add_cancel h)

place_past : (n x i : ℕ) → i < x → x < n → place_of n x i + x ≡ i + n
unfolding place_of
place_past n x i h l =
    let m : x % n ≡ x = mod-eq_of_lt l in
    let e : (i + (n - x)) % n ≡ i + (n - x) = mod-eq_of_lt (omega arith) in
    rw (m, e) (omega arith)

-- ---- places and nodes are inverse to each other: in the first period, and in any

node_place_first : (n x i : ℕ) → x < n → i < n → Dec (x ≤ i) → (x + place_of n x i) % n ≡ i
node_place_first n x i h l (yes a) = mod_is n (x + place_of n x i) i l (add_comm x (place_of n x i) ∙ place_upto n x i a l)
node_place_first n x i h l (no a) = mod_over n (x + place_of n x i) i l (add_comm x (place_of n x i) ∙ place_past n x i (lt_of_not-le a) h)

pub node_place : (n g i : ℕ) → i < n → node_at n g (place_of n g i) ≡ i
unfolding node_at
node_place n g i h =
    sym (mod-add-mod g n (place_of n g i))
    ∙ rw (place_mod n g i) (node_place_first n (g % n) i (mod-lt g (omega arith)) h (dec_le (g % n) i))

place_node_first : (n x c : ℕ) → x < n → c < n → Dec (x + c < n) → place_of n x ((x + c) % n) ≡ c
place_node_first n x c h l (yes a) =
    rw (mod-eq_of_lt a) (add_right_cancel x (place_upto n x (x + c) (omega arith) a ∙ add_comm x c))
place_node_first n x c h l (no a) =
    let e : (x + c) % n ≡ x + c - n = mod_over n (x + c) (x + c - n) (omega arith) (omega arith) in
    let p : place_of n x (x + c - n) + x ≡ x + c - n + n = place_past n x (x + c - n) (omega arith) h in
    rw e (add_right_cancel x (p ∙ omega arith))

pub place_node : (n g c : ℕ) → c < n → place_of n g (node_at n g c) ≡ c
unfolding node_at
place_node n g c h =
    place_mod n g ((g + c) % n)
    ∙ rw (← mod-add-mod g n c) (place_node_first n (g % n) c (mod-lt g (omega arith)) h (dec_lt (g % n + c) n))

-- ---- how many of the stripes below x have node i at place c or above

unfoldable pub above : (n c i x : ℕ) → ℕ
above n c i x = sum x (λ g. indicator (leb c (place_of n g i)))

pub above_zero : (n c i : ℕ) → above n c i 0 ≡ 0
unfolding above sum
above_zero n c i = refl

-- k stripes from stripe x on, of which each counts, or none
above_all : (n c i x k : ℕ) → ((j : ℕ) → j < k → c ≤ place_of n (x + j) i) → above n c i (x + k) ≡ above n c i x + k
unfolding above
above_all n c i x k h =
    sum_split x k (λ g. indicator (leb c (place_of n g i)))
    ∙ ap (λ (y : ℕ). above n c i x + y) (sum_same k _ (λ j. 1) (λ j l. ap indicator (le-leb c _ (h j l))) ∙ sum_const k 1 ∙ mul-one k)

above_none : (n c i x k : ℕ) → ((j : ℕ) → j < k → place_of n (x + j) i < c) → above n c i (x + k) ≡ above n c i x
unfolding above
above_none n c i x k h =
    sum_split x k (λ g. indicator (leb c (place_of n g i)))
    ∙ ap (λ (y : ℕ). above n c i x + y) (sum_same k _ (λ j. 0) (λ j l. ap indicator (lt-leb c _ (h j l))) ∙ sum_const k 0 ∙ mul-zero k)
    ∙ add-zero (above n c i x)

-- which stripes of the first period count
in_upto : (n c x i : ℕ) → i < n → x + c ≤ i → c ≤ place_of n x i
in_upto n c x i l h = omega (arith, place_upto n x i (omega arith) l)

out_upto : (n c x i : ℕ) → i < n → x ≤ i → i < x + c → place_of n x i < c
out_upto n c x i l h o = omega (arith, place_upto n x i h l)

in_past : (n c x i : ℕ) → x < n → i < x → x + c ≤ i + n → c ≤ place_of n x i
in_past n c x i l h o = omega (arith, place_past n x i h l)

out_past : (n c x i : ℕ) → x < n → i < x → i + n < x + c → place_of n x i < c
out_past n c x i l h o = omega (arith, place_past n x i h l)

-- the first i + 1 - c stripes count, the others up to stripe i do not, and past it those do whose place is not below c
above_first : (n c i x : ℕ) → i < n → x ≤ suc i - c → above n c i x ≡ x
above_first n c i x l h =
    ap (above n c i) (sym (zero-add x))
    ∙ above_all n c i 0 x (λ j m. rw (zero-add j) (in_upto n c j i l (omega arith)))
    ∙ rw (above_zero n c i) (zero-add x)

above_upto : (n c i : ℕ) → i < n → above n c i (suc i) ≡ suc i - c
above_upto n c i l =
    let u : ℕ = suc i - c in
    let e : suc i ≡ u + min c (suc i) = omega arith in
    ap (above n c i) e
    ∙ above_none n c i u (min c (suc i)) (λ j m. out_upto n c (u + j) i l (omega arith) (omega arith))
    ∙ above_first n c i u l (le_refl u)

above_past : (n c i x : ℕ) → i < n → i < x → x ≤ n → x + c ≤ suc i + n → above n c i x ≡ x - min c (suc i)
above_past n c i x l h m o =
    let k : ℕ = x - suc i in
    let e : x ≡ suc i + k = omega arith in
    ap (above n c i) e
    ∙ above_all n c i (suc i) k (λ j q. in_past n c (suc i + j) i (omega arith) (omega arith) (omega arith))
    ∙ ap (λ (y : ℕ). y + k) (above_upto n c i l)
    ∙ omega arith

-- of a whole period, and of any number of periods
pub above_period : (n c i : ℕ) → i < n → c ≤ n → above n c i n ≡ n - c
above_period n c i l h = go (dec_le c (suc i))
  where
    go : Dec (c ≤ suc i) → above n c i n ≡ n - c
    go (yes a) = above_past n c i n l l (le_refl n) (omega arith) ∙ ap (λ (y : ℕ). n - y) (min-eq_left a)
    go (no a) =
        let x : ℕ = suc i + (n - c) in
        let e : n ≡ x + (c - suc i) = omega arith in
        ap (above n c i) e
        ∙ above_none n c i x (c - suc i) (λ j m. out_past n c (x + j) i (omega arith) (omega arith) (omega arith))
        ∙ above_past n c i x l (omega arith) (omega arith) (omega arith)
        ∙ omega arith

pub above_periods : (n c i a x : ℕ) → i < n → c ≤ n → above n c i (a * n + x) ≡ a * (n - c) + above n c i x
unfolding above
above_periods n c i a x l h =
    sum_periods (λ g. indicator (leb c (place_of n g i))) n (λ g. rw place_period) a x
    ∙ ap (λ (z : ℕ). a * z + above n c i x) (above_period n c i l h)

pub above_multiple : (n c i a d : ℕ) → i < n → d + c ≡ n → above n c i (a * n) ≡ a * d
above_multiple n c i a d l e =
    let z : above n c i 0 ≡ 0 = above_zero n c i in
    let m : n - c ≡ d = omega arith in
    let p : above n c i (a * n + 0) ≡ a * (n - c) + above n c i 0 = above_periods n c i a 0 l (omega arith) in
    ap (above n c i) (sym (add-zero (a * n))) ∙ p ∙ rw (z, m) (add-zero (a * d))

-- the b-th stripe of a period that has node i at place c or above stands at `nth_offset`
nth_past : (n c i b x : ℕ) → i < n → b + c < n → i < b + c → x ≡ b + min c (suc i) → (x < n) × (c ≤ place_of n x i) × (above n c i x ≡ b)
nth_past n c i b x l h f e =
    let a : x < n = omega arith in
    let p : i < x = omega arith in
    let q : x + c ≤ i + n = omega arith in
    (a, in_past n c x i a p q, above_past n c i x l p (omega arith) (omega arith) ∙ omega arith)

pub above_nth : (n c i b : ℕ) → i < n → b + c < n
    → (nth_offset c i b < n) × (c ≤ place_of n (nth_offset c i b) i) × (above n c i (nth_offset c i b) ≡ b)
unfolding nth_offset
above_nth n c i b l h = go (leb (b + c) i) (leb_view (b + c) i)
  where
    Goal : ℕ → Type 0
    Goal x = (x < n) × (c ≤ place_of n x i) × (above n c i x ≡ b)

    go : (t : Bool) → Leb (b + c) i t → Goal (if t b (b + min c (suc i)))
    go t (holds y) = (omega arith, in_upto n c b i l y, above_first n c i b l (omega arith))
    go t (fails y) = nth_past n c i b (b + min c (suc i)) l h y refl

-- and the other way
number_past : (n c i x : ℕ) → i < n → x < n → i < x → c ≤ place_of n x i → above n c i x ≡ x - min c (suc i)
number_past n c i x l h m a = above_past n c i x l m (omega arith) (omega (arith, place_past n x i m h))

pub above_number : (n c i x : ℕ) → i < n → x < n → c ≤ place_of n x i → above n c i x ≡ offset_rank c i x
unfolding offset_rank
above_number n c i x l h a = go (leb x i) (leb_view x i)
  where
    go : (t : Bool) → Leb x i t → above n c i x ≡ if t x (x - min c (suc i))
    go t (holds y) = above_first n c i x l (omega (arith, place_upto n x i y l))
    go t (fails y) = number_past n c i x l h y a
