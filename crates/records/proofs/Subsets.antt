-- Words as sets of bits: one within another, none, all of the lowest, and how many. Assumes nothing.
use mathlib.Core.Path.{◌≡◌, refl, sym, ap, ap₂, ◌∙◌}
use mathlib.Core.Bool.{Bool, true, false}
use Prim.Native.Nat.{ℕ, zero, suc, ◌+◌, ◌-◌, ◌*◌, ◌/◌, ◌%◌, ◌^◌, ◌≤◌, ◌<◌, min, suc-le-suc}
use native.Mathlib.Nat.{mod-lt, zero-lt-suc, div-one, zero-min, min-le_right, add_comm, div_self, mod-eq_of_lt, div-add-mod'}
use native.Mathlib.Numerals.{add-one}
use native.Mathlib.Omega.{arith}
use lib.Arith.{lt-one}
use lib.Dec.{eqb}
use lib.Pow.{pow_pos, pow-lt, shr_lt, split, ones_lt, suc_ones}
use lib.Bits.{bit_and, and_step, and_shr, and_zero_r, and_mask, and_comm}
use lib.Count.{ones, ones_cat, ones-ones}
use borrow.Author.Tests.{eq-eqb, eqb-true}
use Rattle.base.specs.Tests.{only_if, every}
use Rattle.base.specs.Folds.{sum, indicator}
use Rattle.base.proofs.Tests.{clash, both_ways, only_if_law, if_only, every_intro, every_at}
use Rattle.base.proofs.Sums.{sum_same}
use Rattle.wire.specs.Words.{bit}
use Rattle.records.proofs.Digits.{set_digit, clear_digit, digit_set, low_bit, half_bit}

two_pos : 0 < 2
two_pos = omega arith

half_lt : (n x : ℕ) → x < 2 ^ suc n → x / 2 < 2 ^ n
half_lt n x l = shr_lt n 1 (rw (add-one n) l)

-- every bit of x is one of y
abbrev pub Within : ℕ → ℕ → ℕ → Type 0
Within n x y = (e : ℕ) → e < n → bit x e ≡ true → bit y e ≡ true

-- the smaller of two digits is the first if the second is set wherever the first is
min_digit : (x y : ℕ) → x < 2 → (x ≡ 1 → y ≡ 1) → min x y ≡ x
min_digit zero y l h = zero-min y
min_digit (suc zero) y l h = rw (h refl)
min_digit (suc (suc x)) y l h = absurd (omega arith)

-- the lowest bit is the lowest digit
lowest : (x : ℕ) → x % 2 ≡ 1 → bit x 0 ≡ true
lowest x h = digit_set x 0 (rw div-one h)

lowest_set : (x : ℕ) → bit x 0 ≡ true → x % 2 ≡ 1
lowest_set x h = rw div-one at (set_digit x 0 h)

-- x within y, both without their lowest bit
tail_within : (n x y : ℕ) → Within (suc n) x y → Within n (x / 2) (y / 2)
tail_within n x y h e l b = half_bit y e ∙ h (suc e) (suc-le-suc l) (sym (half_bit x e) ∙ b)

-- x within y: their common bits are x's
pub within_and : (n x y : ℕ) → x < 2 ^ n → Within n x y → bit_and x y ≡ x
within_and zero x y l h = let e : x ≡ 0 = lt-one l in rw e refl
within_and (suc n) x y l h =
    let t : bit_and (x / 2) (y / 2) ≡ x / 2 = within_and n (x / 2) (y / 2) (half_lt n x l) (tail_within n x y h) in
    let d : min (x % 2) (y % 2) ≡ x % 2 =
    min_digit (x % 2) (y % 2) (mod-lt x two_pos) (λ o. lowest_set y (h 0 (zero-lt-suc n) (lowest x o))) in
    and_step x y ∙ ap₂ (λ (a b : ℕ). a * 2 + b) t d ∙ div-add-mod' x 2

-- and the other way round
pub and_within : (n x y : ℕ) → bit_and x y ≡ x → Within n x y
and_within n x y h e l b =
    let common : x / 2 ^ e ≡ bit_and (x / 2 ^ e) (y / 2 ^ e) = ap (λ (a : ℕ). a / 2 ^ e) (sym h) ∙ and_shr x y e in
    let step = and_step (x / 2 ^ e) (y / 2 ^ e) in
    let less : min (x / 2 ^ e % 2) (y / 2 ^ e % 2) ≤ y / 2 ^ e % 2 = min-le_right (x / 2 ^ e % 2) (y / 2 ^ e % 2) in
    let one = set_digit x e b in
    digit_set y e (omega (arith, common, step, less, one))

-- the common bits are x's exactly if each bit of x is one of y
pub subset_test : (n x y : ℕ) → x < 2 ^ n → eqb (bit_and x y) x ≡ every n (λ e. only_if (bit x e) (bit y e))
subset_test n x y l =
    both_ways _ _
    (λ p. every_intro n _ (λ e h. only_if_law (bit x e) (bit y e) (and_within n x y (eqb-true (bit_and x y) x p) e h)))
    (λ p. eq-eqb (bit_and x y) x (within_and n x y l
    (λ e h. if_only (bit x e) (bit y e) (every_at n (λ i. only_if (bit x i) (bit y i)) p e h))))

-- no bit is set
pub none_set : (n x : ℕ) → x < 2 ^ n → ((e : ℕ) → e < n → bit x e ≡ false) → x ≡ 0
none_set n x l h = sym (within_and n x 0 l (λ e q b. absurd (clash b (h e q)))) ∙ and_zero_r x

-- all of the n lowest bits are set exactly in 2 ^ n - 1
lone_bit : (e : ℕ) → bit (2 ^ e) e ≡ true
lone_bit e = digit_set (2 ^ e) e (rw (div_self (pow_pos e)) refl)

pub all_set : (n e : ℕ) → e < n → bit (2 ^ n - 1) e ≡ true
all_set n e l = and_within n (2 ^ e) (2 ^ n - 1) (and_mask (2 ^ e) n ∙ mod-eq_of_lt (pow-lt l)) e l (lone_bit e)

pub full_test : (n x : ℕ) → x < 2 ^ n → eqb (x + 1) (2 ^ n) ≡ every n (bit x)
full_test n x l = both_ways _ _ there back
  where
    ones_are : suc (2 ^ n - 1) ≡ 2 ^ n
    ones_are = suc_ones n

    there : eqb (x + 1) (2 ^ n) ≡ true → every n (bit x) ≡ true
    there p =
        let e : x ≡ 2 ^ n - 1 = omega (arith, eqb-true (x + 1) (2 ^ n) p) in
        every_intro n (bit x) (λ i q. ap (λ (y : ℕ). bit y i) e ∙ all_set n i q)

    back : every n (bit x) ≡ true → eqb (x + 1) (2 ^ n) ≡ true
    back p =
        let a : bit_and (2 ^ n - 1) x ≡ 2 ^ n - 1 = within_and n (2 ^ n - 1) x (ones_lt n) (λ e q b. every_at n (bit x) p e q) in
        let m : bit_and (2 ^ n - 1) x ≡ x = and_comm (2 ^ n - 1) x ∙ and_mask x n ∙ mod-eq_of_lt l in
        let e : x ≡ 2 ^ n - 1 = sym m ∙ a in
        eq-eqb (x + 1) (2 ^ n) (omega (arith, e, ones_are))

-- ---- how many

top_digit : (n x : ℕ) → x < 2 ^ suc n → ones (x / 2 ^ n) ≡ indicator (bit x n)
top_digit n x l = go (bit x n) refl
  where
    small : x / 2 ^ n < 2
    small = shr_lt 1 n (rw (add_comm 1 n, add-one n) l)

    go : (t : Bool) → bit x n ≡ t → ones (x / 2 ^ n) ≡ indicator t
    go true p = let e : x / 2 ^ n ≡ 1 = omega (arith, set_digit x n p, small) in rw e (ones-ones 1)
    go false p = let e : x / 2 ^ n ≡ 0 = omega (arith, clear_digit x n p, small) in rw e (ones-ones 0)

-- the set digits of a word below 2 ^ n are its bits below n
pub ones_bits : (n x : ℕ) → x < 2 ^ n → ones x ≡ sum n (λ e. indicator (bit x e))
unfolding sum
ones_bits zero x l = ap ones (lt-one l) ∙ ones-ones 0
ones_bits (suc n) x l =
    let below : ones (x % 2 ^ n) ≡ sum n (λ e. indicator (bit (x % 2 ^ n) e)) = ones_bits n (x % 2 ^ n) (mod-lt x (pow_pos n)) in
    let same : sum n (λ e. indicator (bit (x % 2 ^ n) e)) ≡ sum n (λ e. indicator (bit x e)) =
    sum_same n _ _ (λ e h. ap indicator (low_bit x e n h)) in
    ap ones (sym (split x n)) ∙ ones_cat n (x / 2 ^ n) (x % 2 ^ n) (mod-lt x (pow_pos n))
    ∙ add_comm (ones (x / 2 ^ n)) (ones (x % 2 ^ n))
    ∙ ap₂ (λ (a b : ℕ). a + b) (below ∙ same) (top_digit n x l)
