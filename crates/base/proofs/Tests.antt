-- Laws of tests. Assumes nothing.
use mathlib.Core.Path.{◌≡◌, refl, sym, ◌∙◌}
use mathlib.Core.Bool.{Bool, true, false, not, ◌&&◌, ◌||◌, or-true, true-or, false≢true}
use mathlib.Core.List.{List, [], ◌∷◌}
use mathlib.Core.Logic.{◌⊎◌, inl, inr, ◌≢◌}
use Prim.Native.Nat.{ℕ, zero, suc, ◌+◌, ◌≤◌, ◌<◌}
use native.Mathlib.Nat.{eq-or-lt_of_le, le_of_suc-le-suc, le_refl, le_step, le_antisymm}
use native.Mathlib.Decide.{dec_lt}
use native.Mathlib.Numerals.{add-one}
use native.Mathlib.Omega.{arith}
use lib.Dec.{T, eqb, ltb, leb, eqb→eq, eqb_refl, ltb→lt, lt→ltb}
use borrow.Author.Tests.{leb-true, leb-false, eqb-true, eqb-false, not-true, not-false}
use Rattle.base.specs.Tests.{same, below, same2, only_if, every, some, all}

-- ---- truth values

pub T_of : (b : Bool) → b ≡ true → T b
T_of true e = tt
T_of false e = absurd (false≢true e)

pub of_t : (b : Bool) → T b → b ≡ true
of_t true t = refl
of_t false t = absurd t

pub clash : {b : Bool} → b ≡ true → b ≡ false → ⊥
clash p q = false≢true (sym q ∙ p)

-- what is not true is false
pub off : {b : Bool} → (b ≡ true → ⊥) → b ≡ false
off {b} h = (elim b as (λ b. (b ≡ true → ⊥) → b ≡ false) [ true ↦ λ k. absurd (k refl) | false ↦ λ k. refl ]) h

pub and_left : (a b : Bool) → a && b ≡ true → a ≡ true
and_left true b e = refl
and_left false b e = e

pub and_right : (a b : Bool) → a && b ≡ true → b ≡ true
and_right true b e = e
and_right false b e = absurd (clash e refl)

pub and_both : (a b : Bool) → a ≡ true → b ≡ true → a && b ≡ true
and_both a b p q = rw (p, q)

-- beside a test, another needs to be the same only where that one is true
pub and_same : (a b c : Bool) → (a ≡ true → b ≡ c) → a && b ≡ a && c
and_same true b c h = h refl
and_same false b c h = refl

-- two tests that follow from each other are the same
pub both_ways : (a b : Bool) → (a ≡ true → b ≡ true) → (b ≡ true → a ≡ true) → a ≡ b
both_ways true b p q = sym (p refl)
both_ways false b p q = sym (off (λ e. clash (q e) refl))

pub only_if_law : (a b : Bool) → (a ≡ true → b ≡ true) → only_if a b ≡ true
only_if_law true b h = h refl
only_if_law false b h = refl

pub if_only : (a b : Bool) → only_if a b ≡ true → a ≡ true → b ≡ true
if_only true b h e = h
if_only false b h e = absurd (clash e refl)

-- ---- two numbers

pub eqb_same : (x : ℕ) → eqb x x ≡ true
eqb_same x = of_t (eqb x x) (eqb_refl x)

pub same_refl : (x : ℕ) → same x x ≡ true
unfolding same
same_refl x = eqb_same x

pub same_eq : (x y : ℕ) → same x y ≡ true → x ≡ y
unfolding same
same_eq x y e = eqb→eq x y (T_of (eqb x y) e)

pub same_not : (x y : ℕ) → same x y ≡ false → x ≢ y
same_not x y e p = clash (rw p (same_refl y)) e

pub not_same : (x y : ℕ) → x ≢ y → same x y ≡ false
not_same x y d = off (λ e. d (same_eq x y e))

-- of two tests one after the other, the number that either finds below another is
pub first_lt : (a b : ℕ) (t : Bool) → ltb a b && t ≡ true → a < b
first_lt a b t e = ltb→lt a b (T_of (ltb a b) (and_left (ltb a b) t e))

pub second_lt : (t : Bool) (a b : ℕ) → t && ltb a b ≡ true → a < b
second_lt t a b e = ltb→lt a b (T_of (ltb a b) (and_right t (ltb a b) e))

pub below_lt : (x y : ℕ) → below x y ≡ true → x < y
unfolding below
below_lt x y e = ltb→lt x y (T_of (ltb x y) e)

pub lt_below : (x y : ℕ) → x < y → below x y ≡ true
unfolding below
lt_below x y h = of_t (ltb x y) (lt→ltb x y h)

pub below_le : (x y : ℕ) → below x y ≡ false → y ≤ x
below_le x y e = elim (dec_lt x y) [ yes l ↦ absurd (clash (lt_below x y l) e) | no l ↦ omega arith ]

-- ---- two pairs

pub same2_refl : (w e : ℕ) → same2 w w e e ≡ true
unfolding same2
same2_refl w e = rw (same_refl w, same_refl e)

pub same2_left : (x w y e : ℕ) → same2 x w y e ≡ true → x ≡ w
unfolding same2
same2_left x w y e h = same_eq x w (and_left (same x w) (same y e) h)

pub same2_right : (x w y e : ℕ) → same2 x w y e ≡ true → y ≡ e
unfolding same2
same2_right x w y e h = same_eq y e (and_right (same x w) (same y e) h)

pub not_same2_left : (x w y e : ℕ) → x ≢ w → same2 x w y e ≡ false
unfolding same2
not_same2_left x w y e d = rw (not_same x w d)

pub not_same2_right : (x w y e : ℕ) → y ≢ e → same2 x w y e ≡ false
unfolding same2
not_same2_right x w y e d = rw (not_same y e d) (elim (same x w) as (λ b. b && false ≡ false) [ true ↦ refl | false ↦ refl ])

-- ---- what the outcome of a test says of its numbers

pub data Leb (a b : ℕ) : Bool → Type 0 where
  holds : a ≤ b → Leb a b true
  fails : b < a → Leb a b false

pub leb_view : (a b : ℕ) → Leb a b (leb a b)
leb_view a b = go (leb a b) refl
  where
    go : (t : Bool) → leb a b ≡ t → Leb a b t
    go true e = holds (leb-true a b e)
    go false e = fails (leb-false a b e)

pub data Eqb (a b : ℕ) : Bool → Type 0 where
  equal : a ≡ b → Eqb a b true
  other : a ≢ b → Eqb a b false

pub eqb_view : (a b : ℕ) → Eqb a b (eqb a b)
eqb_view a b = go (eqb a b) refl
  where
    go : (t : Bool) → eqb a b ≡ t → Eqb a b t
    go true e = equal (eqb-true a b e)
    go false e = other (eqb-false a b e)

-- ---- every number below n

pub every_at : (n : ℕ) (f : ℕ → Bool) → every n f ≡ true → (i : ℕ) → i < n → f i ≡ true
unfolding every
every_at zero f e i h = absurd (omega arith)
every_at (suc n) f e i h = go (eq-or-lt_of_le (le_of_suc-le-suc h)) (every_at n f (and_right (f n) (every n f) e) i)
  where
    go : (i ≡ n) ⊎ (i < n) → (i < n → f i ≡ true) → f i ≡ true
    go (inl q) r = rw q (and_left (f n) (every n f) e)
    go (inr l) r = r l

pub every_intro : (n : ℕ) (f : ℕ → Bool) → ((i : ℕ) → i < n → f i ≡ true) → every n f ≡ true
unfolding every
every_intro zero f h = refl
every_intro (suc n) f h = and_both (f n) (every n f) (h n (omega arith)) (every_intro n f (λ i l. h i (omega arith)))

-- a loop that tests: it starts, takes one test more, and ends at a test that fails
pub every_none : (f : ℕ → Bool) → every 0 f ≡ true
unfolding every
every_none f = refl

pub every_more : (n : ℕ) (f : ℕ → Bool) → every n f ≡ true → f n ≡ true → every (n + 1) f ≡ true
unfolding every
every_more n f e q = rw (add-one, q) e

pub every_fails : (n : ℕ) (f : ℕ → Bool) (i : ℕ) → i < n → f i ≡ false → every n f ≡ false
every_fails n f i h q = off (λ e. clash (every_at n f e i h) q)

-- a loop that leaves where a call tells that a test fails: there, a turn, and its end
pub every_stop : (n : ℕ) (f : ℕ → Bool) (i : ℕ) {t : Bool} → i < n → t ≡ f i → not t ≡ true → false ≡ every n f
every_stop n f i {t} h e q = sym (every_fails n f i h (sym e ∙ not-true t q))

pub every_turn : (n : ℕ) (f : ℕ → Bool) {t : Bool} → every n f ≡ true → t ≡ f n → not t ≡ false → every (n + 1) f ≡ true
every_turn n f {t} h e q = every_more n f h (sym e ∙ not-false t q)

pub every_end : (n : ℕ) (f : ℕ → Bool) {m : ℕ} → every n f ≡ true → n ≤ m → m ≤ n → true ≡ every m f
every_end n f {m} e l u = rw (le_antisymm l u) at (sym e)

pub every_same : (n : ℕ) (f g : ℕ → Bool) → ((i : ℕ) → i < n → f i ≡ g i) → every n f ≡ every n g
unfolding every
every_same zero f g h = refl
every_same (suc n) f g h = rw (h n (omega arith), every_same n f g (λ i l. h i (omega arith)))

pub every_suc : (n : ℕ) (f : ℕ → Bool) → every (suc n) f ≡ f n && every n f
unfolding every
every_suc n f = refl

-- where not every number passes, there is one that fails
pub every_false : (n : ℕ) (f : ℕ → Bool) → every n f ≡ false → (i : ℕ) × (i < n) × (f i ≡ false)
unfolding every
every_false zero f e = absurd (false≢true (sym e))
every_false (suc n) f e = go (f n) refl e (every_false n f)
  where
    go : (t : Bool) → f n ≡ t → t && every n f ≡ false → (every n f ≡ false → (i : ℕ) × (i < n) × (f i ≡ false)) → (i : ℕ) × (i < suc n)
        × (f i ≡ false)
    go true q h rest = let r = rest h in (r.0, omega (arith, r.1), r.2)
    go false q h rest = (n, omega arith, q)

-- a test that is computed at each number below n, and what it shows
pub every_test : (n : ℕ) (f : ℕ → Bool) → T (every n f) → (i : ℕ) → i < n → T (f i)
every_test n f t i h = T_of (f i) (every_at n f (of_t (every n f) t) i h)

-- ---- some number below n

pub some_intro : (n : ℕ) (f : ℕ → Bool) (i : ℕ) → i < n → f i ≡ true → some n f ≡ true
unfolding some
some_intro zero f i h e = absurd (omega arith)
some_intro (suc n) f i h e = go (eq-or-lt_of_le (le_of_suc-le-suc h)) (λ l. some_intro n f i l e)
  where
    go : (i ≡ n) ⊎ (i < n) → (i < n → some n f ≡ true) → (some n f || f n) ≡ true
    go (inl q) r = rw (← q, e) (or-true (some i f))
    go (inr q) r = rw (r q) (true-or (f n))

pub some_elim : (n : ℕ) (f : ℕ → Bool) → some n f ≡ true → (i : ℕ) × (i < n) × (f i ≡ true)
unfolding some
some_elim zero f e = absurd (false≢true e)
some_elim (suc n) f e = go (some n f) refl (f n) refl (some_elim n f) e
  where
    go : (a : Bool) → some n f ≡ a → (b : Bool) → f n ≡ b → (some n f ≡ true → (i : ℕ) × (i < n) × (f i ≡ true)) → (a || b) ≡ true → (i : ℕ)
        × (i < suc n) × (f i ≡ true)
    go true p b q r h = let z = r p in (z.0, le_step z.1, z.2)
    go false p true q r h = (n, le_refl (suc n), q)
    go false p false q r h = absurd (false≢true h)

-- ---- every test of a list

abbrev pub AllTrue : List Bool → Type 0
AllTrue [] = Unit {0}
AllTrue (t ∷ ts) = (t ≡ true) × AllTrue ts

pub all_true : (ts : List Bool) → all ts ≡ true → AllTrue ts
all_true [] e = tt
all_true (t ∷ ts) e = (and_left t (all ts) e, all_true ts (and_right t (all ts) e))

pub all_pass : (ts : List Bool) → AllTrue ts → all ts ≡ true
all_pass [] h = refl
all_pass (t ∷ ts) h = and_both t (all ts) h.0 (all_pass ts h.1)
