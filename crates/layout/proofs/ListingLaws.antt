-- Laws of listing, counting and finding. Assumes nothing.
use mathlib.Core.Path.{◌≡◌, refl, sym, ap, ◌∙◌}
use mathlib.Core.Bool.{Bool, true, false}
use mathlib.Core.Logic.{◌⊎◌, inl, inr}
use mathlib.Core.List.{[], ◌∷◌, ◌++◌}
use Prim.Native.Nat.{ℕ, zero, suc, ◌+◌, ◌-◌, ◌*◌, ◌%◌, ◌≤◌, ◌<◌, min, zero-le}
use native.Mathlib.Nat.{le_refl, eq-or-lt_of_le, le_of_suc-le, le_step, le_of_suc-le-suc, not-suc-le-zero, add-zero, mod-eq_of_lt}
use native.Mathlib.Nat.{add-mod_left}
use native.Mathlib.Decide.{dec_lt}
use native.Mathlib.Omega.{arith}
use lib.Dec.{leb, eqb, eqb→eq}
use lib.ListN.{length, get_or, length-append, get_or-append}
use lib.Seq.{get_or-append_seam}
use borrow.Author.Tests.{eq-eqb}
use Rattle.base.specs.Tests.{if, some}
use Rattle.base.specs.Folds.{sum, indicator, filter_range, count_range, find}
use Rattle.base.proofs.Sums.{sum_periods}
use Rattle.base.proofs.Tests.{Leb, holds, fails, leb_view, Eqb, equal, other, eqb_view, some_intro, some_elim, off}

-- a search for a value among h 0 .. h (m - 1) that comes to an order
pub some_eqb : (h : ℕ → ℕ) (m v a b : ℕ) → (a ≤ b → (d : ℕ) × (d < m) × (h d ≡ v)) → ((d : ℕ) → d < m → h d ≡ v → a ≤ b)
    → some m (λ d. eqb (h d) v) ≡ leb a b
some_eqb h m v a b p q = go (leb a b) (leb_view a b) (some m f) refl
  where
    f : ℕ → Bool
    f d = eqb (h d) v

    go : (t : Bool) → Leb a b t → (u : Bool) → some m f ≡ u → some m f ≡ t
    go t (holds y) u e = let z = p y in some_intro m f z.0 z.1 (ap (λ (x : ℕ). eqb x v) z.2 ∙ eq-eqb v v refl)
    go t (fails y) true e =
        let z = some_elim m f e in
        absurd (omega (arith, q z.0 z.1 (eqb→eq (h z.0) v (rw z.2 tt))))
    go t (fails y) false e = e

-- ---- the numbers of a range that pass a test

pub length_filter : (p : ℕ → Bool) (a m : ℕ) → length (filter_range p a m) ≡ count_range p a m
unfolding filter_range count_range sum
length_filter p a zero = refl
length_filter p a (suc m) = length-append (filter_range p a m) (if (p (a + m)) ((a + m) ∷ []) [])
    ∙ rw (length_filter p a m) (go (p (a + m)))
  where
    go : (t : Bool) → count_range p a m + length (if t ((a + m) ∷ []) []) ≡ count_range p a m + indicator t
    go true = refl
    go false = refl

pub count_lt : (p : ℕ → Bool) (a x m : ℕ) → x < m → p (a + x) ≡ true → count_range p a x < count_range p a m
unfolding count_range sum
count_lt p a x zero l e = absurd (not-suc-le-zero l)
count_lt p a x (suc m) l e = go (eq-or-lt_of_le (le_of_suc-le-suc l)) (λ h. count_lt p a x m h e)
  where
    go : (x ≡ m) ⊎ (x < m) → (x < m → count_range p a x < count_range p a m) → count_range p a x < count_range p a m + indicator (p (a + m))
    go (inl q) r = rw (← q, e) (omega arith)
    go (inr q) r = omega (arith, r q)

pub filter_count : (p : ℕ → Bool) (a x m : ℕ) → x < m → p (a + x) ≡ true → get_or (filter_range p a m) (count_range p a x) 0 ≡ a + x
unfolding filter_range
filter_count p a x zero l e = absurd (not-suc-le-zero l)
filter_count p a x (suc m) l e = go (eq-or-lt_of_le (le_of_suc-le-suc l)) (λ h. filter_count p a x m h e)
  where
    go : (x ≡ m) ⊎ (x < m) → (x < m → get_or (filter_range p a m) (count_range p a x) 0 ≡ a + x)
        → get_or (filter_range p a m ++ if (p (a + m)) ((a + m) ∷ []) []) (count_range p a x) 0 ≡ a + x
    go (inl q) r = rw (← q, e, ← length_filter p a x) (get_or-append_seam (filter_range p a x) (a + x) [] 0)
    go (inr q) r =
        get_or-append (filter_range p a m) (if (p (a + m)) ((a + m) ∷ []) []) 0 (count_range p a x)
        (rw length_filter (count_lt p a x m q e)) ∙ r q

-- every number below the count is the count before one that passes
pub count_hit : (p : ℕ → Bool) (a m q : ℕ) → q < count_range p a m → (x : ℕ) × (x < m) × (p (a + x) ≡ true) × (count_range p a x ≡ q)
unfolding count_range sum
count_hit p a zero q h = absurd (not-suc-le-zero h)
count_hit p a (suc m) q h = go (p (a + m)) refl (dec_lt q (count_range p a m)) (count_hit p a m q)
  where
    go : (t : Bool) → p (a + m) ≡ t → Dec (q < count_range p a m)
        → (q < count_range p a m → (x : ℕ) × (x < m) × (p (a + x) ≡ true) × (count_range p a x ≡ q))
        → (x : ℕ) × (x < suc m) × (p (a + x) ≡ true) × (count_range p a x ≡ q)
    go t e (yes l) r = let f = r l in (f.0, le_step f.1, f.2, f.3)
    go true e (no l) r = (m, le_refl (suc m), e, omega (arith, ap indicator e))
    go false e (no l) r = absurd (omega (arith, ap indicator e))

-- ---- each remainder occurs once in a period

pub sum_eqb : (s t x : ℕ) → t < s → x ≤ s → sum x (λ y. indicator (eqb t (y % s))) ≡ min 1 (x - t)
unfolding sum
sum_eqb s t zero l h = omega arith
sum_eqb s t (suc x) l h = rw (mod-eq_of_lt h) (go (eqb t x) (eqb_view t x) (sum_eqb s t x l (le_of_suc-le h)))
  where
    go : (b : Bool) → Eqb t x b → sum x (λ y. indicator (eqb t (y % s))) ≡ min 1 (x - t)
        → sum x (λ y. indicator (eqb t (y % s))) + indicator b ≡ min 1 (suc x - t)
    go b (equal p) e = omega arith
    go b (other p) e = omega arith

pub sum_eqb_periods : (s t a : ℕ) → t < s → sum (a * s) (λ y. indicator (eqb t (y % s))) ≡ a
sum_eqb_periods s t a l =
    let f : ℕ → ℕ = λ y. indicator (eqb t (y % s)) in
    let e : sum s f ≡ 1 = omega (arith, sum_eqb s t s l (le_refl s)) in
    let z : sum 0 f ≡ 0 = omega (arith, sum_eqb s t 0 l zero-le) in
    let p : sum (a * s + 0) f ≡ a * sum s f + sum 0 f = sum_periods f s (λ y. rw add-mod_left) a 0 in
    ap (λ (m : ℕ). sum m f) (sym (add-zero (a * s))) ∙ p ∙ rw (e, z) (omega arith)

-- ---- the first that passes

-- where one passes and no other below n does, it is the one that is found
pub find_only : (n : ℕ) (f : ℕ → Bool) (d : ℕ) → d < n → f d ≡ true → ((e : ℕ) → e < n → f e ≡ true → e ≡ d) → find n f ≡ d
unfolding find
find_only zero f d l t u = absurd (not-suc-le-zero l)
find_only (suc n) f d l t u = go (eq-or-lt_of_le (le_of_suc-le-suc l)) (λ h. find_only n f d h t (λ e m. u e (le_step m)))
  where
    go : (d ≡ n) ⊎ (d < n) → (d < n → find n f ≡ d) → if (some n f) (find n f) (if (f n) n (suc n)) ≡ d
    go (inl q) r =
        let none : some n f ≡ false =
        off (λ y. let z = some_elim n f y in let m = z.1 in let e = u z.0 (le_step z.1) z.2 in absurd (omega arith)) in
        rw (none, ← q, t)
    go (inr q) r = rw (some_intro n f d q t) (r q)
