-- Laws of sums. Assumes nothing.
use mathlib.Core.Path.{◌≡◌, refl, sym, ap, ap₂, ◌∙◌}
use mathlib.Core.Bool.{Bool, true, false, not}
use mathlib.Core.Logic.{◌⊎◌, inl, inr, ◌≢◌}
use Prim.Native.Nat.{ℕ, zero, suc, ◌+◌, ◌*◌, ◌≤◌, ◌<◌}
use native.Mathlib.Nat.{add-zero, zero-add, add-suc, zero-mul, suc-mul, eq-or-lt_of_le, le_of_suc-le-suc}
use native.Mathlib.Decide.{ℕ_discrete}
use native.Mathlib.Omega.{arith}
use Rattle.base.specs.Tests.{same}
use Rattle.base.specs.Folds.{sum, indicator, total}
use Rattle.base.specs.Updates.{update2}
use Rattle.base.proofs.Tests.{same_eq, same_not, same2_refl, not_same2_left, not_same2_right}

pub sum_same : (n : ℕ) (f g : ℕ → ℕ) → ((i : ℕ) → i < n → f i ≡ g i) → sum n f ≡ sum n g
unfolding sum
sum_same zero f g e = refl
sum_same (suc n) f g e = ap₂ ◌+◌ (sum_same n f g (λ i l. e i (omega arith))) (e n (omega arith))

pub sum_add : (n : ℕ) (f g : ℕ → ℕ) → sum n (λ i. f i + g i) ≡ sum n f + sum n g
unfolding sum
sum_add zero f g = refl
sum_add (suc n) f g = omega (arith, sum_add n f g)

-- a range in two parts
pub sum_split : (a b : ℕ) (f : ℕ → ℕ) → sum (a + b) f ≡ sum a f + sum b (λ i. f (a + i))
unfolding sum
sum_split a zero f = simp add-zero
sum_split a (suc b) f = rw add-suc (omega (arith, sum_split a b f))

-- a function of period n, over a whole periods and x places more
pub sum_periods : (f : ℕ → ℕ) (n : ℕ) → ((x : ℕ) → f (n + x) ≡ f x) → (a x : ℕ) → sum (a * n + x) f ≡ a * sum n f + sum x f
sum_periods f n h zero x = simp (zero-mul, zero-add)
sum_periods f n h (suc a) x =
    ap (λ (m : ℕ). sum m f) (omega arith)
    ∙ sum_split n (a * n + x) f
    ∙ omega (arith, sum_same (a * n + x) (λ y. f (n + y)) f (λ y l. h y), sum_periods f n h a x)

pub sum_const : (n c : ℕ) → sum n (λ i. c) ≡ n * c
unfolding sum
sum_const zero c = sym (zero-mul c)
sum_const (suc n) c = rw (sum_const n c) (sym (suc-mul n c))

pub sum_none : (n : ℕ) (f : ℕ → ℕ) → ((i : ℕ) → f i ≡ 0) → sum n f ≡ 0
unfolding sum
sum_none zero f z = refl
sum_none (suc n) f z = let r = sum_none n f z in let q = z n in omega arith

-- one more at one place
pub sum_more : (n : ℕ) (f g : ℕ → ℕ) (x : ℕ) → x < n → g x ≡ f x + 1 → ((i : ℕ) → i ≢ x → g i ≡ f i) → sum n g ≡ sum n f + 1
unfolding sum
sum_more zero f g x l e o = absurd (omega arith)
sum_more (suc n) f g x l e o = go (same n x) refl (sum_more n f g x)
  where
    go : (b : Bool) → same n x ≡ b → (x < n → g x ≡ f x + 1 → ((i : ℕ) → i ≢ x → g i ≡ f i) → sum n g ≡ sum n f + 1)
        → sum n g + g n ≡ (sum n f + f n) + 1
    go true p ih =
        let q = same_eq n x p in
        let r : sum n g ≡ sum n f = sum_same n g f (λ i l. let d : i ≢ x = λ z. absurd (omega arith) in o i d) in
        let e' : g n ≡ f n + 1 = rw q e in
        omega arith
    go false p ih =
        let d = same_not n x p in
        let r = ih (omega arith) e o in
        let e' = o n d in
        omega arith

pub sum_le : (n c : ℕ) (f : ℕ → ℕ) → ((i : ℕ) → f i ≤ c) → sum n f ≤ n * c
unfolding sum
sum_le zero c f b = omega arith
sum_le (suc n) c f b = let r = sum_le n c f b in let q = b n in omega arith

pub sum_lt : (n c : ℕ) (f : ℕ → ℕ) → ((i : ℕ) → f i ≤ c) → (x : ℕ) → x < n → f x < c → sum n f < n * c
unfolding sum
sum_lt zero c f b x l k = absurd (omega arith)
sum_lt (suc n) c f b x l k = go (same x n) refl (sum_lt n c f b x)
  where
    go : (t : Bool) → same x n ≡ t → (x < n → f x < c → sum n f < n * c) → sum n f + f n < suc n * c
    go true p ih = let q : f n < c = rw (← (same_eq x n p)) k in let r = sum_le n c f b in omega arith
    go false p ih = let d = same_not x n p in let r = ih (omega arith) k in let q = b n in omega arith

-- where one is no more than the other at each place, so are the sums
pub sum_mono : (n : ℕ) (f g : ℕ → ℕ) → ((i : ℕ) → i < n → f i ≤ g i) → sum n f ≤ sum n g
unfolding sum
sum_mono zero f g h = omega arith
sum_mono (suc n) f g h = let r = sum_mono n f g (λ i l. h i (omega arith)) in let q = h n (omega arith) in omega arith

-- two sums, in either order
pub sum_swap : (n m : ℕ) (f : ℕ → ℕ → ℕ) → sum n (λ i. sum m (λ j. f i j)) ≡ sum m (λ j. sum n (λ i. f i j))
unfolding sum
sum_swap zero m f = sym (sum_none m (λ j. 0) (λ j. refl))
sum_swap (suc n) m f = ap (λ (x : ℕ). x + sum m (λ j. f n j)) (sum_swap n m f) ∙ sym (sum_add m (λ j. sum n (λ i. f i j)) (λ j. f n j))

-- a part is no more than the sum
pub sum_part : (m : ℕ) (f : ℕ → ℕ) (j : ℕ) → j < m → f j ≤ sum m f
unfolding sum
sum_part zero f j h = absurd (omega arith)
sum_part (suc m) f j h = go (ℕ_discrete j m) (λ l. sum_part m f j l)
  where
    go : Dec (j ≡ m) → (j < m → f j ≤ sum m f) → f j ≤ sum m f + f m
    go (yes e) r = rw e (omega arith)
    go (no d) r = let q = r (omega arith) in omega arith

-- a sum that is 0 is so at each place
pub sum_zero : (n : ℕ) (f : ℕ → ℕ) → sum n f ≡ 0 → (i : ℕ) → i < n → f i ≡ 0
unfolding sum
sum_zero zero f e i h = absurd (omega arith)
sum_zero (suc n) f e i h = go (eq-or-lt_of_le (le_of_suc-le-suc h)) (sum_zero n f (omega arith) i)
  where
    go : (i ≡ n) ⊎ (i < n) → (i < n → f i ≡ 0) → f i ≡ 0
    go (inl q) r = rw q (omega arith)
    go (inr l) r = r l

-- ---- marked pairs

pub indicator_le : (b : Bool) → indicator b ≤ 1
indicator_le true = omega arith
indicator_le false = omega arith

pub total_none : (p n : ℕ) → total p n (λ w e. false) ≡ 0
unfolding total
total_none p n = sum_none p _ (λ w. sum_none n _ (λ e. refl))

-- a mark that was missing
pub total_set : (p n : ℕ) (f : ℕ → ℕ → Bool) (w e : ℕ) → w < p → e < n → f w e ≡ false → total p n (update2 f w e true) ≡ total p n f + 1
unfolding total
total_set p n f w e lw le h =
    sum_more p (λ x. sum n (λ y. indicator (f x y))) (λ x. sum n (λ y. indicator (update2 f w e true x y))) w lw
    (sum_more n (λ y. indicator (f w y)) (λ y. indicator (update2 f w e true w y)) e le (rw (same2_refl w e, h))
    (λ y d. rw (not_same2_right w w y e d)))
    (λ x d. sum_same n _ _ (λ y l. rw (not_same2_left x w y e d)))

-- where a mark is missing, not all are set
pub total_room : (p n : ℕ) (f : ℕ → ℕ → Bool) (w e : ℕ) → w < p → e < n → f w e ≡ false → total p n f < p * n
unfolding total
total_room p n f w e lw le h =
    sum_lt p n (λ x. sum n (λ y. indicator (f x y))) (λ x. rows x) w lw
    (let r : sum n (λ y. indicator (f w y)) < n * 1 =
    sum_lt n 1 (λ y. indicator (f w y)) (λ y. indicator_le (f w y)) e le (rw h (omega arith)) in omega arith)
  where
    rows : (x : ℕ) → sum n (λ y. indicator (f x y)) ≤ n
    rows x = let r = sum_le n 1 (λ y. indicator (f x y)) (λ y. indicator_le (f x y)) in omega arith

-- the marks that are set and those that are missing are all there are
either : (b : Bool) → indicator b + indicator (not b) ≡ 1
either true = refl
either false = refl

pub total_rest : (p n : ℕ) (f : ℕ → ℕ → Bool) → total p n f + total p n (λ w e. not (f w e)) ≡ p * n
unfolding total
total_rest p n f = sym (sum_add p (λ w. sum n (λ e. indicator (f w e))) (λ w. sum n (λ e. indicator (not (f w e)))))
    ∙ (sum_same p _ (λ w. n) (λ w l. row w) ∙ sum_const p n)
  where
    row : (w : ℕ) → sum n (λ e. indicator (f w e)) + sum n (λ e. indicator (not (f w e))) ≡ n
    row w = sym (sum_add n (λ e. indicator (f w e)) (λ e. indicator (not (f w e))))
        ∙ (sum_same n _ (λ e. 1) (λ e l. either (f w e)) ∙ (sum_const n 1 ∙ omega arith))

-- where every mark is set
pub total_full : (p n : ℕ) (f : ℕ → ℕ → Bool) → ((w e : ℕ) → w < p → e < n → f w e ≡ true) → total p n f ≡ p * n
unfolding total
total_full p n f h = sum_same p _ (λ w. n) (λ w l. row w l) ∙ sum_const p n
  where
    row : (w : ℕ) → w < p → sum n (λ e. indicator (f w e)) ≡ n
    row w l = sum_same n _ (λ e. 1) (λ e k. ap indicator (h w e l k)) ∙ (sum_const n 1 ∙ omega arith)
