-- How many transfers of a stripe stand in a list: those of each number, summed. Assumes nothing.
use mathlib.Core.Path.{◌≡◌, refl, sym, ◌∙◌}
use mathlib.Core.Logic.{◌≢◌}
use mathlib.Core.Bool.{Bool, true, false, ◌&&◌}
use mathlib.Core.List.{List, [], ◌∷◌}
use Prim.Native.Nat.{ℕ, suc, ◌+◌, ◌≤◌, ◌<◌}
use native.Mathlib.Omega.{arith}
use native.Mathlib.Decide.{dec_lt}
use lib.Dec.{ltb}
use borrow.Author.Tests.{lt-ltb, le-ltb}
use Rattle.base.specs.Tests.{if, same, same2}
use Rattle.base.specs.Folds.{sum}
use Rattle.base.proofs.Sums.{sum_same, sum_none, sum_const, sum_more}
use Rattle.base.proofs.Tests.{same_refl, not_same}
use Rattle.protocol.specs.Transfers.{Transfer, occurrences}
use Rattle.history.specs.Grown.{of_stripe}

-- a number more often by one where it is the transfer's own
abbrev more : ℕ → (ℕ → ℕ) → ℕ → ℕ
more x f e = if (same e x) (suc (f e)) (f e)

more_here : (x : ℕ) (f : ℕ → ℕ) → more x f x ≡ f x + 1
more_here x f = rw (same_refl x) (omega arith)

more_other : (x : ℕ) (f : ℕ → ℕ) (e : ℕ) → e ≢ x → more x f e ≡ f e
more_other x f e d = rw (not_same e x d)

-- none from n on, so the transfer's own is below n, and none of the others is from n on
more_sum : (n x : ℕ) (f : ℕ → ℕ) → ((e : ℕ) → n ≤ e → more x f e ≡ 0)
    → (x < n) × ((e : ℕ) → n ≤ e → f e ≡ 0) × (sum n (more x f) ≡ sum n f + 1)
more_sum n x f h = go (dec_lt x n)
  where
    go : Dec (x < n) → (x < n) × ((e : ℕ) → n ≤ e → f e ≡ 0) × (sum n (more x f) ≡ sum n f + 1)
    go (yes l) = (
      l,
      (λ e m. sym (more_other x f e (omega arith)) ∙ h e m),
      sum_more n f (more x f) x l (more_here x f) (λ e d. more_other x f e d),
    )
    go (no m) = let q = sym (more_here x f) ∙ h x (omega arith) in absurd (omega arith)

-- where no number from n on stands in it
of_stripe_law : (n w : ℕ) (list : List Transfer) → ((e : ℕ) → n ≤ e → occurrences w e list ≡ 0)
    → of_stripe w list ≡ sum n (λ e. occurrences w e list)
unfolding of_stripe occurrences same2
of_stripe_law n w [] h = sym (sum_none n (λ e. 0) (λ e. refl))
of_stripe_law n w (i ∷ list) h = go (same w i.stripe) h (of_stripe_law n w list)
  where
    f : ℕ → ℕ
    f e = occurrences w e list

    go : (b : Bool) → ((e : ℕ) → n ≤ e → if (b && same e i.item) (suc (f e)) (f e) ≡ 0)
        → (((e : ℕ) → n ≤ e → f e ≡ 0) → of_stripe w list ≡ sum n f)
        → if b (suc (of_stripe w list)) (of_stripe w list) ≡ sum n (λ e. if (b && same e i.item) (suc (f e)) (f e))
    go true g rest = let (l, none, total) = more_sum n i.item f g in
        let r = rest none in
        omega arith
    go false g rest = rest g

-- each of the first n once, and no other
pub n_of_stripe : (n w : ℕ) (list : List Transfer) → ((e : ℕ) → occurrences w e list ≡ if (ltb e n) 1 0) → of_stripe w list ≡ n
n_of_stripe n w list h =
    of_stripe_law n w list (λ e l. h e ∙ rw (le-ltb e n l))
    ∙ (sum_same n (λ e. occurrences w e list) (λ e. 1) (λ e l. h e ∙ rw (lt-ltb e n l)) ∙ (sum_const n 1 ∙ omega arith))
