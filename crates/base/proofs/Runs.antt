-- Laws of runs. Assumes nothing.
use mathlib.Core.Path.{◌≡◌, refl, sym, ap, ◌∙◌}
use Prim.Native.Nat.{ℕ, zero, suc, ◌+◌, ◌-◌, ◌≤◌, ◌<◌}
use native.Mathlib.Nat.{zero-add, sub_self, le_antisymm}
use native.Mathlib.Numerals.{add-one}
use native.Mathlib.Omega.{arith}
use Rattle.base.specs.Folds.{run}

module _ {A : Type 0} (f : ℕ → A → A) where
  -- one step more
  pub run_more : (p n : ℕ) (a : A) → f (p + n) (run f p n a) ≡ run f p (n + 1) a
  unfolding run
  run_more p n a = rw add-one

  -- what every step keeps, the run keeps
  pub run_keeps {ℓ} : {B : Type ℓ} (g : A → B) (p n : ℕ) (a : A) → ((q : ℕ) (e : A) → p ≤ q → q < p + n → g (f q e) ≡ g e)
      → g (run f p n a) ≡ g a
  unfolding run
  run_keeps g p zero a h = refl
  run_keeps g p (suc n) a h = h (p + n) (run f p n a) (omega arith) (omega arith) ∙ run_keeps g p n a (λ q e l u. h q e l (omega arith))

  -- ---- a loop from 0: it starts, takes one step more, and ends

  pub run_start : (a : A) → a ≡ run f 0 0 a
  unfolding run
  run_start a = refl

  pub run_turn : (n : ℕ) (a : A) {e g : A} → e ≡ run f 0 n a → g ≡ f n e → g ≡ run f 0 (n + 1) a
  run_turn n a {e} {g} h q = q ∙ rw h (ap (λ x. f x (run f 0 n a)) (sym (zero-add n)) ∙ run_more 0 n a)

  pub run_end : (n : ℕ) (a : A) {e : A} {m : ℕ} → e ≡ run f 0 n a → n ≤ m → m ≤ n → e ≡ run f 0 m a
  run_end n a {e} {m} h l u = rw (le_antisymm l u) at h

  -- ---- a loop over a range p .. q

  pub range_start : (p : ℕ) (a : A) → a ≡ run f p (p - p) a
  unfolding run
  range_start p a = rw sub_self

  pub range_turn : (p q : ℕ) (a : A) → p ≤ q → f q (run f p (q - p) a) ≡ run f p (q + 1 - p) a
  range_turn p q a h =
      let e : q + 1 - p ≡ q - p + 1 = omega arith in
      let g : p + (q - p) ≡ q = omega arith in
      rw e (ap (λ x. f x (run f p (q - p) a)) (sym g) ∙ run_more p (q - p) a)

-- what each step of a run from 0 carries on, the run does
module _ {A : Type 0} (f : ℕ → A → A) (P : ℕ → A → Type 0) where
  pub run_each : (n : ℕ) (a : A) → P 0 a → ((q : ℕ) (e : A) → q < n → P q e → P (suc q) (f q e)) → P n (run f 0 n a)
  unfolding run
  run_each zero a first next = first
  run_each (suc n) a first next =
      rw (zero-add n) (next n (run f 0 n a) (omega arith) (run_each n a first (λ q e l. next q e (omega arith))))
