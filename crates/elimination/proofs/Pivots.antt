-- The pivot of a row: its last unknown place. Assumes nothing.
use mathlib.Core.Path.{◌≡◌, refl, ap, ◌∙◌}
use mathlib.Core.List.{List}
use mathlib.Core.Bool.{Bool, true, false}
use mathlib.Core.Logic.{◌⊎◌, inl, inr}
use Prim.Native.Nat.{ℕ, zero, suc, ◌<◌}
use native.Mathlib.Decide.{dec_lt}
use native.Mathlib.Omega.{arith}
use lib.Dec.{ltb}
use borrow.Author.Tests.{ltb-true, ltb-false}
use Rattle.base.specs.Tests.{if}
use Rattle.elimination.specs.Matrix.{entry, last_below, has_unknown, pivot_of}

-- ---- the last of the first n that pass a test

pub record Last (f : ℕ → Bool) (n p : ℕ) : Type 0 where
  pub below : p < n
  pub here : f p ≡ true
  pub after : (o : ℕ) → p < o → o < n → f o ≡ false

-- none of the first n passes, or p is the last that does
abbrev pub LastCases : (ℕ → Bool) → ℕ → Type 0
LastCases f n = ((last_below f n ≡ 0) × ((o : ℕ) → o < n → f o ≡ false)) ⊎ ((p : ℕ) × (last_below f n ≡ suc p) × Last f n p)

pub last_cases : (f : ℕ → Bool) (n : ℕ) → LastCases f n
unfolding last_below
last_cases f zero = inl (refl, λ o h. absurd (omega arith))
last_cases f (suc n) = go (f n) refl (last_cases f n)
  where
    go : (t : Bool) → f n ≡ t → LastCases f n
        → ((if (f n) (suc n) (last_below f n) ≡ 0) × ((o : ℕ) → o < suc n → f o ≡ false))
        ⊎ ((p : ℕ) × (if (f n) (suc n) (last_below f n) ≡ suc p) × Last f (suc n) p)
    go true e r = inr (n, rw e refl, record { below = omega arith; here = e; after = λ o a b. absurd (omega arith) })
    go false e (inl z) = inl (rw e z.0, λ o h. elim (dec_lt o n) [ yes lt ↦ z.1 o lt | no ge ↦ (let q : o ≡ n = omega arith in rw q e) ])
    go false e (inr (p, z, l)) =
        inr (
          p,
          rw e z,
          record {
            below = omega (arith, l.below);
            here = l.here;
            after =
                λ o a b. elim (dec_lt o n) [ yes lt ↦ l.after o a lt | no ge ↦ (let q : o ≡ n = omega arith in rw q e) ];
          },
        )

-- ---- the pivots of a row

module _ (unknown : ℕ → Bool) (k : ℕ) (w : List ℕ) (j : ℕ) where
  -- row j has no unknown place
  pub record None : Type 0 where
    pub zero_at : (p : ℕ) → p < k → unknown p ≡ true → entry w j p ≡ 0

  -- p is the last unknown place of row j
  pub record IsLast (p : ℕ) : Type 0 where
    pub below : p < k
    pub is_unknown : unknown p ≡ true
    pub here : 0 < entry w j p
    pub after : (o : ℕ) → p < o → o < k → unknown o ≡ true → entry w j o ≡ 0

  hit_zero : (o : ℕ) → has_unknown unknown w j o ≡ false → unknown o ≡ true → entry w j o ≡ 0
  unfolding has_unknown
  hit_zero o e u = let z : ltb 0 (entry w j o) ≡ false = rw u at e in omega (arith, ltb-false 0 (entry w j o) z)

  hit_split : (o : ℕ) (t : Bool) → unknown o ≡ t → has_unknown unknown w j o ≡ true → (unknown o ≡ true) × (0 < entry w j o)
  unfolding has_unknown
  hit_split o true u e = let z : ltb 0 (entry w j o) ≡ true = rw u at e in (u, ltb-true 0 (entry w j o) z)
  hit_split o false u e = let z : false ≡ true = rw u at e in absurd (no_false z)
    where
      no_false : false ≡ true → ⊥
      no_false z = let y : ◌≡◌ {A = ℕ} 0 1 = cc in omega arith

  -- row j has no pivot, or p is its pivot
  abbrev pub PivotCases : Type 0
  PivotCases = ((pivot_of unknown k w j ≡ 0) × None) ⊎ ((p : ℕ) × (pivot_of unknown k w j ≡ suc p) × IsLast p)

  pub pivot_cases : PivotCases
  unfolding pivot_of
  pivot_cases = go (last_cases (has_unknown unknown w j) k)
    where
      go : LastCases (has_unknown unknown w j) k
          → ((last_below (has_unknown unknown w j) k ≡ 0) × None) ⊎ ((p : ℕ) × (last_below (has_unknown unknown w j) k ≡ suc p) × IsLast p)
      go (inl z) = inl (z.0, record { zero_at = λ p h u. hit_zero p (z.1 p h) u })
      go (inr (p, e, l)) =
          let s = hit_split p (unknown p) refl l.here in
          inr (p, e, record { below = l.below; is_unknown = s.0; here = s.1; after = λ o a b u. hit_zero o (l.after o a b) u })

  pub none_not_last : (p : ℕ) → None → IsLast p → ⊥
  none_not_last p z l = omega (arith, z.zero_at p l.below l.is_unknown, l.here)

  pub last_unique : (p q : ℕ) → IsLast p → IsLast q → p ≡ q
  last_unique p q a b = go (dec_lt p q) (dec_lt q p)
    where
      go : Dec (p < q) → Dec (q < p) → p ≡ q
      go (yes x) s = absurd (omega (arith, a.after q x b.below b.is_unknown, b.here))
      go (no x) (yes y) = absurd (omega (arith, b.after p y a.below a.is_unknown, a.here))
      go (no x) (no y) = omega arith

  pub pivot_none : None → pivot_of unknown k w j ≡ 0
  pivot_none z = elim pivot_cases [ inl r ↦ r.0 | inr r ↦ absurd (none_not_last r.0 z r.2) ]

  pub pivot_last : (p : ℕ) → IsLast p → pivot_of unknown k w j ≡ suc p
  pivot_last p l = elim pivot_cases [ inl r ↦ absurd (none_not_last p r.1 l) | inr r ↦ r.1 ∙ ap suc (last_unique r.0 p r.2 l) ]
