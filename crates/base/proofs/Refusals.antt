-- Laws of refusals. Assumes nothing.
use mathlib.Core.Path.{◌≡◌, refl, ap, ◌∙◌}
use mathlib.Core.List.{List, [], ◌∷◌, ◌++◌}
use mathlib.Core.Bool.{Bool, true, false}
use Prim.Native.Nat.{ℕ, zero, suc, ◌<◌}
use native.Mathlib.Omega.{arith}
use lib.Dec.{T, ltb, ltb→lt}
use borrow.Author.Tests.{lt-ltb, le-ltb, le-leb, lt-leb, eq-eqb, ne_eqb}
use Rattle.base.specs.Tests.{if}
use Rattle.base.specs.Refusals.{Refusal, first, or_else}

-- a refusal's return: `search tests` turns what the branches on the way tell into the tests of the list
pub ruleset tests = (lt-ltb, le-ltb, le-leb, lt-leb, eq-eqb, ne_eqb)

-- no refusal of a list applies; each has a number above 0
abbrev pub NoneApplies : List Refusal → Type 0
NoneApplies [] = Unit {0}
NoneApplies (r ∷ rs) = (r.applies ≡ false) × NoneApplies rs

abbrev pub Numbered : List Refusal → Type 0
Numbered [] = Unit {0}
Numbered (r ∷ rs) = T (ltb 0 r.refusal) × Numbered rs

-- where the answer is 0, none applied
pub first_zero : (rs : List Refusal) → Numbered rs → first rs ≡ 0 → NoneApplies rs
first_zero [] n e = tt
first_zero (r ∷ rs) n e = go r.applies refl e (first_zero rs n.1)
  where
    go : (t : Bool) → r.applies ≡ t → if t r.refusal (first rs) ≡ 0 → (first rs ≡ 0 → NoneApplies rs) → (r.applies ≡ false)
        × NoneApplies rs
    go true h z rest = let p : 0 < r.refusal = ltb→lt 0 r.refusal n.0 in absurd (omega arith)
    go false h z rest = (h, rest z)

-- where none applies, the answer is 0
pub first_none : (rs : List Refusal) → NoneApplies rs → first rs ≡ 0
first_none [] p = refl
first_none (r ∷ rs) p = rw p.0 (first_none rs p.1)

-- ---- one list after another

pub or_else_zero : (a b : ℕ) → or_else a b ≡ 0 → (a ≡ 0) × (b ≡ 0)
or_else_zero zero b e = (refl, e)
or_else_zero (suc a) b e = absurd (omega arith)

pub or_else_pass : (a b : ℕ) → a ≡ 0 → or_else a b ≡ b
or_else_pass a b e = rw e

pub or_else_stop : (a b : ℕ) → (a ≡ 0 → ⊥) → or_else a b ≡ a
or_else_stop zero b h = absurd (h refl)
or_else_stop (suc a) b h = refl

pub or_else_then : (a b c : ℕ) → or_else (or_else a b) c ≡ or_else a (or_else b c)
or_else_then zero b c = refl
or_else_then (suc a) b c = refl

pub first_then : (rs ss : List Refusal) → Numbered rs → or_else (first rs) (first ss) ≡ first (rs ++ ss)
first_then [] ss n = refl
first_then (r ∷ rs) ss n = go r.applies (first_then rs ss n.1)
  where
    go : (t : Bool) → or_else (first rs) (first ss) ≡ first (rs ++ ss)
        → or_else (if t r.refusal (first rs)) (first ss) ≡ if t r.refusal (first (rs ++ ss))
    go true rest = let p : 0 < r.refusal = ltb→lt 0 r.refusal n.0 in or_else_stop r.refusal (first ss) (λ e. omega arith)
    go false rest = rest

-- a chain of tests that is made in two parts
pub in_parts : (a : ℕ) (rs ss : List Refusal) → Numbered rs → or_else (or_else a (first rs)) (first ss) ≡ or_else a (first (rs ++ ss))
in_parts a rs ss n = or_else_then a (first rs) (first ss) ∙ ap (or_else a) (first_then rs ss n)
