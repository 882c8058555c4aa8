-- At the exit of a `?` the refusal is passed on, and stands for the whole list of refusals. Assumes nothing.
use mathlib.Core.Path.{◌≡◌, refl, sym, ap, ◌∙◌}
use mathlib.Core.Bool.{Bool, true, false}
use Prim.Native.Nat.{ℕ, suc}
use Rattle.std.specs.Prelude.{Result, Ok, Err}
use Rattle.std.specs.Result.{IsErrAnd}
use Rattle.std.proofs.lemmas.Result.{err_from_is_err_and}
use Rattle.base.specs.Tests.{if}
use Rattle.base.specs.Refusals.{or_else}
use Rattle.base.proofs.Refusals.{or_else_stop}
use Rattle.answer.specs.declared.Refusal.{Refusal}
use Rattle.answer.specs.declared.Refusal.TheVariants as It
use Rattle.answer.specs.Numbers.{number, refusal_number}

pub passed : {A E : Type 0} (r : Result A E) (x : E) → IsErrAnd r (λ y. y ≡ x) → r ≡ Err x
passed r x e = let p = err_from_is_err_and r e in p.1 ∙ ap Err p.2

-- a refusal has a number
pub number_some : (x : Refusal) → number x ≡ 0 → ⊥
number_some It.Shape e = cc
number_some It.TooManyNewNodes e = cc
number_some It.Length e = cc
number_some It.DamagedBook e = cc
number_some It.OutOfRange e = cc
number_some It.NotComputed e = cc
number_some It.Released e = cc
number_some It.Unfinished e = cc
number_some It.Malformed e = cc
number_some It.OtherGrowth e = cc
number_some It.Ambiguous e = cc
number_some It.Inconsistent e = cc
number_some It.Closed e = cc

-- what is refused by the first list is refused by both
pub stops : (x : Refusal) (a b : ℕ) → number x ≡ a → number x ≡ or_else a b
stops x a b e = e ∙ sym (or_else_stop a b (λ z. number_some x (e ∙ z)))

-- the test that a refusal's number tells of
pub tested_false : (x : Refusal) (t : Bool) (n : ℕ) → number x ≡ if t 0 n → (t ≡ false) × (number x ≡ n)
tested_false x true n e = absurd (number_some x e)
tested_false x false n e = (refl, e)

-- and the test that an answer without a refusal tells of
pub passed_test : (t : Bool) (n : ℕ) → 0 ≡ if t 0 (suc n) → t ≡ true
passed_test true n e = refl
passed_test false n e = cc
