-- FORMAT §12; document 01, "Who can cause a no": refusals are tried in order, and the first that applies is the answer. Assumes nothing.
use Rattle.std.specs.Prelude.{Bool, List, [], ◌∷◌, ℕ, zero, suc}
use Rattle.base.specs.Tests.{if}

-- a refusal as a call's list has it: the test that brings it about, and its number
pub record Refusal : Type 0 where
  pub applies : Bool
  pub refusal : ℕ

abbrev pub refuse : Bool → ℕ → Refusal
refuse test refusal = record { applies = test; refusal = refusal }

-- the number of the first refusal that applies; 0 where none does
abbrev pub first : List Refusal → ℕ
first [] = 0
first (r ∷ rs) = if r.applies r.refusal (first rs)

-- a number, and another where it is 0: two lists of refusals, one after the other
abbrev pub or_else : ℕ → ℕ → ℕ
or_else zero b = b
or_else (suc a) b = suc a
