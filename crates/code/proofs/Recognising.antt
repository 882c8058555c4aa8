-- Rows by recognised multipliers. Assumes nothing.
use mathlib.Core.Path.{◌≡◌, refl, sym, ap, ◌∙◌}
use mathlib.Core.List.{List}
use Prim.Native.Nat.{ℕ, ◌+◌, ◌<◌}
use native.Mathlib.Nat.{zero-add}
use native.Mathlib.Decide.{dec_lt}
use native.Mathlib.Omega.{arith}
use lib.ListN.{length, get_or, set}
use Rattle.std.specs.Prelude.{Option, None, IfSome}
use Rattle.std.proofs.lemmas.Option.{IfSome_then}
use lib.Seq.{get_or-set_same, get_or-set_other}
use Rattle.gf256.specs.Field.{pow}
use Rattle.gf256.proofs.Product.{mul_one_l}
use Rattle.gf256.proofs.PowerLaws.{pow_lt}
use Rattle.powers.specs.Powers.{Powers}
use Rattle.powers.proofs.RatioLaws.{multiplier_byte}
use Rattle.combine.specs.Combination.{combination}
use Rattle.combine.specs.Columns.{columns_at}
use Rattle.combine.proofs.Laws.{combination_same}
use Rattle.code.specs.Rows.{coefficient, parity_row, vandermonde}
use Rattle.code.specs.Filled.{Filled}
use Rattle.code.specs.Recognised.{PowersOf, Recognised}

-- the first coefficient of every row is 1
first_one : (j k : ℕ) (q : List ℕ) → Filled j 0 k q → 0 < k → get_or q 0 0 ≡ 1
unfolding coefficient pow
first_one j k q f h = f.each 0 h

powers_of : (j k m : ℕ) (q : List ℕ) → Filled j 0 k q → Powers q k m → PowersOf k j m
powers_of j k m q f p =
    record {
      some = p.some;
      known = p.known;
      each =
          λ c l. ap (coefficient vandermonde j) (sym (zero-add c)) ∙ sym (f.each c l) ∙ p.each c l
          ∙ rw (first_one j k q f p.some) (mul_one_l (pow m c) (pow_lt m c (multiplier_byte p.known)));
    }

pub recognised : (j k : ℕ) (m : Option ℕ) (q : List ℕ) → Filled j 0 k q → IfSome m (Powers q k) → Recognised k j m
recognised j k m q f h = record { powers = IfSome_then m h (λ factor p. powers_of j k factor q f p) }

-- one more in a list
pub recognised_more : (k j : ℕ) (v : Option ℕ) (m : List (Option ℕ)) → ((i : ℕ) → i < j → Recognised k i (get_or m i None))
    → j < length m → Recognised k j v
    → (i : ℕ) → i < j + 1 → Recognised k i (get_or (set m j v) i None)
recognised_more k j v m h room r i u =
    elim (dec_lt i j) [ yes w ↦ rw (get_or-set_other m j i v None (omega arith)) (h i w) | no w ↦ last (omega arith) ]
  where
    last : i ≡ j → Recognised k i (get_or (set m j v) i None)
    last w = rw (w, get_or-set_same m j v None room) r

pub powers_row : (b k j m : ℕ) (at src : List ℕ) → PowersOf k j m
    → combination b k (pow m) (columns_at at src b) ≡ parity_row vandermonde b k j (columns_at at src b)
unfolding parity_row
powers_row b k j m at src p =
    combination_same b k (pow m) (coefficient vandermonde j) (columns_at at src b) (columns_at at src b) (λ c l. sym (p.each c l))
    (λ c l. refl)
