-- The rows that give the lost columns, as they are found column by column. Assumes nothing.
use mathlib.Core.Path.{◌≡◌, sym, ap, ◌∙◌}
use mathlib.Core.List.{List}
use mathlib.Core.Bool.{true, false≢true}
use Prim.Native.Nat.{ℕ, ◌+◌, ◌≤◌, ◌<◌}
use native.Mathlib.Decide.{ℕ_discrete, dec_lt}
use native.Mathlib.Nat.{le_antisymm}
use native.Mathlib.Omega.{arith}
use lib.ListN.{length, get_or, set, replicate, get_or-replicate}
use lib.Seq.{get_or-set_same, get_or-set_other}
use borrow.Author.Tests.{eq-eqb, ne_eqb}
use Rattle.code.specs.Agreement.{is_lost}
use Rattle.solver.specs.declared.Column.{Column}
use Rattle.solver.specs.declared.Column.TheVariants.{FixedBy}
use Rattle.solver.specs.Solution.{column_of}
use Rattle.recovery.proofs.Vectors.{past}
use Rattle.rebuild.specs.Steps.{is_fixed, fixing_row, column_holds, FixingRows}
use Rattle.rebuild.proofs.StoreLaws.{fixing_row_lt}

-- ---- the cases of a column

module _ (k : ℕ) (losses w : List ℕ) (c : ℕ) where
  pub column_present : (get_or losses c 0 ≡ 1 → ⊥) → true ≡ column_holds k losses w c
  unfolding column_holds is_lost
  column_present h = rw (ne_eqb (get_or losses c 0) 1 h)

  pub column_lost : {x y : Column} → get_or losses c 0 ≡ 1 → x ≡ column_of losses k w c → x ≡ y → is_fixed y ≡ column_holds k losses w c
  unfolding column_holds is_lost
  column_lost {x} {y} h e q = rw (eq-eqb (get_or losses c 0) 1 h) (ap is_fixed (sym q ∙ e))

  -- ---- a turn at column c: it is present, or row i gives it

  module _ (fixing : List ℕ) (f : FixingRows c k losses w fixing) where
    pub fixing_left : (get_or losses c 0 ≡ 1 → ⊥) → FixingRows (c + 1) k losses w fixing
    unfolding is_lost
    fixing_left h = record { each = λ p l lost. go p l lost (ℕ_discrete p c); rows = f.rows }
      where
        go : (p : ℕ) → p < c + 1 → is_lost losses p ≡ true → Dec (p ≡ c) → get_or fixing p 0 ≡ fixing_row (column_of losses k w p)
        go p l lost (yes e) = absurd (false≢true (sym (ne_eqb (get_or losses c 0) 1 h) ∙ ap (is_lost losses) (sym e) ∙ lost))
        go p l lost (no d) = f.each p (omega arith) lost

    pub fixing_more : (i : ℕ) {x : Column} → x ≡ column_of losses k w c → x ≡ FixedBy i → c < length fixing
        → FixingRows (c + 1) k losses w (set fixing c i)
    fixing_more i {x} e q room = record { each = λ p l lost. go p l lost (ℕ_discrete p c); rows = λ p. row p (ℕ_discrete p c) }
      where
        i_row : i ≡ fixing_row (column_of losses k w c)
        i_row = ap fixing_row (sym q ∙ e)

        go : (p : ℕ) → p < c + 1 → is_lost losses p ≡ true → Dec (p ≡ c) → get_or (set fixing c i) p 0 ≡ fixing_row (column_of losses k w p)
        go p l lost (yes d) = rw d (get_or-set_same fixing c i 0 room ∙ i_row)
        go p l lost (no d) = get_or-set_other fixing c p i 0 d ∙ f.each p (omega arith) lost

        row : (p : ℕ) → Dec (p ≡ c) → get_or (set fixing c i) p 0 < 4
        row p (yes d) = rw (d, get_or-set_same fixing c i 0 room, i_row) (fixing_row_lt losses k w c)
        row p (no d) = rw (get_or-set_other fixing c p i 0 d) (f.rows p)

-- no row is stored in an array of zeros
abbrev blank : List ℕ
blank = replicate 20 0

blank_place : (c : ℕ) → Dec (c < 20) → get_or blank c 0 ≡ 0
blank_place c (yes h) = get_or-replicate 20 c 0 0 h
blank_place c (no h) = past blank c (omega arith)

pub fixing_none : (k : ℕ) (losses w : List ℕ) → FixingRows 0 k losses w (replicate 20 0)
fixing_none k losses w = record { each = λ c h. absurd (omega arith); rows = λ c. omega (arith, blank_place c (dec_lt c 20)) }

pub fixing_end : (c k : ℕ) (losses w fixing : List ℕ) → FixingRows c k losses w fixing → c ≤ k → k ≤ c → FixingRows k k losses w fixing
fixing_end c k losses w fixing f l u = rw (le_antisymm l u) at f
