-- What the calls of rebuild's writing steps tell: a lost block is stored, and one that is present stays; a row of the solved matrix
-- is one of four. Assumes nothing.
use mathlib.Core.Path.{◌≡◌, refl, ap, ◌∙◌}
use mathlib.Core.List.{List}
use mathlib.Core.Bool.{Bool, true, false}
use Prim.Native.Nat.{ℕ, ◌+◌, ◌-◌, ◌*◌, ◌≤◌, ◌<◌}
use native.Mathlib.Omega.{arith}
use lib.Dec.{eqb}
use lib.ListN.{length, get_or}
use borrow.Author.Tests.{eq-eqb, ne_eqb}
use Rattle.base.specs.Tests.{if}
use Rattle.area.specs.Area.{put, slot, put_slot}
use Rattle.combine.specs.Columns.{columns_at, combined, Consecutive, Inside}
use Rattle.combine.proofs.OffsetLaws.{inside_consecutive}
use Rattle.code.specs.Rows.{parity_row}
use Rattle.code.proofs.Laws.{parity_row_same}
use Rattle.code.specs.Agreement.{is_lost}
use Rattle.elimination.specs.Matrix.{pivot_of}
use Rattle.elimination.proofs.LastLaws.{last_le}
use Rattle.solver.specs.declared.Column.TheVariants.{FixedBy, OpenBy}
use Rattle.solver.specs.Solution.{row_of, other_of, row_without, column_of}
use Rattle.rebuild.specs.Steps.{combined_blocks, fixing_row, column_by, column_step, row_step}
use Rattle.rebuild.proofs.OffsetSlots.{column_slot, combined_slots}

-- ---- the row that gives a column is one of the four

row_of_le : (losses : List ℕ) (k : ℕ) (w : List ℕ) (c : ℕ) → row_of losses k w c ≤ 4
unfolding row_of
row_of_le losses k w c = last_le (λ i. eqb (pivot_of (is_lost losses) k w i) (c + 1)) 4

pub fixing_row_lt : (losses : List ℕ) (k : ℕ) (w : List ℕ) (c : ℕ) → fixing_row (column_of losses k w c) < 4
unfolding column_of
fixing_row_lt losses k w c = go (eqb (row_of losses k w c) 0) (eqb (other_of losses k w (row_of losses k w c - 1) c) 0)
  where
    go : (s t : Bool) → fixing_row (if s (OpenBy c)
        (if t (FixedBy (row_of losses k w c - 1)) (OpenBy (other_of losses k w (row_of losses k w c - 1) c - 1)))) < 4
    go true t = omega arith
    go false true = omega (arith, row_of_le losses k w c)
    go false false = omega arith

-- ---- a block that is lost is stored, and one that is not stays

module _ (n b : ℕ) (losses w : List ℕ) (i c : ℕ) (stripe : List ℕ) where
  pub column_left : (get_or losses c 0 ≡ 1 → ⊥) → stripe ≡ column_by n b losses w i c stripe
  unfolding column_by is_lost
  column_left h = rw (ne_eqb (get_or losses c 0) 1 h)

  pub column_stored : (at u : List ℕ) {out : List ℕ} → Consecutive n b at → get_or losses c 0 ≡ 1 → u ≡ row_without w i c
      → out ≡ put stripe (c * b) (combined b n u at stripe) → out ≡ column_by n b losses w i c stripe
  unfolding column_by put_slot is_lost
  column_stored at u one h eu e =
      rw (eq-eqb (get_or losses c 0) 1 h) (e ∙ ap (put stripe (c * b))
      (combined_slots b n u at stripe one ∙ ap (λ (x : List ℕ). combined_blocks b n x stripe) eu))

  -- where the row is the one that gives a lost column it is rebuild's step
  pub column_step_law : (k : ℕ) {out : List ℕ} → (is_lost losses c ≡ true → i ≡ fixing_row (column_of losses k w c))
      → out ≡ column_by n b losses w i c stripe → out ≡ column_step n k b losses w c stripe
  unfolding column_by
  column_step_law k {out} h e = e ∙ go (is_lost losses c) refl
    where
      go : (t : Bool) → is_lost losses c ≡ t
          → if t (put_slot stripe b c (combined_blocks b n (row_without w i c) stripe)) stripe
          ≡ if t (put_slot stripe b c (combined_blocks b n (row_without w (fixing_row (column_of losses k w c)) c) stripe)) stripe
      go true q = ap (λ (x : ℕ). put_slot stripe b c (combined_blocks b n (row_without w x c) stripe)) (h q)
      go false q = refl

module _ (m : ℕ → ℕ) (k b : ℕ) (losses : List ℕ) (j : ℕ) (stripe : List ℕ) where
  pub row_left : (get_or losses (k + j) 0 ≡ 1 → ⊥) → stripe ≡ row_step m k b losses j stripe
  unfolding row_step is_lost
  row_left h = rw (ne_eqb (get_or losses (k + j) 0) 1 h)

  pub row_stored : (n : ℕ) (at : List ℕ) {out : List ℕ} → Consecutive n b at → k ≤ n → get_or losses (k + j) 0 ≡ 1
      → out ≡ put stripe ((k + j) * b) (parity_row m b k j (columns_at at stripe b)) → out ≡ row_step m k b losses j stripe
  unfolding row_step put_slot is_lost
  row_stored n at one l h e =
      rw (eq-eqb (get_or losses (k + j) 0) 1 h)
      (e ∙ ap (put stripe ((k + j) * b)) (parity_row_same m b k j (columns_at at stripe b) (slot stripe b)
      (λ c hc. column_slot n b at stripe one c (omega arith))))

-- the first k of n blocks that stand one after the other lie inside the stripe
pub inside_first : (k n b : ℕ) (at stripe : List ℕ) → Consecutive n b at → k ≤ n → n ≤ 20 → n * b ≤ length stripe → Inside at k b stripe
inside_first k n b at stripe one h few l =
    inside_consecutive k n b at stripe (record { each = λ c hc. one.each c (omega arith) }) h (omega arith) l
