-- Document 01's rows, put one after the other into an array. Assumes nothing.
use mathlib.Core.Path.{◌≡◌, ◌∙◌}
use mathlib.Core.List.{List}
use Prim.Native.Nat.{ℕ, ◌+◌, ◌*◌, ◌<◌}
use native.Mathlib.Decide.{dec_lt}
use native.Mathlib.Nat.{zero-add}
use native.Mathlib.Omega.{arith}
use lib.ListN.{length, get_or}
use Rattle.area.specs.Area.{writes}
use Rattle.area.proofs.Writes.{writes_below, writes_in}
use Rattle.code.specs.Rows.{coefficient}
use Rattle.recovery.specs.Rebuild.{stripe_multiplier}
use Rattle.code.specs.Filled.{Filled}
use Rattle.elimination.specs.Matrix.{entry}
use Rattle.rebuild.specs.Steps.{CodeRows}

pub code_rows_none : (rows : List ℕ) → CodeRows 0 rows
code_rows_none rows = record { each = λ j c h hc. absurd (omega arith) }

module _ (j : ℕ) (q rows : List ℕ) (filled : Filled j 0 19 q) (e : length rows ≡ 80) (hj : j < 4) where
  -- row j's entries are those of q
  row_new : (c : ℕ) → c < 19 → entry (writes rows (j * 20) (λ t. get_or q t 0) 19) j c ≡ coefficient stripe_multiplier j c
  unfolding entry
  row_new c h = writes_in rows (j * 20) (λ t. get_or q t 0) 19 c h (omega arith) ∙ rw zero-add at (filled.each c h)

  -- the rows before it are as they were
  row_old : (i c : ℕ) → i < j → c < 19 → entry (writes rows (j * 20) (λ t. get_or q t 0) 19) i c ≡ entry rows i c
  unfolding entry
  row_old i c hi h = writes_below rows (j * 20) (λ t. get_or q t 0) 19 (i * 20 + c) (omega arith)

  pub code_rows_more : CodeRows j rows → (n : ℕ) {out : List ℕ} → out ≡ writes rows (j * 20) (λ t. get_or q t 0) n → n ≡ 19
      → CodeRows (j + 1) out
  code_rows_more old n {out} eo en = rw (eo, en) (record { each = λ i c hi h. go i c hi h (dec_lt i j) })
    where
      go : (i c : ℕ) → i < j + 1 → c < 19 → Dec (i < j)
          → entry (writes rows (j * 20) (λ t. get_or q t 0) 19) i c ≡ coefficient stripe_multiplier i c
      go i c hi h (yes l) = row_old i c l h ∙ old.each i c l h
      go i c hi h (no l) = let s : i ≡ j = omega arith in rw s (row_new c h)
