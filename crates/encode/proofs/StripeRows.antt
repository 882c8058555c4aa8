-- Rows that are written, of one stripe or of many, leave every column: so each is made from the columns as they were lent. Assumes nothing.
use mathlib.Core.Path.{◌≡◌, refl, ap, ◌∙◌}
use mathlib.Core.List.{List}
use Prim.Native.Nat.{ℕ, zero, suc, ◌+◌, ◌≤◌, ◌<◌}
use native.Mathlib.Omega.{arith}
use lib.ListN.{length, get_or}
use Rattle.base.specs.Folds.{run}
use Rattle.base.proofs.Tests.{clash}
use Rattle.base.proofs.Runs.{run_keeps, run_turn}
use Rattle.area.specs.Area.{put, put_slot}
use Rattle.stripes.specs.Stripes.{row_of, with_rows}
use Rattle.layout.specs.declared.Shape.{Shape}
use Rattle.layout.specs.Ranges.{rows, InRanges}
use Rattle.layout.specs.Counts.{stripes}
use Rattle.layout.specs.Nodes.{row_node, data_node}
use Rattle.layout.proofs.NodeLaws.{data_there, row_there}
use Rattle.growth.specs.Cells.{put_cell, column, multiplier, parity_of}
use Rattle.growth.specs.Encode.{encode_stripe}
use Rattle.growth.proofs.RunLaws.{run_length, puts_other}
use Rattle.growth.proofs.EncodeLaws.{length_parity_of, parity_of_same, length_encode_stripe}
use Rattle.cells.specs.Offsets.{StripeOffsets}
use Rattle.cells.proofs.ColumnLaws.{row_slot, column_slot, row_of_columns}

-- row j of stripe g in its cell, as the columns of the lent area give it
abbrev pub put_row : Shape → List ℕ → ℕ → ℕ → List ℕ → List ℕ
put_row z lent g j area = put_cell z area (row_node z g j) g (parity_of z lent g j)

-- steps that do the same, one by one
run_same : (f h : ℕ → List ℕ → List ℕ) (p n : ℕ) (a : List ℕ) → ((q : ℕ) (e : List ℕ) → q < p + n → f q e ≡ h q e)
    → run f p n a ≡ run h p n a
unfolding run
run_same f h p zero a same = refl
run_same f h p (suc n) a same =
    same (p + n) (run f p n a) (omega arith) ∙ ap (h (p + n)) (run_same f h p n a (λ q e l. same q e (omega arith)))

-- ---- the area is as long as the lent one

pub length_stripes : (z : Shape) (lent : List ℕ) (g : ℕ) {area : List ℕ} → area ≡ run (encode_stripe z lent) 0 g lent
    → length area ≡ length lent
length_stripes z lent g before = ap length before ∙ run_length (encode_stripe z lent) (length_encode_stripe z lent) 0 g lent

module _ (z : Shape) (ok : InRanges z) (lent : List ℕ) where
  -- ---- a column is as it was

  -- a column's node has no row of its stripe
  column_no_row : (g d : ℕ) → d < z.k → (j : ℕ) → j < rows z → row_node z g j ≡ data_node z g d → ⊥
  column_no_row g d ld j lj e = clash (rw e (data_there z ok g d ld)) (row_there z ok g j lj)

  -- after n rows of stripe q
  rows_keep : (q n : ℕ) → q < stripes z → n ≤ rows z → (area : List ℕ) (g d : ℕ) → g < stripes z → d < z.k
      → column z (run (put_row z lent q) 0 n area) g d ≡ column z area g d
  unfolding column
  rows_keep q n lq few area g d lg ld =
      puts_other z (row_node z q) (λ j. q) (parity_of z lent q) 0 n area
      (record { size = length_parity_of z lent q; there = λ j l u. row_slot z ok q lq j })
      (data_node z g d) g (column_slot z ok g lg d)
      (λ j l u node slot. column_no_row g d ld j (omega arith) (rw slot at node))

  -- after the first n stripes
  stripes_keep : (n : ℕ) → n ≤ stripes z → (area : List ℕ) (g d : ℕ) → g < stripes z → d < z.k
      → column z (run (encode_stripe z lent) 0 n area) g d ≡ column z area g d
  unfolding encode_stripe
  stripes_keep n few area g d lg ld =
      run_keeps _ (λ e. column z e g d) 0 n area (λ q e l u. rows_keep q (rows z) (omega arith) (omega arith) e g d lg ld)

  -- ---- a turn of each loop

  -- the rows that are put at their offsets
  pub stripe_written : (g : ℕ) → g < stripes z → {at after : List ℕ} → StripeOffsets z g at
      → after ≡ with_rows (multiplier z) at z.b z.k (rows z) lent
      → after ≡ encode_stripe z lent g lent
  unfolding with_rows encode_stripe put_cell put_slot
  stripe_written g lg {at} {after} offsets written =
      written
      ∙ run_same (λ j a. put a (get_or at (z.k + j) 0) (row_of (multiplier z) at z.b z.k lent j)) (put_row z lent g) 0 (rows z) lent
      (λ j e l. rw (offsets.each j (omega arith), row_of_columns z ok g lg offsets.columns lent j))

  -- stripe g after the stripes before it
  stripe_same : (g : ℕ) → g < stripes z → {area : List ℕ} → area ≡ run (encode_stripe z lent) 0 g lent
      → encode_stripe z area g area ≡ encode_stripe z lent g area
  unfolding encode_stripe
  stripe_same g lg {area} before =
      run_same (put_row z area g) (put_row z lent g) 0 (rows z) area (λ j e l. ap (put_cell z e (row_node z g j) g) (kept j))
    where
      kept : (j : ℕ) → parity_of z area g j ≡ parity_of z lent g j
      kept j =
          parity_of_same z area lent g j (λ d ld. ap (λ (e : List ℕ). column z e g d) before ∙ stripes_keep g (omega arith) lent g d lg ld)

  pub stripe_turn : (g : ℕ) → g < stripes z → {area after : List ℕ} → area ≡ run (encode_stripe z lent) 0 g lent
      → after ≡ encode_stripe z area g area → after ≡ run (encode_stripe z lent) 0 (g + 1) lent
  stripe_turn g lg before written = run_turn (encode_stripe z lent) g lent before (written ∙ stripe_same g lg before)
