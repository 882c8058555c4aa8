-- What encode leaves: each parity row as the lent columns give it, and every other cell as it was. Assumes nothing.
use mathlib.Core.Path.{◌≡◌, sym, ap, ◌∙◌}
use mathlib.Core.List.{List}
use Prim.Native.Nat.{ℕ, ◌<◌}
use native.Mathlib.Omega.{arith}
use lib.ListN.{length}
use Rattle.base.proofs.Tests.{clash}
use Rattle.base.proofs.Runs.{run_keeps}
use Rattle.code.proofs.Laws.{length_parity_row, parity_row_same}
use Rattle.layout.specs.declared.Shape.{Shape}
use Rattle.layout.specs.Ranges.{rows, InRanges}
use Rattle.layout.specs.Counts.{stripes}
use Rattle.layout.specs.Addresses.{node_slots, area_length}
use Rattle.layout.specs.Nodes.{row_node, data_node}
use Rattle.layout.proofs.Cycle.{place_of}
use Rattle.layout.proofs.NodeLaws.{row_node_lt, data_node_lt, place_row, data_there, row_there}
use Rattle.layout.proofs.AddressLaws.{slots_old}
use Rattle.growth.specs.Cells.{cell, column, row, parity_of}
use Rattle.growth.specs.Encode.{encode_stripe, encoded_area}
use Rattle.growth.proofs.RunLaws.{run_length, run_leaves, Fit, length_puts, puts_other, puts_same}

pub length_parity_of : (z : Shape) (area : List ℕ) (g j : ℕ) → length (parity_of z area g j) ≡ z.b
unfolding parity_of
length_parity_of z area g j = length_parity_row _ z.b z.k j _

-- a row is what the columns are
pub parity_of_same : (z : Shape) (a b : List ℕ) (g j : ℕ) → ((d : ℕ) → d < z.k → column z a g d ≡ column z b g d)
    → parity_of z a g j ≡ parity_of z b g j
unfolding parity_of
parity_of_same z a b g j same = parity_row_same _ z.b z.k j (column z a g) (column z b g) same

-- ---- one stripe, its rows as the columns of the area `lent` give them

pub length_encode_stripe : (z : Shape) (lent : List ℕ) (g : ℕ) (area : List ℕ) → length (encode_stripe z lent g area) ≡ length area
unfolding encode_stripe
length_encode_stripe z lent g area = length_puts z _ _ _ _ _ area

pub length_encoded : (z : Shape) (area : List ℕ) → length (encoded_area z area) ≡ length area
unfolding encoded_area
length_encoded z area = run_length _ (length_encode_stripe z area) _ _ area

module _ (z : Shape) (ok : InRanges z) where
  -- stripe g has slot g on each of its nodes
  row_slot : (g j : ℕ) → g < stripes z → g < node_slots z (row_node z g j)
  row_slot g j lg = omega (arith, slots_old z (row_node z g j) (row_node_lt z ok g j))

  rows_differ : (g i j : ℕ) → i < rows z → j < rows z → row_node z g i ≡ row_node z g j → i ≡ j
  rows_differ g i j li lj e = sym (place_row z ok g i li) ∙ ap (place_of z.n g) e ∙ place_row z ok g j lj

  rows_fit : (lent : List ℕ) (g p n : ℕ) → g < stripes z → Fit z (row_node z g) (λ j. g) (parity_of z lent g) p n
  rows_fit lent g p n lg = record { size = length_parity_of z lent g; there = λ j l u. row_slot g j lg }

  stripe_row : (lent : List ℕ) (g j : ℕ) (area : List ℕ) → length area ≡ area_length z → g < stripes z → j < rows z
      → cell z (encode_stripe z lent g area) (row_node z g j) g ≡ parity_of z lent g j
  unfolding encode_stripe
  stripe_row lent g j area long lg lj =
      puts_same z (row_node z g) (λ j. g) (parity_of z lent g) _ _ area (rows_fit lent g _ _ lg) long j (omega arith) (omega arith)
      (omega (arith, row_node_lt z ok g j))
      (λ i m u node slot. let e : i ≡ j = rows_differ g i j (omega arith) lj node in omega arith)

  stripe_other : (lent : List ℕ) (q : ℕ) (area : List ℕ) → q < stripes z → (v g : ℕ) → g < node_slots z v
      → ((j : ℕ) → j < rows z → row_node z q j ≡ v → q ≡ g → ⊥) → cell z (encode_stripe z lent q area) v g ≡ cell z area v g
  unfolding encode_stripe
  stripe_other lent q area lq v g lg none =
      puts_other z (row_node z q) (λ j. q) (parity_of z lent q) _ _ area (rows_fit lent q _ _ lq) v g lg (λ j l u. none j (omega arith))

  -- ---- all stripes

  -- stripe g's own turn writes the row, and no later turn reaches slot g
  pub encoded_row : (area : List ℕ) → length area ≡ area_length z → (g j : ℕ) → g < stripes z → j < rows z
      → row z (encoded_area z area) g j ≡ parity_of z area g j
  unfolding encoded_area row
  encoded_row area long g j lg lj =
      run_leaves _ (length_encode_stripe z area) (λ e. cell z e (row_node z g j) g) (parity_of z area g j) _ _ g area
      (omega arith) (omega arith)
      (λ e same. stripe_row area g j e (same ∙ long) lg lj)
      (λ q e m u. stripe_other area q e (omega arith) (row_node z g j) g (row_slot g j lg) (λ i l node slot. omega arith))

  -- a cell that is no row of its stripe
  pub encoded_other : (area : List ℕ) (v g : ℕ) → g < node_slots z v → ((j : ℕ) → j < rows z → row_node z g j ≡ v → ⊥)
      → cell z (encoded_area z area) v g ≡ cell z area v g
  unfolding encoded_area
  encoded_other area v g lg none =
      run_keeps _ (λ e. cell z e v g) _ _ area
      (λ q e l u. stripe_other area q e (omega arith) v g lg (λ j m node slot. none j m (rw (← slot) node)))

  -- a column's node has no row of its stripe
  column_no_row : (g d : ℕ) → d < z.k → (j : ℕ) → j < rows z → row_node z g j ≡ data_node z g d → ⊥
  column_no_row g d ld j lj e = clash (rw e (data_there z ok g d ld)) (row_there z ok g j lj)

  pub encoded_column : (area : List ℕ) (g d : ℕ) → g < stripes z → d < z.k → column z (encoded_area z area) g d ≡ column z area g d
  unfolding column
  encoded_column area g d lg ld =
      encoded_other area (data_node z g d) g (omega (arith, slots_old z (data_node z g d) (data_node_lt z ok g d))) (column_no_row g d ld)
