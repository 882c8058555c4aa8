-- Close zeroes all dissolved cells and leaves the others. Assumes nothing.
use mathlib.Core.Path.{◌≡◌, ◌∙◌}
use mathlib.Core.List.{List}
use Prim.Native.Nat.{ℕ, ◌+◌, ◌≤◌, ◌<◌}
use native.Mathlib.Omega.{arith}
use lib.ListN.{length}
use Rattle.area.specs.Area.{zeros}
use Rattle.base.proofs.Runs.{run_keeps}
use Rattle.layout.specs.declared.Shape.{Shape}
use Rattle.layout.specs.Ranges.{InRanges}
use Rattle.layout.specs.Counts.{kept, dissolved, stripes}
use Rattle.layout.specs.Addresses.{node_slots, area_length}
use Rattle.layout.proofs.AddressLaws.{slots_old, kept_slots}
use Rattle.growth.specs.Cells.{cell}
use Rattle.growth.specs.Close.{cleared_area}
use Rattle.growth.specs.Claims.{CloseCells}
use Rattle.growth.proofs.RunLaws.{run_length, run_leaves}
use Rattle.growth.proofs.ZeroLaws.{length_zero_cells, zero_cells_same, zero_cells_other}

module _ (z : Shape) where
  pub length_cleared : (area : List ℕ) → length (cleared_area z area) ≡ length area
  unfolding cleared_area
  length_cleared area = run_length _ (λ v e. length_zero_cells z v _ _ e) _ _ area

  -- node v's own turn zeroes the cell, and no later turn, of another node, reaches it
  cleared_dissolved : (area : List ℕ) → length area ≡ area_length z → (v g : ℕ) → v < z.n → kept z ≤ g → g < stripes z
      → cell z (cleared_area z area) v g ≡ zeros z.b
  unfolding cleared_area stripes
  cleared_dissolved area long v g lv lg ug =
      let there : (u : ℕ) → u < z.n → node_slots z u ≡ kept z + dissolved z = slots_old z in
      run_leaves _ (λ u e. length_zero_cells z u _ _ e) (λ e. cell z e v g) (zeros z.b) _ _ v area (omega arith) (omega arith)
      (λ e same. zero_cells_same z v _ _ (omega (arith, there v lv)) e (same ∙ long) (omega arith) g (omega arith) (omega arith))
      (λ u e m b. zero_cells_other z u _ _ (omega (arith, there u (omega arith))) e v g (omega (arith, there v lv))
      (λ node l r. omega arith))

  -- no turn reaches a slot below P
  cleared_others : (area : List ℕ) (v g : ℕ) → v < z.n + z.s → g < kept z → cell z (cleared_area z area) v g ≡ cell z area v g
  unfolding cleared_area stripes
  cleared_others area v g lv lg =
      run_keeps _ (λ e. cell z e v g) _ _ area
      (λ u e l b. zero_cells_other z u _ _ (omega (arith, slots_old z u (omega arith))) e v g (omega (arith, kept_slots z v))
      (λ node p r. omega arith))

pub close_cells : (z : Shape) → InRanges z → (area : List ℕ) → length area ≡ area_length z → CloseCells z area
close_cells z ok area long = record { dissolved = cleared_dissolved z area long; others = cleared_others z area }
