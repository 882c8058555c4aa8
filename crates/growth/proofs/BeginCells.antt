-- Begin zeroes all cells of the new nodes and leaves those of the old ones. Assumes nothing.
use mathlib.Core.Path.{◌≡◌, ◌∙◌}
use mathlib.Core.List.{List}
use Prim.Native.Nat.{ℕ, ◌+◌, ◌≤◌, ◌<◌}
use native.Mathlib.Omega.{arith}
use lib.ListN.{length}
use Rattle.area.specs.Area.{zeros}
use Rattle.base.proofs.Runs.{run_keeps}
use Rattle.layout.specs.declared.Shape.{Shape}
use Rattle.layout.specs.Ranges.{InRanges}
use Rattle.layout.specs.Counts.{kept, stripes}
use Rattle.layout.specs.Addresses.{node_slots, area_length}
use Rattle.layout.proofs.AddressLaws.{slots_old, slots_new}
use Rattle.growth.specs.Cells.{cell}
use Rattle.growth.specs.Begin.{begun_area}
use Rattle.growth.specs.Claims.{BeginCells}
use Rattle.growth.proofs.RunLaws.{run_length, run_leaves}
use Rattle.growth.proofs.ZeroLaws.{length_zero_cells, zero_cells_same, zero_cells_other}

module _ (z : Shape) where
  pub length_begun : (area : List ℕ) → length (begun_area z area) ≡ length area
  unfolding begun_area
  length_begun area = run_length _ (λ v e. length_zero_cells z v _ _ e) _ _ area

  -- node v's own turn zeroes the cell, and no later turn, of another node, reaches it
  begun_new : (area : List ℕ) → length area ≡ area_length z → (v g : ℕ) → z.n ≤ v → v < z.n + z.s → g < kept z
      → cell z (begun_area z area) v g ≡ zeros z.b
  unfolding begun_area
  begun_new area long v g lv uv lg =
      let there : (u : ℕ) → z.n ≤ u → node_slots z u ≡ kept z = slots_new z in
      run_leaves _ (λ u e. length_zero_cells z u _ _ e) (λ e. cell z e v g) (zeros z.b) _ _ v area (omega arith) (omega arith)
      (λ e same. zero_cells_same z v _ _ (omega (arith, there v lv)) e (same ∙ long) uv g (omega arith) (omega arith))
      (λ u e m b. zero_cells_other z u _ _ (omega (arith, there u (omega arith))) e v g (omega (arith, there v lv))
      (λ node l r. omega arith))

  -- no turn reaches the cell of an old node
  begun_old : (area : List ℕ) (v g : ℕ) → v < z.n → g < stripes z → cell z (begun_area z area) v g ≡ cell z area v g
  unfolding begun_area
  begun_old area v g lv lg =
      run_keeps _ (λ e. cell z e v g) _ _ area
      (λ u e l b. zero_cells_other z u _ _ (omega (arith, slots_new z u (omega arith))) e v g (omega (arith, slots_old z v lv))
      (λ node p r. omega arith))

pub begin_cells : (z : Shape) → InRanges z → (area : List ℕ) → length area ≡ area_length z → BeginCells z area
begin_cells z ok area long = record { new = begun_new z area long; old = begun_old z area }
