-- The dissolved slots of an old node are one stretch of the area, which the code zeroes at once. Assumes nothing.
use mathlib.Core.Path.{◌≡◌}
use mathlib.Core.List.{List}
use Prim.Native.Nat.{ℕ, ◌+◌, ◌*◌, ◌≤◌, ◌<◌}
use native.Mathlib.Nat.{mul-pos, mul-le-mul_right}
use native.Mathlib.Omega.{arith}
use Rattle.area.specs.Area.{put, zeros}
use Rattle.layout.specs.declared.Shape.{Shape}
use Rattle.layout.specs.Ranges.{InRanges}
use Rattle.layout.specs.Counts.{kept, dissolved, stripes}
use Rattle.layout.specs.Addresses.{node_slots, address, area_length}
use Rattle.layout.proofs.AddressLaws.{slots_old}
use Rattle.counts.proofs.Starts.{end_byte}
use Rattle.growth.specs.Cells.{zero_cells}
use Rattle.cells.proofs.Zeroed.{zeroed}

abbrev pub clear_node : Shape → ℕ → List ℕ → List ℕ
clear_node z v area = zero_cells z v (kept z) (dissolved z) area

some_dissolved : (z : Shape) → InRanges z → 0 < dissolved z
unfolding dissolved
some_dissolved z ok =
    let a : 0 < z.n = omega arith in
    let b : 0 < z.s = omega arith in
    let c : 0 < z.n + z.s = omega arith in
    mul-pos (mul-pos a b) c

-- of what the code computes: p kept and m dissolved stripes
module _ (z : Shape) (p m : ℕ) (p-is : p ≡ kept z) (m-is : m ≡ dissolved z) where
  pub first_there : (v : ℕ) → InRanges z → v < z.n → p < node_slots z v
  unfolding stripes
  first_there v ok l = let d = some_dissolved z ok in rw (slots_old z v l, p-is) (omega arith)

  -- x the number of node v's slot g, from which on m slots are zeroed
  module _ (v g x : ℕ) (x-is : x ≡ address z v g) where
    pub stretch_fits : v < z.n → g ≤ p → x * z.b + m * z.b ≤ area_length z
    unfolding address stripes
    stretch_fits l u =
        let e = end_byte z v (omega arith) in
        let s = slots_old z v l in
        let w = mul-le-mul_right z.b u in
        rw (x-is, m-is) (omega (arith, rw s at e, rw p-is at w))

    pub stretch_cleared : g ≡ p → (area : List ℕ) → put area (x * z.b) (zeros (m * z.b)) ≡ clear_node z v area
    stretch_cleared e area = rw (x-is, e, p-is, m-is) (zeroed z v (kept z) (dissolved z) area)
