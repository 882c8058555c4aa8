-- Nodes zeroed one after the other, each in one stretch. Assumes nothing.
use mathlib.Core.Path.{◌≡◌, ap, ◌∙◌}
use mathlib.Core.List.{List}
use Prim.Native.Nat.{ℕ, ◌+◌, ◌-◌, ◌*◌, ◌≤◌, ◌<◌}
use native.Mathlib.Nat.{mul-le-mul_right}
use native.Mathlib.Omega.{arith}
use lib.ListN.{length}
use Rattle.base.specs.Folds.{run}
use Rattle.base.proofs.Runs.{range_turn}
use Rattle.area.specs.Area.{put, zeros}
use Rattle.layout.specs.declared.Shape.{Shape}
use Rattle.layout.specs.Counts.{kept}
use Rattle.layout.specs.Addresses.{node_start, area_length}
use Rattle.layout.proofs.AddressLaws.{kept_slots}
use Rattle.counts.proofs.Starts.{end_byte}
use Rattle.growth.specs.Cells.{zero_cells}
use Rattle.growth.specs.Begin.{begun_area}
use Rattle.growth.proofs.RunLaws.{run_length}
use Rattle.growth.proofs.ZeroLaws.{length_zero_cells}
use Rattle.cells.proofs.Zeroed.{node_zeroed}

-- the first P slots of node v: all that a new node has
abbrev pub zero_node : Shape → ℕ → List ℕ → List ℕ
zero_node z v area = zero_cells z v 0 (kept z) area

-- the zeros of a node lie in the area
pub node_fits : (z : Shape) (v : ℕ) {bytes start count : ℕ} → v < z.n + z.s → bytes ≡ area_length z
    → start ≡ node_start z v * z.b → count ≤ kept z → start + count * z.b ≤ bytes
node_fits z v there long place few =
    rw (long, place) (omega (arith, end_byte z v there, mul-le-mul_right z.b (kept_slots z v), mul-le-mul_right z.b few))

-- ---- a loop over nodes from p on, a turn and its end: before node v those from p to v - 1 are zeroed

module _ (z : Shape) (lent : List ℕ) (p v : ℕ) {area : List ℕ} (before : area ≡ run (zero_node z) p (v - p) lent) where
  pub nodes_length : length area ≡ length lent
  nodes_length = ap length before ∙ run_length (zero_node z) (λ u e. length_zero_cells z u 0 (kept z) e) p (v - p) lent

  pub nodes_turn : p ≤ v → {after : List ℕ} {start count : ℕ} → start ≡ node_start z v * z.b → count ≡ kept z
      → after ≡ put area start (zeros (count * z.b)) → after ≡ run (zero_node z) p (v + 1 - p) lent
  nodes_turn l place slots written =
      written ∙ rw (place, slots, before) (node_zeroed z v (kept z) (run (zero_node z) p (v - p) lent)
      ∙ range_turn (zero_node z) p v lent l)

  -- the new nodes
  pub nodes_end : p ≡ z.n → v ≡ z.n + z.s → area ≡ begun_area z lent
  unfolding begun_area
  nodes_end first last = let e : v - p ≡ z.s = omega arith in rw (e, first) at before
