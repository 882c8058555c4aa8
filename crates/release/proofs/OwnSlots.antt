-- The slots of a node's own part that release reads and writes, by their bytes. Assumes nothing.
use mathlib.Core.Path.{◌≡◌}
use mathlib.Core.Bool.{true, false}
use mathlib.Core.List.{List}
use Prim.Native.Nat.{ℕ, ◌+◌, ◌*◌, ◌≤◌, ◌<◌}
use native.Mathlib.Omega.{arith}
use mir.Syntax.{w64}
use mir.Val.{Fits}
use Rattle.area.specs.Area.{block, put, zeros, slot, put_slot}
use Rattle.area.proofs.Slots.{room}
use Rattle.layout.specs.declared.Shape.{Shape}
use Rattle.layout.specs.Ranges.{InRanges}
use Rattle.layout.specs.Counts.{kept, stripes}
use Rattle.layout.specs.Sources.{source_slot}
use Rattle.layout.specs.Closed.{swapped, swap_index}
use Rattle.layout.proofs.Bounds.{stripes_le}
use Rattle.layout.proofs.SourceLaws.{taken}
use Rattle.counts.proofs.Sizes.{product_fits}
use Rattle.parts.specs.Own.{own_new}
use Rattle.release.specs.Own.{own_moved}

pub kept_there : (z : Shape) (w : ℕ) → w < kept z → w < stripes z
unfolding stripes
kept_there z w l = omega arith

pub byte_fits : (z : Shape) → InRanges z → (g : ℕ) → g < stripes z → Fits w64 (g * z.b)
byte_fits z ok g h = let s = stripes_le z ok in product_fits g z.b (omega arith) (omega arith)

-- a source is no kept slot, so it lies behind slot w
pub apart : (z : Shape) → InRanges z → (w : ℕ) → w < kept z → (t g : ℕ) → t < z.s → g ≡ source_slot z w t → w * z.b + z.b ≤ g * z.b
apart z ok w l t g h e = let a = (taken z ok w t l h).from in room w g z.b (omega arith)

-- ---- the move, from slot g

pub stays : (z : Shape) (own : List ℕ) (w : ℕ) → swapped z w ≡ false → own ≡ own_moved z own w
unfolding own_moved
stays z own w e = rw e

pub moved : (z : Shape) (own : List ℕ) (w y g : ℕ) → swapped z w ≡ true → y ≡ swap_index z w → g ≡ source_slot z w y
    → put own (w * z.b) (block own (g * z.b) z.b) ≡ own_moved z own w
unfolding own_moved own_new put_slot slot
moved z own w y g e p q = rw (e, q, p)

-- ---- zeros in slot g

abbrev pub zero_source : Shape → ℕ → ℕ → List ℕ → List ℕ
zero_source z w t own = put_slot own z.b (source_slot z w t) (zeros z.b)

pub source_zeroed : (z : Shape) (w t g : ℕ) (own : List ℕ) → g ≡ source_slot z w t → put own (g * z.b) (zeros z.b) ≡ zero_source z w t own
unfolding put_slot
source_zeroed z w t g own e = rw e
