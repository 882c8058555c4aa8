-- What the functions of sources return, from what their callees return, and how large it is on the way. Assumes nothing.
use mathlib.Core.Path.{◌≡◌, sym}
use Prim.Native.Nat.{ℕ, ◌+◌, ◌-◌, ◌*◌, ◌/◌, ◌%◌, ◌≤◌, ◌<◌}
use native.Mathlib.Nat.{mul-le-mul_right, mul-le-mul_left}
use native.Mathlib.Omega.{arith}
use Rattle.layout.specs.declared.Shape.{Shape}
use Rattle.layout.specs.Ranges.{rows, InRanges}
use Rattle.layout.specs.Counts.{kept, dissolved, stripes}
use Rattle.layout.specs.Nodes.{data_node}
use Rattle.layout.specs.Sources.{source_node, source_rank, source_slot, block_rank, target_stripe}
use Rattle.layout.specs.Offsets.{nth_offset, offset_rank}
use Rattle.layout.proofs.SourceLaws.{item_lt, source_slot_law, block_rank_law, taken, given}
use Rattle.counts.proofs.Sizes.{dissolved_le}

module _ (z : Shape) (ok : InRanges z) where
  pub number_le : (w t : ℕ) → w < kept z → t < z.s → w / z.n * z.s + t ≤ 7220
  unfolding source_rank dissolved
  number_le w t h l =
      let k : z.k ≤ z.n = omega arith in
      let a : z.s * z.k ≤ z.s * z.n = mul-le-mul_left z.s k in
      let b : z.s * z.k * (z.n + z.s) ≤ z.s * z.n * (z.n + z.s) = mul-le-mul_right (z.n + z.s) a in
      let c = item_lt z ok w t h l in
      let d = dissolved_le z ok in
      omega arith

  pub source_code : (w t p i q o : ℕ) → w < kept z → t < z.s → p ≡ kept z → i ≡ source_node z w → q ≡ source_rank z w t
      → o ≡ nth_offset (rows z) i (q % z.k)
      → p + (q / z.k * z.n + o) ≡ source_slot z w t
  source_code w t p i q o h l pe ie qe oe = rw (oe, pe, ie, qe) (sym (source_slot_law z ok w t h l))

  pub source_lt : (w t : ℕ) → w < kept z → t < z.s → source_slot z w t < stripes z
  source_lt w t h l = (taken z ok w t h l).under

  pub block_code : (g d p i o : ℕ) → kept z ≤ g → d < z.k → p ≡ kept z → i ≡ data_node z g d → o ≡ offset_rank (rows z) i ((g - p) % z.n)
      → (g - p) / z.n * z.k + o ≡ block_rank z g d
  block_code g d p i o h l pe ie oe = rw (oe, pe, ie) (sym (block_rank_law z ok g d h l))

  pub target_lt : (g d : ℕ) → kept z ≤ g → g < stripes z → d < z.k → block_rank z g d / z.s * z.n + data_node z g d < kept z
  unfolding target_stripe
  target_lt g d h m l = (given z ok g d h m l).stripe
