-- Where a node's slots and bytes begin and end, in closed form and in bounds. Assumes nothing.
use mathlib.Core.Path.{◌≡◌, sym, ap, ◌∙◌}
use mathlib.Core.Logic.{◌⊎◌, inl, inr}
use Prim.Native.Nat.{ℕ, ◌+◌, ◌-◌, ◌*◌, ◌≤◌, ◌<◌}
use native.Mathlib.Nat.{mul-le-mul_right, le_trans, eq-or-lt_of_le, le_refl}
use native.Mathlib.Omega.{arith}
use Rattle.layout.specs.declared.Shape.{Shape}
use Rattle.layout.specs.Ranges.{InRanges}
use Rattle.layout.specs.Counts.{kept, stripes}
use Rattle.layout.specs.Addresses.{node_slots, node_start, address, area_slots, area_length}
use Rattle.layout.proofs.Bounds.{area_slots_le}
use Rattle.layout.proofs.AddressLaws.{start_old, start_new, start_all, node_inside, address_inside}

module _ (z : Shape) where
  pub start_past : (v : ℕ) → z.n ≤ v → node_start z v ≡ z.n * stripes z + (v - z.n) * kept z
  start_past v h =
      let e : z.n + (v - z.n) ≡ v = omega arith in
      ap (node_start z) (sym e) ∙ start_new z (v - z.n)

  -- what the code computes, from what its callees return
  pub old_code : (v a : ℕ) → v < z.n → a ≡ stripes z → v * a ≡ node_start z v
  old_code v a h e = let l : v ≤ z.n = omega arith in rw e (sym (start_old z v l))

  pub new_code : (v a p : ℕ) → z.n ≤ v → a ≡ stripes z → p ≡ kept z → z.n * a + (v - z.n) * p ≡ node_start z v
  new_code v a p h e f = rw (e, f) (sym (start_past v h))

  pub start_inside : (v : ℕ) → v ≤ z.n + z.s → node_start z v ≤ area_slots z
  start_inside v h = go (eq-or-lt_of_le h)
    where
      go : (v ≡ z.n + z.s) ⊎ (v < z.n + z.s) → node_start z v ≤ area_slots z
      go (inl e) = rw (e, start_all z) (le_refl (area_slots z))
      go (inr l) = let a = node_inside z v l in omega arith

  -- bytes
  pub start_byte : (v : ℕ) → v ≤ z.n + z.s → node_start z v * z.b ≤ area_length z
  unfolding area_length
  start_byte v h = mul-le-mul_right z.b (start_inside v h)

  pub end_byte : (v : ℕ) → v < z.n + z.s → node_start z v * z.b + node_slots z v * z.b ≤ area_length z
  unfolding area_length
  end_byte v h =
      let a : (node_start z v + node_slots z v) * z.b ≤ area_slots z * z.b = mul-le-mul_right z.b (node_inside z v h) in
      omega arith

module _ (z : Shape) (ok : InRanges z) where
  pub start_le : (v : ℕ) → v ≤ z.n + z.s → node_start z v ≤ 144020
  start_le v h = le_trans (start_inside z v h) (area_slots_le z ok)

  pub address_le : (v g : ℕ) → v < z.n + z.s → g < node_slots z v → address z v g ≤ 144020
  address_le v g h l =
      let a = address_inside z v g h l in
      let b = area_slots_le z ok in
      omega arith
