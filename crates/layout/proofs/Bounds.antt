-- How large the numbers of a layout are, over all shapes in range. Assumes nothing.
use mathlib.Core.Path.{◌≡◌, refl}
use mathlib.Core.Bool.{true}
use Prim.Native.Nat.{ℕ, ◌+◌, ◌-◌, ◌*◌, ◌≤◌, ◌<◌}
use native.Mathlib.Nat.{mul-le-mul, mul-le-mul_right, mul-le-mul_left}
use native.Mathlib.Omega.{arith}
use lib.Dec.{leb}
use borrow.Author.Tests.{leb-true}
use Rattle.base.specs.Tests.{every}
use Rattle.base.proofs.Tests.{every_at}
use Rattle.layout.specs.declared.Shape.{Shape}
use Rattle.layout.specs.Ranges.{rows, InRanges}
use Rattle.layout.specs.Counts.{kept, dissolved, stripes, transfers, all_transfers}
use Rattle.layout.specs.Addresses.{area_slots, area_length}

module _ (z : Shape) (ok : InRanges z) where
  nodes_le : z.n ≤ 19
  nodes_le = omega arith

  nk_le : z.n * z.k ≤ 342
  nk_le =
      let c : z.k ≤ 18 = omega arith in
      mul-le-mul nodes_le c

  -- P
  pub kept_le : kept z ≤ 6840
  unfolding kept
  kept_le =
      let a : z.n * z.k * (z.n + z.s) ≤ 6840 = mul-le-mul nk_le ok.few_nodes in
      omega arith

  -- G
  pub stripes_is : stripes z ≡ z.n * (z.k + z.s) * (z.n + z.s)
  unfolding stripes kept dissolved
  stripes_is = omega arith

  pub stripes_le : stripes z ≤ 7220
  stripes_le =
      let c : z.k + z.s ≤ 19 = omega arith in
      let a : z.n * (z.k + z.s) ≤ 361 = mul-le-mul nodes_le c in
      rw stripes_is (mul-le-mul a ok.few_nodes)

  -- transfers of a stripe, and of all
  pub transfers_le : transfers z ≤ 18
  unfolding transfers
  transfers_le = omega arith

-- k (k + 4) (19 - k) for k below 19, computed: n is at most k + 4 and a stripe has at most 19 - k transfers
unfoldable transfer_test : ℕ → ℕ
transfer_test k = (k + 4) * k * (19 - k)

transfer_computed : every 19 (λ x. leb (transfer_test x) 1344) ≡ true
unfolding every transfer_test
transfer_computed = refl

transfer_test_law : (k : ℕ) → k < 19 → transfer_test k ≤ 1344
transfer_test_law k l = leb-true (transfer_test k) 1344 (every_at 19 (λ x. leb (transfer_test x) 1344) transfer_computed k l)

-- n (19 n + (20 - n) (n - 1)) for n below 20, computed: s is at most 20 - n, k at most n - 1 and k + s at most 19
unfoldable slot_test : ℕ → ℕ
slot_test n = n * (n * 19 + (20 - n) * (n - 1))

slot_computed : every 20 (λ x. leb (slot_test x) 7201) ≡ true
unfolding every slot_test
slot_computed = refl

slot_test_law : (n : ℕ) → n < 20 → slot_test n ≤ 7201
slot_test_law n l = leb-true (slot_test n) 7201 (every_at 20 (λ x. leb (slot_test x) 7201) slot_computed n l)

module _ (z : Shape) (ok : InRanges z) where
  pub all_transfers_le : all_transfers z ≤ 26880
  unfolding all_transfers kept transfers transfer_test
  all_transfers_le =
      let a : z.n ≤ z.k + 4 = omega arith in
      let b : z.s + rows z - 1 ≤ 19 - z.k = omega arith in
      let k : z.k < 19 = omega arith in
      let c : z.n * z.k ≤ (z.k + 4) * z.k = mul-le-mul_right z.k a in
      let d : z.n * z.k * (z.s + rows z - 1) ≤ (z.k + 4) * z.k * (19 - z.k) = mul-le-mul c b in
      let e = transfer_test_law z.k k in
      let f : z.n * z.k * (z.s + rows z - 1) ≤ 1344 = omega arith in
      let g : z.n * z.k * (z.s + rows z - 1) * (z.n + z.s) ≤ 26880 = mul-le-mul f ok.few_nodes in
      let h : z.n * z.k * (z.n + z.s) * (z.s + rows z - 1) ≡ z.n * z.k * (z.s + rows z - 1) * (z.n + z.s) = omega arith in
      rw h g

  -- nG + sP = n (n (k + s) + s k) (n + s)
  pub area_slots_le : area_slots z ≤ 144020
  unfolding area_slots kept slot_test
  area_slots_le =
      let a : z.k + z.s ≤ 19 = omega arith in
      let b : z.s ≤ 20 - z.n = omega arith in
      let c : z.k ≤ z.n - 1 = omega arith in
      let d : z.n * (z.k + z.s) ≤ z.n * 19 = mul-le-mul_left z.n a in
      let e : z.s * z.k ≤ (20 - z.n) * (z.n - 1) = mul-le-mul b c in
      let f : z.n * (z.k + z.s) + z.s * z.k ≤ z.n * 19 + (20 - z.n) * (z.n - 1) = omega arith in
      let g : z.n * (z.n * (z.k + z.s) + z.s * z.k) ≤ z.n * (z.n * 19 + (20 - z.n) * (z.n - 1)) = mul-le-mul_left z.n f in
      let l : z.n < 20 = omega arith in
      let t = slot_test_law z.n l in
      let m : z.n * (z.n * (z.k + z.s) + z.s * z.k) ≤ 7201 = omega arith in
      let o : z.n * (z.n * (z.k + z.s) + z.s * z.k) * (z.n + z.s) ≤ 144020 = mul-le-mul m ok.few_nodes in
      let q : z.n * stripes z + z.s * (z.n * z.k * (z.n + z.s)) ≡ z.n * (z.n * (z.k + z.s) + z.s * z.k) * (z.n + z.s) =
      rw (stripes_is z ok) (omega arith) in
      rw q o

  pub area_length_le : area_length z ≤ 589905920
  unfolding area_length
  area_length_le = mul-le-mul area_slots_le ok.few_bytes
