-- Every slot of the area, and every byte, belongs to exactly one slot of one node. Assumes nothing.
use mathlib.Core.Path.{◌≡◌, refl, sym, ap, ◌∙◌}
use mathlib.Core.Logic.{◌⊎◌, inl, inr}
use Prim.Native.Nat.{ℕ, zero, suc, ◌+◌, ◌-◌, ◌*◌, ◌/◌, ◌%◌, ◌≤◌, ◌<◌}
use native.Mathlib.Nat.{eq-or-lt_of_le, le_of_suc-le-suc, le_step, le_refl, mul-le-mul_right, suc-mul, not-suc-le-zero}
use native.Mathlib.Decide.{dec_lt}
use native.Mathlib.Omega.{arith}
use lib.Arith.{digits_div, digits_mod}
use borrow.Author.Tests.{lt-ltb, le-ltb}
use Rattle.base.specs.Folds.{sum}
use Rattle.base.proofs.Sums.{sum_same, sum_const, sum_split}
use Rattle.layout.specs.declared.Shape.{Shape}
use Rattle.layout.specs.Counts.{kept, stripes}
use Rattle.layout.specs.Addresses.{node_slots, node_start, address, area_slots, area_length}

module _ (z : Shape) where
  pub slots_old : (v : ℕ) → v < z.n → node_slots z v ≡ stripes z
  unfolding node_slots
  slots_old v l = rw (lt-ltb v z.n l)

  pub slots_new : (v : ℕ) → z.n ≤ v → node_slots z v ≡ kept z
  unfolding node_slots
  slots_new v l = rw (le-ltb v z.n l)

  pub kept_slots : (v : ℕ) → kept z ≤ node_slots z v
  unfolding node_slots stripes
  kept_slots v = go (dec_lt v z.n)
    where
      go : Dec (v < z.n) → kept z ≤ node_slots z v
      go (yes l) = rw (lt-ltb v z.n l) (omega arith)
      go (no l) = rw (le-ltb v z.n (omega arith)) (omega arith)

  -- closed forms, for the code
  pub start_old : (v : ℕ) → v ≤ z.n → node_start z v ≡ v * stripes z
  unfolding node_start
  start_old v l = sum_same v (node_slots z) (λ _. stripes z) (λ u m. slots_old u (omega arith)) ∙ sum_const v (stripes z)

  pub start_new : (t : ℕ) → node_start z (z.n + t) ≡ z.n * stripes z + t * kept z
  unfolding node_start
  start_new t =
      let a : sum z.n (node_slots z) ≡ z.n * stripes z = start_old z.n (le_refl z.n) in
      let b : sum t (λ u. node_slots z (z.n + u)) ≡ t * kept z =
      sum_same t (λ u. node_slots z (z.n + u)) (λ _. kept z) (λ u m. slots_new (z.n + u) (omega arith)) ∙ sum_const t (kept z) in
      sum_split z.n t (node_slots z) ∙ rw (a, b)

  pub start_all : node_start z (z.n + z.s) ≡ area_slots z
  unfolding area_slots
  start_all = start_new z.s

  -- a node's slots end where the next node's begin, or before
  pub start_next : (v : ℕ) → node_start z (suc v) ≡ node_start z v + node_slots z v
  unfolding node_start sum
  start_next v = refl

  pub start_rises : (v u : ℕ) → v < u → node_start z v + node_slots z v ≤ node_start z u
  start_rises v zero l = absurd (not-suc-le-zero l)
  start_rises v (suc u) l = go (eq-or-lt_of_le (le_of_suc-le-suc l)) (start_rises v u)
    where
      go : (v ≡ u) ⊎ (v < u) → (v < u → node_start z v + node_slots z v ≤ node_start z u)
          → node_start z v + node_slots z v ≤ node_start z (suc u)
      go (inl e) r = rw (e, start_next u) (omega arith)
      go (inr m) r = let x = r m in rw (start_next u) (omega arith)

  pub node_inside : (v : ℕ) → v < z.n + z.s → node_start z v + node_slots z v ≤ area_slots z
  node_inside v l = rw (← start_all) (start_rises v (z.n + z.s) l)

  pub address_inside : (v g : ℕ) → v < z.n + z.s → g < node_slots z v → address z v g < area_slots z
  unfolding address
  address_inside v g l h = let a = node_inside v l in omega arith

  pub address_only : (v u g h : ℕ) → g < node_slots z v → h < node_slots z u → address z v g ≡ address z u h → (v ≡ u) × (g ≡ h)
  unfolding address
  address_only v u g h lg lh e = go (dec_lt v u) (dec_lt u v)
    where
      go : Dec (v < u) → Dec (u < v) → (v ≡ u) × (g ≡ h)
      go (yes a) b = let x = start_rises v u a in absurd (omega arith)
      go (no a) (yes b) = let x = start_rises u v b in absurd (omega arith)
      go (no a) (no b) = let p : v ≡ u = omega arith in let q = ap (node_start z) p in (p, omega arith)

  -- every slot number below the start of node m is the address of a slot of a node below m
  start_hit : (m p : ℕ) → p < node_start z m → (v : ℕ) × (g : ℕ) × (v < m) × (g < node_slots z v) × (address z v g ≡ p)
  unfolding node_start sum address
  start_hit zero p l = absurd (not-suc-le-zero l)
  start_hit (suc m) p l = go (dec_lt p (node_start z m)) (start_hit m p)
    where
      go : Dec (p < node_start z m) → (p < node_start z m → (v : ℕ) × (g : ℕ) × (v < m) × (g < node_slots z v) × (address z v g ≡ p))
          → (v : ℕ) × (g : ℕ) × (v < suc m) × (g < node_slots z v) × (address z v g ≡ p)
      go (yes a) r = let x = r a in (x.0, x.1, le_step x.2, x.3, x.4)
      go (no a) r = (m, p - node_start z m, le_refl (suc m), omega arith, omega arith)

  pub address_hit : (p : ℕ) → p < area_slots z → (v : ℕ) × (g : ℕ) × (v < z.n + z.s) × (g < node_slots z v) × (address z v g ≡ p)
  address_hit p l = start_hit (z.n + z.s) p (rw start_all l)

  -- bytes: a cell lies inside the area, and no byte is in two cells
  pub cell_inside : (v g : ℕ) → v < z.n + z.s → g < node_slots z v → address z v g * z.b + z.b ≤ area_length z
  unfolding area_length
  cell_inside v g l h =
      let a : suc (address z v g) ≤ area_slots z = address_inside v g l h in
      let b : suc (address z v g) * z.b ≤ area_slots z * z.b = mul-le-mul_right z.b a in
      omega (arith, suc-mul (address z v g) z.b)

  pub byte_only : (v u g h x y : ℕ) → g < node_slots z v → h < node_slots z u → x < z.b → y < z.b
      → address z v g * z.b + x ≡ address z u h * z.b + y → (v ≡ u) × (g ≡ h) × (x ≡ y)
  byte_only v u g h x y lg lh lx ly e =
      let p : address z v g ≡ address z u h =
      sym (digits_div (address z v g) lx) ∙ ap (λ (a : ℕ). a / z.b) e ∙ digits_div (address z u h) ly in
      let q : x ≡ y = sym (digits_mod (address z v g) lx) ∙ ap (λ (a : ℕ). a % z.b) e ∙ digits_mod (address z u h) ly in
      let o = address_only v u g h lg lh p in
      (o.0, o.1, q)
