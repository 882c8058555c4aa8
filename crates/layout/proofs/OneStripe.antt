-- The n + s blocks of one new stripe and the n + s nodes, one to one: over plain numbers, whatever the stripe's turn. Assumes nothing.
use mathlib.Core.Path.{◌≡◌, refl, sym, ap, ◌∙◌}
use mathlib.Core.Bool.{Bool, true, false, ◌&&◌}
use Prim.Native.Nat.{ℕ, suc, ◌+◌, ◌-◌, ◌%◌, ◌≤◌, ◌<◌}
use native.Mathlib.Nat.{add-zero, mod-lt}
use native.Mathlib.Decide.{dec_lt, ℕ_discrete}
use native.Mathlib.Omega.{arith}
use lib.Dec.{ltb, eqb}
use borrow.Author.Tests.{le-leb, lt-leb, eq-eqb, ne_eqb}
use Rattle.base.specs.Tests.{if}
use Rattle.base.proofs.Tests.{Leb, holds, fails, leb_view}
use Rattle.layout.proofs.Cycle.{node_at, place_of, place_lt, node_lt, node_place, place_node}

-- the node of row j and of column c of new stripe w, which is swapped (u) with turn y, or straight
unfoldable pub row_in : (n w : ℕ) (u : Bool) (y j : ℕ) → ℕ
row_in n w u y j = if (u && eqb j 0) (n + y) ((w + j) % n)

unfoldable pub data_in : (n k w : ℕ) (u : Bool) (y c : ℕ) → ℕ
data_in n k w u y c = if (ltb c k) ((w + (n - k) + c) % n) (if (u && eqb (c - k) y) (w % n) (n + (c - k)))

-- its blocks, numbered: the r rows, then the k + s columns. The node of block e, and the block of node v
unfoldable pub home_in : (n k w : ℕ) (u : Bool) (y e : ℕ) → ℕ
home_in n k w u y e = if (ltb e (n - k)) (row_in n w u y e) (data_in n k w u y (e - (n - k)))

unfoldable pub block_in : (n w : ℕ) (u : Bool) (y v : ℕ) → ℕ
block_in n w u y v = if (ltb v n) (if (u && eqb (place_of n w v) 0) (n + y) (place_of n w v)) (if (u && eqb (v - n) y) 0 v)

-- block e stands on node v
data Spot (n w : ℕ) (u : Bool) (y e v : ℕ) : Type 0 where
  old : e < n → (u && eqb e 0) ≡ false → node_at n w e ≡ v → Spot n w u y e v
  new : n ≤ e → (u && eqb (e - n) y) ≡ false → e ≡ v → Spot n w u y e v
  first : u ≡ true → e ≡ 0 → n + y ≡ v → Spot n w u y e v
  moved : u ≡ true → e ≡ n + y → w % n ≡ v → Spot n w u y e v

module _ (n k s w y : ℕ) (u : Bool) (few : 1 ≤ k) (less : k < n) (yl : y < s) where
  spot_home : (e v : ℕ) → Spot n w u y e v → home_in n k w u y e ≡ v
  unfolding home_in row_in data_in node_at
  spot_home e v (old a b c) = go (ltb e (n - k)) (leb_view (suc e) (n - k)) ∙ c
    where
      go : (t : Bool) → Leb (suc e) (n - k) t → if t (row_in n w u y e) (data_in n k w u y (e - (n - k))) ≡ node_at n w e
      go t (holds p) = rw b
      go t (fails p) =
          let q : (w + (n - k)) + (e - (n - k)) ≡ w + e = omega arith in
          rw (le-leb (suc (e - (n - k))) k (omega arith), q)
  spot_home e v (new a b c) =
      let p : e - (n - k) - k ≡ e - n = omega arith in
      let q : n + (e - n) ≡ e = omega arith in
      rw (lt-leb (suc e) (n - k) (omega arith), lt-leb (suc (e - (n - k))) k (omega arith), p, b, q) c
  spot_home e v (first a b c) = rw (b, a, le-leb 1 (n - k) (omega arith)) c
  spot_home e v (moved a b c) =
      let p : n + y - (n - k) - k ≡ y = omega arith in
      rw (b, a, lt-leb (suc (n + y)) (n - k) (omega arith), lt-leb (suc (n + y - (n - k))) k (omega arith), p, eq-eqb y y refl) c

  spot_block : (e v : ℕ) → Spot n w u y e v → block_in n w u y v ≡ e
  unfolding block_in node_at
  spot_block e v (old a b c) =
      let p : place_of n w v ≡ e = ap (place_of n w) (sym c) ∙ place_node n w e a in
      let q : v < n = rw c at (node_lt n w e (omega arith)) in
      rw (le-leb (suc v) n q, p, b)
  spot_block e v (new a b c) = rw (← c, lt-leb (suc e) n (omega arith), b)
  spot_block e v (first a b c) =
      let p : n + y - n ≡ y = omega arith in
      rw (← c, a, b, lt-leb (suc (n + y)) n (omega arith), p, eq-eqb y y refl)
  spot_block e v (moved a b c) =
      let pos : 0 < n = omega arith in
      let q : v < n = rw c at (mod-lt w pos) in
      let z : node_at n w 0 ≡ v = ap (λ (x : ℕ). x % n) (add-zero w) ∙ c in
      let p : place_of n w v ≡ 0 = ap (place_of n w) (sym z) ∙ place_node n w 0 (omega arith) in
      rw (le-leb (suc v) n q, p, a, b)

  -- each block has a node
  block_spot : (e : ℕ) → e < n + s → (v : ℕ) × (v < n + s) × Spot n w u y e v
  block_spot e l = go (dec_lt e n) u refl
    where
      pos : 0 < n
      pos = omega arith

      go : Dec (e < n) → (t : Bool) → u ≡ t → (v : ℕ) × (v < n + s) × Spot n w u y e v
      go (yes a) false p = (node_at n w e, omega (arith, node_lt n w e pos), old a (rw p) refl)
      go (no a) false p = (e, l, new (omega arith) (rw p) refl)
      go (yes a) true p = eq (ℕ_discrete e 0)
        where
          eq : Dec (e ≡ 0) → (v : ℕ) × (v < n + s) × Spot n w u y e v
          eq (yes z) = (n + y, omega arith, first p z refl)
          eq (no z) = (node_at n w e, omega (arith, node_lt n w e pos), old a (rw (p, ne_eqb e 0 z)) refl)
      go (no a) true p = eq (ℕ_discrete (e - n) y)
        where
          eq : Dec (e - n ≡ y) → (v : ℕ) × (v < n + s) × Spot n w u y e v
          eq (yes z) = (w % n, omega (arith, mod-lt w pos), moved p (omega arith) refl)
          eq (no z) = (e, l, new (omega arith) (rw (p, ne_eqb (e - n) y z)) refl)

  -- each node has a block
  node_spot : (v : ℕ) → v < n + s → (e : ℕ) × (e < n + s) × Spot n w u y e v
  unfolding node_at
  node_spot v l = go (dec_lt v n) u refl
    where
      pos : 0 < n
      pos = omega arith

      go : Dec (v < n) → (t : Bool) → u ≡ t → (e : ℕ) × (e < n + s) × Spot n w u y e v
      go (yes a) false p = (place_of n w v, omega (arith, place_lt n w v pos), old (place_lt n w v pos) (rw p) (node_place n w v a))
      go (no a) false p = (v, l, new (omega arith) (rw p) refl)
      go (yes a) true p = eq (ℕ_discrete (place_of n w v) 0)
        where
          eq : Dec (place_of n w v ≡ 0) → (e : ℕ) × (e < n + s) × Spot n w u y e v
          eq (yes z) =
              (n + y, omega arith, moved p refl (ap (λ (x : ℕ). x % n) (sym (add-zero w)) ∙ ap (node_at n w) (sym z) ∙ node_place n w v a))
          eq (no z) = (
            place_of n w v,
            omega (arith, place_lt n w v pos),
            old (place_lt n w v pos) (rw (p, ne_eqb (place_of n w v) 0 z)) (node_place n w v a),
          )
      go (no a) true p = eq (ℕ_discrete (v - n) y)
        where
          eq : Dec (v - n ≡ y) → (e : ℕ) × (e < n + s) × Spot n w u y e v
          eq (yes z) = (0, omega arith, first p refl (omega arith))
          eq (no z) = (v, l, new (omega arith) (rw (p, ne_eqb (v - n) y z)) refl)

  -- the blocks and the nodes of a slot, one to one
  pub home_block : (v : ℕ) → v < n + s → (block_in n w u y v < n + s) × (home_in n k w u y (block_in n w u y v) ≡ v)
  home_block v l =
      let z = node_spot v l in
      let b : block_in n w u y v ≡ z.0 = spot_block z.0 v z.2 in
      (rw b z.1, rw b (spot_home z.0 v z.2))

  pub block_home : (e : ℕ) → e < n + s → (home_in n k w u y e < n + s) × (block_in n w u y (home_in n k w u y e) ≡ e)
  block_home e l =
      let z = block_spot e l in
      let b : home_in n k w u y e ≡ z.0 = spot_home e z.0 z.2 in
      (rw b z.1, rw b (spot_block e z.0 z.2))
