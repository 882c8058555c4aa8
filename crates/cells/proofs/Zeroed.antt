-- Zeros written in one stretch, from a slot of a node on, are zeros put slot by slot. Assumes nothing.
use mathlib.Core.Path.{◌≡◌, sym, ap, ◌∙◌}
use mathlib.Core.List.{List}
use Prim.Native.Nat.{ℕ, zero, suc, ◌+◌, ◌*◌}
use native.Mathlib.Nat.{zero-mul, suc-mul, add-zero, add-suc, add_assoc}
use native.Mathlib.Omega.{arith}
use Rattle.base.specs.Folds.{run}
use Rattle.area.specs.Area.{writes, put, zeros, put_slot}
use Rattle.area.proofs.Writes.{writes_put}
use Rattle.layout.specs.declared.Shape.{Shape}
use Rattle.layout.specs.Addresses.{node_start, address}
use Rattle.growth.specs.Cells.{put_cell, zero_cells}

zeros_writes : (d : List ℕ) (at n : ℕ) → put d at (zeros n) ≡ writes d at (λ _. 0) n
unfolding zeros
zeros_writes d at n = sym (writes_put d at (λ _. 0) n)

writes_zeros : (d : List ℕ) (at m n : ℕ) → writes d at (λ _. 0) (m + n) ≡ writes (writes d at (λ _. 0) m) (at + m) (λ _. 0) n
unfolding writes
writes_zeros d at m zero = rw add-zero
writes_zeros d at m (suc n) = rw (add-suc, writes_zeros d at m n, add_assoc)

-- one stretch after another
zeros_more : (d : List ℕ) (at m n : ℕ) → put d at (zeros (m + n)) ≡ put (put d at (zeros m)) (at + m) (zeros n)
zeros_more d at m n =
    rw (zeros_writes d at (m + n), zeros_writes d at m, zeros_writes (writes d at (λ _. 0) m) (at + m) n) (writes_zeros d at m n)

-- one slot more
zeroed_more : (z : Shape) (v g n : ℕ) (area : List ℕ) {old : List ℕ} → put area (address z v g * z.b) (zeros (n * z.b)) ≡ old
    → put area (address z v g * z.b) (zeros (suc n * z.b)) ≡ put_cell z old v (g + n) (zeros z.b)
unfolding put_cell put_slot address
zeroed_more z v g n area {old} e =
    let next : (node_start z v + g) * z.b + n * z.b ≡ (node_start z v + (g + n)) * z.b = omega arith in
    ap (λ (x : ℕ). put area ((node_start z v + g) * z.b) (zeros x)) (suc-mul n z.b)
    ∙ zeros_more area ((node_start z v + g) * z.b) (n * z.b) z.b
    ∙ rw (e, next)

-- `count` slots of node v, from slot g on
pub zeroed : (z : Shape) (v g count : ℕ) (area : List ℕ)
    → put area (address z v g * z.b) (zeros (count * z.b)) ≡ zero_cells z v g count area
unfolding zero_cells run writes
zeroed z v g zero area = rw (zero-mul, zeros_writes)
zeroed z v g (suc n) area = zeroed_more z v g n area (zeroed z v g n area)

-- from the node's first slot on
pub node_zeroed : (z : Shape) (v count : ℕ) (area : List ℕ)
    → put area (node_start z v * z.b) (zeros (count * z.b)) ≡ zero_cells z v 0 count area
unfolding address
node_zeroed z v count area = rw add-zero at (zeroed z v 0 count area)
