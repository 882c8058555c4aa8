-- A node's part of the area: its slots are the node's cells, and what is put into the part is put into the cells. Assumes nothing.
use mathlib.Core.Path.{◌≡◌, refl, ap, ◌∙◌}
use mathlib.Core.List.{List}
use Prim.Native.Nat.{ℕ, zero, suc, ◌+◌, ◌-◌, ◌*◌, ◌≤◌, ◌<◌}
use native.Mathlib.Nat.{add-mul}
use native.Mathlib.Omega.{arith}
use lib.ListN.{length, length-take, length-drop}
use borrow.Rule.Slice.PartMut.{put_mid, mid_of, put_same}
use Rattle.base.specs.Folds.{run}
use Rattle.base.proofs.Runs.{run_keeps}
use Rattle.area.specs.Area.{slot, put_slot}
use Rattle.area.proofs.Parts.{put_mid_then, part_block, block_part}
use Rattle.area.proofs.Slots.{room, length_put_slot}
use Rattle.layout.specs.declared.Shape.{Shape}
use Rattle.layout.specs.Counts.{kept, stripes}
use Rattle.layout.specs.Addresses.{node_slots, node_start, address, area_length}
use Rattle.layout.proofs.AddressLaws.{slots_old}
use Rattle.counts.proofs.Starts.{end_byte}
use Rattle.growth.specs.Cells.{cell, put_cell}
use Rattle.growth.specs.Local.{node_part}
use Rattle.parts.specs.Own.{part_of, with_part}

-- ---- a part as the code lends it, from byte s to byte e

module _ (z : Shape) (v : ℕ) (area : List ℕ) {s e : ℕ} (from : s ≡ node_start z v * z.b)
    (to : e ≡ node_start z v * z.b + node_slots z v * z.b) where
  lent_bytes_law : e - s ≡ node_slots z v * z.b
  lent_bytes_law = omega arith

  pub lent : mid_of s (e - s) area ≡ part_of z v area
  lent = rw (lent_bytes_law, from)

  pub handed_back : (own : List ℕ) → put_mid s (e - s) area own ≡ with_part z v area own
  handed_back own = rw (lent_bytes_law, from)

-- ---- the part of an area of the shape's length

module _ (z : Shape) (v : ℕ) (there : v < z.n + z.s) (area : List ℕ) (long : length area ≡ area_length z) where
  part_fits : node_start z v * z.b + node_slots z v * z.b ≤ length area
  part_fits = let h = end_byte z v there in omega arith

  pub length_part : length (part_of z v area) ≡ node_slots z v * z.b
  length_part = let h = part_fits in simp (length-take, length-drop) (omega arith)

  -- the part that `growth` speaks of
  pub part_is : part_of z v area ≡ node_part z area v
  unfolding node_part
  part_is = let h = part_fits in part_block area (node_start z v * z.b) (node_slots z v * z.b) h

  pub own_cell : (g : ℕ) → g < node_slots z v → slot (part_of z v area) z.b g ≡ cell z area v g
  unfolding slot cell address
  own_cell g l =
      block_part (node_start z v * z.b) (node_slots z v * z.b) area (g * z.b) z.b (room g (node_slots z v) z.b l) ∙ rw add-mul

  -- whatever the part has become
  pub put_own : (own : List ℕ) (g : ℕ) (block : List ℕ) → length own ≡ node_slots z v * z.b → g < node_slots z v → length block ≡ z.b
      → with_part z v area (put_slot own z.b g block) ≡ put_cell z (with_part z v area own) v g block
  unfolding put_slot put_cell address
  put_own own g block lo lg lb =
      let fits : g * z.b + length block ≤ node_slots z v * z.b = rw lb (room g (node_slots z v) z.b lg) in
      put_mid_then (node_start z v * z.b) (node_slots z v * z.b) area own (g * z.b) block part_fits lo fits ∙ rw add-mul

  pub put_part : (g : ℕ) (block : List ℕ) → g < node_slots z v → length block ≡ z.b
      → with_part z v area (put_slot (part_of z v area) z.b g block) ≡ put_cell z area v g block
  put_part g block lg lb =
      put_own (part_of z v area) g block length_part lg lb
      ∙ ap (λ a. put_cell z a v g block) (put_same (node_start z v * z.b) (node_slots z v * z.b) area)

  -- a run of puts
  module _ (at : ℕ → ℕ) (f : ℕ → List ℕ) (size : (t : ℕ) → length (f t) ≡ z.b) where
    length_puts_own : (p n : ℕ) (own : List ℕ) → length (run (λ t o. put_slot o z.b (at t) (f t)) p n own) ≡ length own
    length_puts_own p n own = run_keeps _ length p n own (λ t o l u. length_put_slot o z.b (at t) (f t))

    run_own_from : (p n : ℕ) (own : List ℕ) → length own ≡ node_slots z v * z.b → ((t : ℕ) → p ≤ t → t < p + n → at t < node_slots z v)
        → with_part z v area (run (λ t o. put_slot o z.b (at t) (f t)) p n own)
        ≡ run (λ t a. put_cell z a v (at t) (f t)) p n (with_part z v area own)
    unfolding run
    run_own_from p zero own lo inside = refl
    run_own_from p (suc n) own lo inside =
        put_own _ (at (p + n)) (f (p + n)) (length_puts_own p n own ∙ lo) (inside (p + n) (omega arith) (omega arith)) (size (p + n))
        ∙ ap (λ a. put_cell z a v (at (p + n)) (f (p + n))) (run_own_from p n own lo (λ t l u. inside t l (omega arith)))

    pub run_own : (n : ℕ) (own : List ℕ) → length own ≡ node_slots z v * z.b → ((t : ℕ) → t < n → at t < node_slots z v)
        → with_part z v area (run (λ t o. put_slot o z.b (at t) (f t)) 0 n own)
        ≡ run (λ t a. put_cell z a v (at t) (f t)) 0 n (with_part z v area own)
    run_own n own lo inside = run_own_from 0 n own lo (λ t l u. inside t (omega arith))

-- ---- the part of an old node, which has G slots

pub length_old : (z : Shape) (v : ℕ) → v < z.n → (area : List ℕ) → length area ≡ area_length z → {own : List ℕ} → own ≡ part_of z v area
    → length own ≡ stripes z * z.b
length_old z v old area long e = ap length e ∙ length_part z v (omega arith) area long ∙ ap (λ x. x * z.b) (slots_old z v old)

-- slot g lies inside it, and so does the slot of a kept stripe
pub slot_fits : (z : Shape) (g m : ℕ) → g < stripes z → m ≡ stripes z * z.b → g * z.b + z.b ≤ m
slot_fits z g m l long = rw long (room g (stripes z) z.b l)

pub kept_fits : (z : Shape) (w m : ℕ) → w < kept z → m ≡ stripes z * z.b → w * z.b + z.b ≤ m
unfolding stripes
kept_fits z w m l long = slot_fits z w m (omega arith) long
