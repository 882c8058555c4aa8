-- A block by tiles: what is stored up to byte x, and the tile from x on, are what is stored up to its end. One proof for every
-- multiplier. Assumes nothing.
use mathlib.Core.Path.{◌≡◌, sym, ap, ◌∙◌}
use mathlib.Core.List.{List, ◌++◌}
use mathlib.Core.Logic.{◌⊎◌, inl, inr}
use Prim.Native.Nat.{ℕ, zero, suc, ◌+◌, ◌-◌, ◌≤◌, ◌<◌}
use native.Mathlib.Nat.{zero-add, add-zero, add-suc, add_assoc}
use native.Mathlib.Omega.{arith}
use lib.ListN.{length, get_or, take, drop, length-take, length-drop}
use borrow.Rule.Slice.PartMut.{put_mid}
use Rattle.base.specs.Folds.{table}
use Rattle.base.proofs.Tables.{table_same}
use Rattle.gf256.specs.Field.{mul, pow, xor_sum}
use Rattle.gf256.proofs.Sums.{xor_sum_same}
use Rattle.area.specs.Area.{block, writes, put}
use Rattle.area.specs.Scratch.{blank_small}
use Rattle.area.proofs.Blocks.{block_eq}
use Rattle.area.proofs.Writes.{writes_put, writes_above, writes_below}
use Rattle.area.proofs.Lending.{part_block}
use Rattle.area.proofs.Loops.{done, done0}
use Rattle.area.proofs.Parts.{put_mid_whole}
use Rattle.powers.specs.Powers.{column, power_byte, power_bytes}
use Rattle.tiles.specs.Clear.{Clear}
use Rattle.powers.proofs.Laws.{length_power_bytes}

-- ---- stores after stores

writes_then : (d : List ℕ) (at : ℕ) (f : ℕ → ℕ) (n k : ℕ) → writes (writes d at f n) (at + n) (λ i. f (n + i)) k ≡ writes d at f (n + k)
unfolding writes
writes_then d at f n zero = rw add-zero
writes_then d at f n (suc k) = rw (add-suc, writes_then d at f n k, add_assoc)

put_then : (d : List ℕ) (at : ℕ) (f : ℕ → ℕ) (n k : ℕ) {cells bs r : List ℕ} → cells ≡ writes d at f n → bs ≡ table k (λ i. f (n + i))
    → r ≡ put cells (at + n) bs
    → r ≡ writes d at f (n + k)
put_then d at f n k {cells} {bs} {r} p q e =
    e ∙ rw (p, q) (sym (writes_put (writes d at f n) (at + n) (λ i. f (n + i)) k) ∙ writes_then d at f n k)

-- ---- a tile, filled from its start

whole : (l : List ℕ) (b : ℕ) → length l ≡ b → block l 0 b ≡ l
whole l b e = block_eq l 0 b l e (λ k h. rw zero-add)

pub tile_block : (m : ℕ) (at src : List ℕ) (n x b : ℕ) {s : List ℕ} → s ≡ power_bytes m at src n 0 x b
    → block s 0 b ≡ power_bytes m at src n 0 x b
tile_block m at src n x b {s} e = whole s b (ap length e ∙ length_power_bytes m at src n 0 x b) ∙ e

-- the first b bytes of a small scratch block were lent
module _ (m : ℕ) (at src : List ℕ) (n x b : ℕ) {z s : List ℕ} (made : z ≡ blank_small) (small : b ≤ 256)
    (e : s ≡ power_bytes m at src n 0 x (length (take b z))) where
  pub rest_block : (w : List ℕ) → block (s ++ w) 0 b ≡ power_bytes m at src n 0 x b
  rest_block w = part_block (power_bytes m at src n 0 x) (length_power_bytes m at src n 0 x) 256 b made small e w

-- ---- into a slice of its own

from_start : (m : ℕ) (at src : List ℕ) (n b : ℕ) → table b (power_byte m at src n 0) ≡ power_bytes m at src n 0 0 b
unfolding power_bytes
from_start m at src n b =
    table_same b (power_byte m at src n 0) (λ i. power_byte m at src n 0 (0 + i)) (λ i l. ap (power_byte m at src n 0) (sym (zero-add i)))

module _ (m : ℕ) (at src : List ℕ) (n : ℕ) (d : List ℕ) where
  pub block_turn : (x k : ℕ) {cells bs r : List ℕ} → cells ≡ writes d 0 (power_byte m at src n 0) x → bs ≡ power_bytes m at src n 0 x k
      → r ≡ put cells x bs
      → r ≡ writes d 0 (power_byte m at src n 0) (x + k)
  unfolding power_bytes
  block_turn x k {cells} {bs} {r} p q e = put_then d 0 (power_byte m at src n 0) x k p q (e ∙ rw zero-add)

  pub block_end : (x : ℕ) {cells : List ℕ} → cells ≡ writes d 0 (power_byte m at src n 0) x → x ≤ length d → length d ≤ x
      → cells ≡ power_bytes m at src n 0 0 (length d)
  block_end x p l h = done0 d (power_byte m at src n 0) x p l h ∙ from_start m at src n (length d)

  -- the last bytes are summed where they belong
  pub block_rest : (x : ℕ) {cells s : List ℕ} → cells ≡ writes d 0 (power_byte m at src n 0) x → length cells ≡ length d → x ≤ length d
      → s ≡ power_bytes m at src n 0 x (length (take (length cells - x) (drop x cells)))
      → put_mid x (length cells - x) cells s ≡ power_bytes m at src n 0 0 (length d)
  block_rest x {cells} {s} p e l h =
      let k : ℕ = length cells - x in
      let z : length (take k (drop x cells)) ≡ k = simp (length-take, length-drop) (omega arith) in
      let q : s ≡ power_bytes m at src n 0 x k = h ∙ ap (power_bytes m at src n 0 x) z in
      let u : length s ≡ k = ap length q ∙ length_power_bytes m at src n 0 x k in
      block_end (x + k) (block_turn x k p q (put_mid_whole x k cells s (omega arith) u)) (omega arith) (omega arith)

-- ---- into a block of the same area

module _ (m : ℕ) (at : List ℕ) (n : ℕ) (d : List ℕ) (to b : ℕ) (clear : Clear at n to b) where
  -- what is stored lies before every column byte that is still to be read, or beside the columns
  same_column : (f : ℕ → ℕ) (x i c : ℕ) {cells : List ℕ} → cells ≡ writes d to f x → x + i < b → c < n
      → column at cells c (x + i) ≡ column at d c (x + i)
  unfolding column
  same_column f x i c {cells} p h l = rw p (go (clear.each c l))
    where
      go : (to ≤ get_or at c 0) ⊎ (get_or at c 0 + b ≤ to)
          → get_or (writes d to f x) (get_or at c 0 + (x + i)) 0 ≡ get_or d (get_or at c 0 + (x + i)) 0
      go (inl u) = writes_above d to f x (get_or at c 0 + (x + i)) (omega arith)
      go (inr u) = writes_below d to f x (get_or at c 0 + (x + i)) (omega arith)

  same_bytes_law : (f : ℕ → ℕ) (x k : ℕ) {cells : List ℕ} → cells ≡ writes d to f x → x + k ≤ b
      → power_bytes m at cells n 0 x k ≡ power_bytes m at d n 0 x k
  unfolding power_bytes power_byte
  same_bytes_law f x k {cells} p h =
      table_same k (λ i. xor_sum (n - 0) (λ t. mul (pow m t) (column at cells (0 + t) (x + i))))
      (λ i. xor_sum (n - 0) (λ t. mul (pow m t) (column at d (0 + t) (x + i))))
      (λ i l. xor_sum_same (n - 0) (λ t. mul (pow m t) (column at cells (0 + t) (x + i))) (λ t. mul (pow m t) (column at d (0 + t) (x + i)))
      (λ t u. ap (mul (pow m t)) (same_column f x i (0 + t) p (omega arith) (omega arith))))

  pub within_turn : (x k : ℕ) {cells bs r : List ℕ} → cells ≡ writes d to (power_byte m at d n 0) x → x + k ≤ b
      → bs ≡ power_bytes m at cells n 0 x k → r ≡ put cells (to + x) bs
      → r ≡ writes d to (power_byte m at d n 0) (x + k)
  unfolding power_bytes
  within_turn x k {cells} {bs} {r} p h q e =
      put_then d to (power_byte m at d n 0) x k p (q ∙ same_bytes_law (power_byte m at d n 0) x k p h) e

  pub within_end : (x : ℕ) {cells : List ℕ} → cells ≡ writes d to (power_byte m at d n 0) x → x ≤ b → b ≤ x
      → cells ≡ put d to (power_bytes m at d n 0 0 b)
  within_end x p l h = done d to (power_byte m at d n 0) x p l h ∙ ap (put d to) (from_start m at d n b)
