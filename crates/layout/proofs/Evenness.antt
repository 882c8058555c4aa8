-- Evenness, before the growth and after it: over the P slots of the closed layout each node has n k r parity blocks and n k (k + s)
-- data blocks. Assumes nothing.
use mathlib.Core.Path.{◌≡◌, refl, sym, ap, ◌∙◌}
use mathlib.Core.Bool.{Bool, true, false}
use Prim.Native.Nat.{ℕ, suc, ◌+◌, ◌-◌, ◌*◌, ◌%◌, ◌≤◌, ◌<◌}
use native.Mathlib.Nat.{mul-one, mul-zero, zero-add, add-sub_cancel_left}
use native.Mathlib.Decide.{dec_lt}
use native.Mathlib.Omega.{arith}
use lib.Dec.{leb, ltb, eqb}
use borrow.Author.Tests.{le-leb, lt-leb}
use Rattle.base.specs.Tests.{if}
use Rattle.base.specs.Folds.{sum, indicator}
use Rattle.base.proofs.Sums.{sum_same, sum_add, sum_split, sum_const}
use Rattle.base.proofs.Tests.{Leb, holds, fails, leb_view, Eqb, equal, other, eqb_view}
use Rattle.layout.specs.declared.Shape.{Shape}
use Rattle.layout.specs.Ranges.{rows, InRanges}
use Rattle.layout.specs.Counts.{kept, dissolved, stripes, straight_stripes}
use Rattle.layout.specs.Nodes.{has_data}
use Rattle.layout.specs.Closed.{swapped, swap_index, new_parity_at, new_data_at}
use Rattle.layout.proofs.Cycle.{place_of, place_periods, above, above_multiple}
use Rattle.layout.proofs.ListingLaws.{sum_eqb_periods}
use Rattle.layout.proofs.NodeLaws.{has_data_law}
use Rattle.layout.proofs.OneStripe.{block_in}
use Rattle.layout.proofs.ClosedLaws.{block_at, new_parity_at_law, one_block}

unfoldable parity : Shape → ℕ → ℕ → ℕ
parity z v w = indicator (new_parity_at z v w)

-- the arithmetic of the counts, with r = p + 1 = n - k and u = n - s p
count_kept : (n k s p u : ℕ) → s * p + u ≡ n → n * k * (n + s) ≡ n * k * u + k * s * suc p * n
count_kept n k s p u e = omega (arith, ap (λ (x : ℕ). n * k * x) e)

count_even : (n k s p u a b : ℕ) → suc p + k ≡ n → s * p + u ≡ n → a + k * u * k ≡ k * u * n
    → b + k * s * suc p * k ≡ k * s * suc p * (p + k) → a + b ≡ n * k * suc p
count_even n k s p u a b e f g h = omega (arith, ap (λ (x : ℕ). k * u * x) e, ap (λ (x : ℕ). k * suc p * x) f)

module _ (z : Shape) (ok : InRanges z) where
  -- before the growth: G is a number of whole periods
  pub even_before : (i : ℕ) → i < z.n → sum (stripes z) (λ g. indicator (has_data z i g)) ≡ (z.k + z.s) * (z.n + z.s) * z.k
  unfolding above stripes kept dissolved
  even_before i l =
      let e : stripes z ≡ (z.k + z.s) * (z.n + z.s) * z.n = omega arith in
      sum_same (stripes z) (λ g. indicator (has_data z i g)) (λ g. indicator (leb (rows z) (place_of z.n g i)))
      (λ g h. ap indicator (has_data_law z ok i g l))
      ∙ ap (above z.n (rows z) i) e
      ∙ above_multiple z.n (rows z) i ((z.k + z.s) * (z.n + z.s)) z.k l (omega arith)

  -- the P kept stripes are T straight and k s r n swapped ones
  kept_split : kept z ≡ straight_stripes z + z.k * z.s * rows z * z.n
  unfolding kept straight_stripes
  kept_split =
      let p : suc (rows z - 1) ≡ rows z = omega arith in
      rw p at (count_kept z.n z.k z.s (rows z - 1) (z.n - z.s * (rows z - 1)) (omega arith))

  pub straight_le : straight_stripes z ≤ kept z
  straight_le = let e = kept_split in omega arith

  -- what a node has in a straight and in a swapped stripe
  block_straight : (v w : ℕ) → w < straight_stripes z → block_at z v w ≡ if (ltb v z.n) (place_of z.n w v) v
  unfolding block_at block_in swapped
  block_straight v w l = rw (lt-leb (straight_stripes z) w l)

  block_swapped : (v x : ℕ) → block_at z v (straight_stripes z + x) ≡ block_in z.n (straight_stripes z + x) true (x % z.s) v
  unfolding block_at swapped swap_index
  block_swapped v x = rw (le-leb (straight_stripes z) (straight_stripes z + x) (omega arith), add-sub_cancel_left (straight_stripes z) x)

  place_swapped : (v x : ℕ) → place_of z.n (straight_stripes z + x) v ≡ place_of z.n x v
  unfolding straight_stripes
  place_swapped v x =
      let e : straight_stripes z + x ≡ z.k * (z.n - z.s * (rows z - 1)) * z.n + x = omega arith in
      rw e (place_periods z.n (z.k * (z.n - z.s * (rows z - 1))) x v)

  old_straight : (v w : ℕ) → v < z.n → w < straight_stripes z → parity z v w + indicator (leb (rows z) (place_of z.n w v)) ≡ 1
  unfolding parity
  old_straight v w l h =
      rw (new_parity_at_law z ok v w (omega arith), block_straight v w h, le-leb (suc v) z.n l)
      (go (place_of z.n w v) (ltb (place_of z.n w v) (rows z)) (leb (rows z) (place_of z.n w v))
      (leb_view (suc (place_of z.n w v)) (rows z)) (leb_view (rows z) (place_of z.n w v)))
    where
      go : (p : ℕ) (a b : Bool) → Leb (suc p) (rows z) a → Leb (rows z) p b → indicator a + indicator b ≡ 1
      go p a b (holds x) (holds y) = omega arith
      go p a b (holds x) (fails y) = refl
      go p a b (fails x) (holds y) = refl
      go p a b (fails x) (fails y) = omega arith

  old_swapped : (v x : ℕ) → v < z.n → parity z v (straight_stripes z + x) + indicator (leb (rows z) (place_of z.n x v))
      ≡ indicator (leb 1 (place_of z.n x v))
  unfolding parity block_in
  old_swapped v x l =
      rw (new_parity_at_law z ok v (straight_stripes z + x) (omega arith), block_swapped v x, le-leb (suc v) z.n l, place_swapped v x)
      (go (place_of z.n x v) (eqb (place_of z.n x v) 0) (eqb_view (place_of z.n x v) 0))
    where
      last : (p : ℕ) (a b c : Bool) → 0 < p → Leb (suc p) (rows z) a → Leb (rows z) p b → Leb 1 p c
          → indicator a + indicator b ≡ indicator c
      last p a b c m (holds x) (holds y) (holds o) = omega arith
      last p a b c m (holds x) (fails y) (holds o) = refl
      last p a b c m (fails x) (holds y) (holds o) = refl
      last p a b c m (fails x) (fails y) (holds o) = omega arith
      last p a b c m f g (fails o) = absurd (omega arith)

      go : (p : ℕ) (t : Bool) → Eqb p 0 t → indicator (ltb (if t (z.n + x % z.s) p) (rows z)) + indicator (leb (rows z) p)
          ≡ indicator (leb 1 p)
      go p t (equal e) = rw (e, lt-leb (suc (z.n + x % z.s)) (rows z) (omega arith), lt-leb (rows z) 0 (omega arith))
      go p t (other e) =
          last p (ltb p (rows z)) (leb (rows z) p) (leb 1 p) (omega arith) (leb_view (suc p) (rows z)) (leb_view (rows z) p) (leb_view 1 p)

  even_old : (v : ℕ) → v < z.n → sum (kept z) (parity z v) ≡ z.n * z.k * rows z
  unfolding above straight_stripes
  even_old v l =
      let r : ℕ = rows z in
      let u : ℕ = z.n - z.s * (rows z - 1) in
      let st : ℕ = straight_stripes z in
      let q : ℕ = rows z - 1 in
      let qr : suc q ≡ rows z = omega arith in
      let stn : st ≡ z.k * u * z.n = omega arith in
      let sw : ℕ = z.k * z.s * rows z * z.n in
      let two : sum (kept z) (parity z v) ≡ sum st (parity z v) + sum sw (λ x. parity z v (st + x)) =
      ap (λ (m : ℕ). sum m (parity z v)) kept_split ∙ sum_split st sw (parity z v) in
      let a : sum st (parity z v) + above z.n r v st ≡ st * 1 =
      sym (sum_add st (parity z v) (λ w. indicator (leb r (place_of z.n w v))))
      ∙ sum_same st (λ w. parity z v w + indicator (leb r (place_of z.n w v))) (λ w. 1) (λ w h. old_straight v w l h)
      ∙ sum_const st 1 in
      let b : sum sw (λ x. parity z v (st + x)) + above z.n r v sw ≡ above z.n 1 v sw =
      sym (sum_add sw (λ x. parity z v (st + x)) (λ x. indicator (leb r (place_of z.n x v))))
      ∙ sum_same sw (λ x. parity z v (st + x) + indicator (leb r (place_of z.n x v))) (λ x. indicator (leb 1 (place_of z.n x v)))
      (λ x h. old_swapped v x l) in
      let au : above z.n r v st ≡ z.k * u * z.k =
      ap (above z.n r v) stn ∙ above_multiple z.n r v (z.k * u) z.k l (omega arith) in
      let bu : above z.n r v sw ≡ z.k * z.s * r * z.k = above_multiple z.n r v (z.k * z.s * r) z.k l (omega arith) in
      let cu : above z.n 1 v sw ≡ z.k * z.s * r * (q + z.k) =
      above_multiple z.n 1 v (z.k * z.s * r) (q + z.k) l (omega arith) in
      let c1 : sum st (parity z v) + z.k * u * z.k ≡ z.k * u * z.n =
      ap (λ (y : ℕ). sum st (parity z v) + y) (sym au) ∙ a ∙ mul-one st ∙ stn in
      let c2 : sum sw (λ x. parity z v (st + x)) + z.k * z.s * r * z.k ≡ z.k * z.s * r * (q + z.k) =
      ap (λ (y : ℕ). sum sw (λ x. parity z v (st + x)) + y) (sym bu) ∙ b ∙ cu in
      two ∙ (rw qr at (count_even z.n z.k z.s q u (sum st (parity z v)) (sum sw (λ x. parity z v (st + x))) (omega arith)
      (omega arith) c1 (rw qr c2)))

  new_straight : (t w : ℕ) → t < z.s → w < straight_stripes z → parity z (z.n + t) w ≡ 0
  unfolding parity
  new_straight t w l h =
      rw (
        new_parity_at_law z ok (z.n + t) w (omega arith),
        block_straight (z.n + t) w h,
        lt-leb (suc (z.n + t)) z.n (omega arith),
        lt-leb (suc (z.n + t)) (rows z) (omega arith),
      )

  new_swapped : (t x : ℕ) → t < z.s → parity z (z.n + t) (straight_stripes z + x) ≡ indicator (eqb t (x % z.s))
  unfolding parity block_in
  new_swapped t x l =
      rw (
        new_parity_at_law z ok (z.n + t) (straight_stripes z + x) (omega arith),
        block_swapped (z.n + t) x,
        lt-leb (suc (z.n + t)) z.n (omega arith),
        add-sub_cancel_left z.n t,
      ) (go (eqb t (x % z.s)))
    where
      go : (b : Bool) → indicator (ltb (if b 0 (z.n + t)) (rows z)) ≡ indicator b
      go true = rw (le-leb 1 (rows z) (omega arith))
      go false = rw (lt-leb (suc (z.n + t)) (rows z) (omega arith))

  even_new : (t : ℕ) → t < z.s → sum (kept z) (parity z (z.n + t)) ≡ z.n * z.k * rows z
  even_new t l =
      let st : ℕ = straight_stripes z in
      let sw : ℕ = z.n * z.k * rows z * z.s in
      let e : kept z ≡ st + sw = kept_split ∙ omega arith in
      let a : sum st (parity z (z.n + t)) ≡ 0 =
      sum_same st (parity z (z.n + t)) (λ w. 0) (λ w h. new_straight t w l h) ∙ sum_const st 0 ∙ mul-zero st in
      let b : sum sw (λ x. parity z (z.n + t) (st + x)) ≡ z.n * z.k * rows z =
      sum_same sw (λ x. parity z (z.n + t) (st + x)) (λ x. indicator (eqb t (x % z.s))) (λ x h. new_swapped t x l)
      ∙ sum_eqb_periods z.s t (z.n * z.k * rows z) l in
      ap (λ (m : ℕ). sum m (parity z (z.n + t))) e ∙ sum_split st sw (parity z (z.n + t)) ∙ rw (a, b) (zero-add (z.n * z.k * rows z))

  -- over the kept slots each node has n k r parity blocks, and so n k (k + s) data blocks
  pub even_parity : (v : ℕ) → v < z.n + z.s → sum (kept z) (λ w. indicator (new_parity_at z v w)) ≡ z.n * z.k * rows z
  unfolding parity
  even_parity v l = go (dec_lt v z.n)
    where
      go : Dec (v < z.n) → sum (kept z) (parity z v) ≡ z.n * z.k * rows z
      go (yes a) = even_old v a
      go (no a) =
          let e : z.n + (v - z.n) ≡ v = omega arith in
          rw e at (even_new (v - z.n) (omega arith))

  pub even_data : (v : ℕ) → v < z.n + z.s → sum (kept z) (λ w. indicator (new_data_at z v w)) ≡ z.n * z.k * (z.k + z.s)
  unfolding kept
  even_data v l =
      let f : ℕ → ℕ = λ w. indicator (new_parity_at z v w) in
      let g : ℕ → ℕ = λ w. indicator (new_data_at z v w) in
      let a : sum (kept z) f + sum (kept z) g ≡ kept z =
      sym (sum_add (kept z) f g) ∙ sum_same (kept z) (λ w. f w + g w) (λ w. 1) (λ w h. one_block z ok v w l) ∙ sum_const (kept z) 1
      ∙ mul-one (kept z) in
      let b : sum (kept z) f ≡ z.n * z.k * rows z = even_parity v l in
      let c : rows z + z.k ≡ z.n = omega arith in
      omega (arith, ap (λ (x : ℕ). z.n * z.k * x) c)
