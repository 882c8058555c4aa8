-- The listing of a node's data blocks in closed form, and the bijection between new blocks and dissolved blocks. Assumes nothing.
use mathlib.Core.Path.{◌≡◌, refl, sym, ap, ◌∙◌}
use mathlib.Core.Bool.{true}
use Prim.Native.Nat.{ℕ, ◌+◌, ◌-◌, ◌*◌, ◌/◌, ◌%◌, ◌≤◌, ◌<◌}
use native.Mathlib.Nat.{mod-lt, div-add-mod', div-lt_iff_lt-mul, add-sub_cancel_left}
use native.Mathlib.Omega.{arith}
use lib.Dec.{leb}
use lib.Arith.{digits_lt, digits_div, digits_mod}
use lib.ListN.{length, get_or}
use borrow.Author.Tests.{le-leb}
use Rattle.base.specs.Folds.{indicator, count_range}
use Rattle.base.proofs.Sums.{sum_same}
use Rattle.layout.specs.declared.Shape.{Shape}
use Rattle.layout.specs.Ranges.{rows, InRanges}
use Rattle.layout.specs.Counts.{kept, dissolved, stripes}
use Rattle.layout.specs.Nodes.{data_node, has_data}
use Rattle.layout.specs.Sources.{listing, source_node, source_rank, source_slot, source_column, block_rank, target_stripe, target_index}
use Rattle.layout.specs.Claims.{Taken, Given}
use Rattle.layout.specs.Offsets.{nth_offset, offset_rank}
use Rattle.layout.proofs.Cycle.{place_of, place_periods, above, above_zero, above_periods, above_nth, above_number}
use Rattle.layout.proofs.ListingLaws.{length_filter, count_lt, filter_count, count_hit}
use Rattle.layout.proofs.NodeLaws.{data_node_lt, place_data, has_data_law, column_on_law, data_there, data_found}

module _ (z : Shape) (ok : InRanges z) where
  -- P is a number of whole periods
  place_kept : (a x i : ℕ) → place_of z.n (kept z + (a * z.n + x)) i ≡ place_of z.n x i
  unfolding kept
  place_kept a x i =
      let e : z.n * z.k * (z.n + z.s) + (a * z.n + x) ≡ (z.k * (z.n + z.s) + a) * z.n + x = omega arith in
      rw e (place_periods z.n (z.k * (z.n + z.s) + a) x i)

  place_from_kept : (x i : ℕ) → place_of z.n (kept z + x) i ≡ place_of z.n x i
  unfolding kept
  place_from_kept x i =
      let e : z.n * z.k * (z.n + z.s) + x ≡ z.k * (z.n + z.s) * z.n + x = omega arith in
      rw e (place_periods z.n (z.k * (z.n + z.s)) x i)

  count_above : (i : ℕ) → i < z.n → (x : ℕ) → count_range (has_data z i) (kept z) x ≡ above z.n (rows z) i x
  unfolding count_range above
  count_above i l x =
      sum_same x (λ y. indicator (has_data z i (kept z + y))) (λ y. indicator (leb (rows z) (place_of z.n y i)))
      (λ y m. ap indicator (has_data_law z ok i (kept z + y) l ∙ ap (leb (rows z)) (place_from_kept y i)))

  -- each node has s k (n + s) data blocks in the dissolved slots
  pub count_all : (i : ℕ) → i < z.n → count_range (has_data z i) (kept z) (dissolved z) ≡ z.s * z.k * (z.n + z.s)
  unfolding dissolved
  count_all i l =
      let e : z.n * z.s * (z.n + z.s) ≡ z.s * (z.n + z.s) * z.n + 0 = omega arith in
      let f : z.n - rows z ≡ z.k = omega arith in
      let o : above z.n (rows z) i 0 ≡ 0 = above_zero z.n (rows z) i in
      let p : above z.n (rows z) i (z.s * (z.n + z.s) * z.n + 0) ≡ z.s * (z.n + z.s) * (z.n - rows z)
      + above z.n (rows z) i 0 =
      above_periods z.n (rows z) i (z.s * (z.n + z.s)) 0 l (omega arith) in
      count_above i l (z.n * z.s * (z.n + z.s)) ∙ ap (above z.n (rows z) i) e ∙ p ∙ rw (f, o) (omega arith)

  pub listing_length : (i : ℕ) → i < z.n → length (listing z i) ≡ z.s * z.k * (z.n + z.s)
  unfolding listing
  listing_length i l = length_filter (has_data z i) (kept z) (dissolved z) ∙ count_all i l

  -- entry a k + b of node i's listing
  pub listing_at : (i a b : ℕ) → i < z.n → b < z.k → a < z.s * (z.n + z.s)
      → get_or (listing z i) (a * z.k + b) 0 ≡ kept z + (a * z.n + nth_offset (rows z) i b)
  unfolding listing
  listing_at i a b l h m =
      let o : ℕ = nth_offset (rows z) i b in
      let x : ℕ = a * z.n + o in
      let so = above_nth z.n (rows z) i b l (omega arith) in
      let fit : x < z.s * (z.n + z.s) * z.n = digits_lt m so.0 in
      let fit' : x < dissolved z = unfold dissolved in (omega arith) in
      let f : z.n - rows z ≡ z.k = omega arith in
      let rk : count_range (has_data z i) (kept z) x ≡ a * z.k + b =
      count_above i l x ∙ above_periods z.n (rows z) i a o l (omega arith) ∙ rw (f, so.2) refl in
      let here : has_data z i (kept z + x) ≡ true =
      has_data_law z ok i (kept z + x) l ∙ le-leb (rows z) (place_of z.n (kept z + x) i) (rw (place_kept a o i) so.1) in
      rw (← rk) (filter_count (has_data z i) (kept z) x (dissolved z) fit' here)

  -- ---- the bijection between the new blocks (w, t) and the dissolved data blocks (g, d)

  -- entry q of node i's listing: its slot holds a data block of i, and q others stand before it
  entry : (i q : ℕ) → i < z.n → q < z.s * z.k * (z.n + z.s)
      → (x : ℕ) × (x < dissolved z) × (has_data z i (kept z + x) ≡ true) × (count_range (has_data z i) (kept z) x ≡ q)
      × (get_or (listing z i) q 0 ≡ kept z + x)
  unfolding listing
  entry i q l h =
      let e = count_hit (has_data z i) (kept z) (dissolved z) q (rw (count_all i l) h) in (
        e.0,
        e.1,
        e.2,
        e.3,
        ap (λ (y : ℕ). get_or (listing z i) y 0) (sym e.3)
            ∙ filter_count (has_data z i) (kept z) e.0 (dissolved z) e.1 e.2,
      )

  pub source_node_lt : (w : ℕ) → source_node z w < z.n
  unfolding source_node
  source_node_lt w =
      let pos : 0 < z.n = omega arith in
      mod-lt w pos

  pub item_lt : (w t : ℕ) → w < kept z → t < z.s → source_rank z w t < z.s * z.k * (z.n + z.s)
  unfolding kept source_rank
  item_lt w t h l =
      let pos : 0 < z.n = omega arith in
      let m : w < z.k * (z.n + z.s) * z.n = omega arith in
      let a : w / z.n < z.k * (z.n + z.s) = (div-lt_iff_lt-mul pos).1 m in
      omega (arith, digits_lt a l)

  -- number (w div n) s + t of node w mod n leads back to w and t
  back_stripe : (w t : ℕ) → t < z.s → source_rank z w t / z.s * z.n + source_node z w ≡ w
  unfolding source_rank source_node
  back_stripe w t l = rw (digits_div (w / z.n) l) (div-add-mod' w z.n)

  back_index : (w t : ℕ) → t < z.s → source_rank z w t % z.s ≡ t
  unfolding source_rank
  back_index w t l = digits_mod (w / z.n) l

  -- new block t of kept stripe w is a data block of a dissolved stripe, on its node
  pub taken : (w t : ℕ) → w < kept z → t < z.s → Taken z w t (source_slot z w t) (source_column z w t)
  unfolding source_slot source_column target_stripe target_index block_rank stripes
  taken w t h l =
      let i : ℕ = source_node z w in
      let q : ℕ = source_rank z w t in
      let x = entry i q (source_node_lt w) (item_lt w t h l) in
      let g : ℕ = source_slot z w t in
      let e : g ≡ kept z + x.0 = x.4 in
      let c = data_found z ok i g (source_node_lt w) (rw e x.2) in
      let y : g - kept z ≡ x.0 = ap (λ (u : ℕ). u - kept z) e ∙ add-sub_cancel_left (kept z) x.0 in
      let b : count_range (has_data z i) (kept z) (g - kept z) ≡ q = rw y x.3 in
      record {
        from = omega (arith, e);
        under = omega (arith, e, x.1);
        column = c.0;
        node = c.1;
        stripe = rw (c.1, b) (back_stripe w t l);
        index = rw (c.1, b) (back_index w t l);
      }

  -- and every data block of a dissolved stripe is a new block of a kept stripe
  pub given : (g d : ℕ) → kept z ≤ g → g < stripes z → d < z.k → Given z g d (target_stripe z g d) (target_index z g d)
  unfolding stripes kept block_rank source_slot source_column source_rank source_node target_stripe target_index listing
  given g d h m l =
      let spos : 0 < z.s = omega arith in
      let i : ℕ = data_node z g d in
      let il : i < z.n = data_node_lt z ok g d in
      let x : ℕ = g - kept z in
      let gx : kept z + x ≡ g = omega arith in
      let xl : x < dissolved z = omega arith in
      let here : has_data z i (kept z + x) ≡ true = ap (has_data z i) gx ∙ data_there z ok g d l in
      let q : ℕ = block_rank z g d in
      let ql : q < z.s * z.k * (z.n + z.s) = rw (count_all i il) at (count_lt (has_data z i) (kept z) x (dissolved z) xl here) in
      let ql' : q < z.k * (z.n + z.s) * z.s = omega arith in
      let a : q / z.s < z.k * (z.n + z.s) = (div-lt_iff_lt-mul spos).1 ql' in
      let w : ℕ = target_stripe z g d in
      let wm : w % z.n ≡ i = digits_mod (q / z.s) il in
      let wd : w / z.n ≡ q / z.s = digits_div (q / z.s) il in
      let qq : w / z.n * z.s + q % z.s ≡ q = rw wd (div-add-mod' q z.s) in
      let back : source_slot z w (q % z.s) ≡ g = rw (wm, qq) (filter_count (has_data z i) (kept z) x (dissolved z) xl here ∙ gx) in
      record {
        stripe = omega (arith, digits_lt a il);
        index = mod-lt q spos;
        node = wm;
        slot = back;
        column = rw (back, wm) (column_on_law z ok g d l);
      }

  -- ---- closed forms, for the code

  pub source_slot_law : (w t : ℕ) → w < kept z → t < z.s
      → source_slot z w t ≡ kept z + (source_rank z w t / z.k * z.n + nth_offset (rows z) (source_node z w) (source_rank z w t % z.k))
  unfolding source_slot
  source_slot_law w t h l =
      let kpos : 0 < z.k = omega arith in
      let q : ℕ = source_rank z w t in
      let m : q < z.s * (z.n + z.s) * z.k = omega (arith, item_lt w t h l) in
      let a : q / z.k < z.s * (z.n + z.s) = (div-lt_iff_lt-mul kpos).1 m in
      ap (λ (x : ℕ). get_or (listing z (source_node z w)) x 0) (sym (div-add-mod' q z.k))
      ∙ listing_at (source_node z w) (q / z.k) (q % z.k) (source_node_lt w) (mod-lt q kpos) a

  pub block_rank_law : (g d : ℕ) → kept z ≤ g → d < z.k
      → block_rank z g d ≡ (g - kept z) / z.n * z.k + offset_rank (rows z) (data_node z g d) ((g - kept z) % z.n)
  unfolding block_rank
  block_rank_law g d h l =
      let pos : 0 < z.n = omega arith in
      let i : ℕ = data_node z g d in
      let il : i < z.n = data_node_lt z ok g d in
      let x : ℕ = g - kept z in
      let a : ℕ = x / z.n in
      let o : ℕ = x % z.n in
      let ol : o < z.n = mod-lt x pos in
      let gx : kept z + (a * z.n + o) ≡ g = ap (λ (u : ℕ). kept z + u) (div-add-mod' x z.n) ∙ omega arith in
      let pd : place_of z.n g i ≡ rows z + d = place_data z ok g d l in
      let m : rows z ≤ place_of z.n o i = rw (← place_kept a o i, gx, pd) (omega arith) in
      let f : z.n - rows z ≡ z.k = omega arith in
      let p : above z.n (rows z) i (a * z.n + o) ≡ a * (z.n - rows z) + above z.n (rows z) i o =
      above_periods z.n (rows z) i a o il (omega arith) in
      count_above i il x ∙ ap (above z.n (rows z) i) (sym (div-add-mod' x z.n)) ∙ p ∙ rw (f, above_number z.n (rows z) i o il ol m)
