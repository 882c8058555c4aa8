-- The check matrix, stored row by row. Assumes nothing.
use mathlib.Core.Path.{◌≡◌, refl, sym, ap, ◌∙◌}
use mathlib.Core.List.{List}
use mathlib.Core.Bool.{false, ◌&&◌}
use Prim.Native.Nat.{ℕ, ◌+◌, ◌*◌, ◌/◌, ◌%◌, ◌≤◌, ◌<◌}
use native.Mathlib.Decide.{ℕ_discrete, dec_lt}
use native.Mathlib.Omega.{arith}
use lib.Dec.{eqb, ltb}
use lib.ListN.{length, get_or, set, replicate, get_or-replicate}
use lib.Seq.{get_or-set_same, get_or-set_other}
use borrow.Author.Tests.{eq-eqb, ne_eqb, lt-ltb, le-ltb}
use Rattle.base.proofs.Choice.{if_false}
use Rattle.base.proofs.Tables.{table_ext}
use Rattle.area.specs.Area.{block, put}
use Rattle.area.proofs.Blocks.{length_block, block_at, length_put, put_below, put_above, put_in}
use Rattle.elimination.specs.Matrix.{entry}
use Rattle.solver.specs.Solution.{check_entry, check_matrix, CheckedTo}

module _ (co : ℕ → ℕ → ℕ) (n k : ℕ) (losses : List ℕ) where
  -- no row is stored in an array of zeros
  pub checked_none : CheckedTo co n k losses 0 (replicate 80 0)
  unfolding entry
  checked_none = record { before = λ o p h. absurd (omega arith); after = λ o p h l hp. get_or-replicate 80 (o * 20 + p) 0 0 (omega arith) }

  module _ (j : ℕ) (m : List ℕ) (s : CheckedTo co n k losses j m) (hj : j < 4) where
    -- a row that is not there stays zero
    row_left : (ltb (k + j) n && eqb (get_or losses (k + j) 0) 0) ≡ false → CheckedTo co n k losses (j + 1) m
    unfolding check_entry
    row_left off = record { before = λ o p h l. go o p h l (ℕ_discrete o j); after = λ o p h l hp. s.after o p (omega arith) l hp }
      where
        go : (o p : ℕ) → o < j + 1 → p < 20 → Dec (o ≡ j) → entry m o p ≡ check_entry co n k losses o p
        go o p h l (yes e) = rw e (s.after j p (omega arith) hj l ∙ sym (if_false _ _ _ off))
        go o p h l (no d) = s.before o p (omega arith) l

    pub row_missing : n ≤ k + j → CheckedTo co n k losses (j + 1) m
    row_missing h = row_left (rw (le-ltb (k + j) n h) refl)

    pub row_lost : (get_or losses (k + j) 0 ≡ 0 → ⊥) → k + j < n → CheckedTo co n k losses (j + 1) m
    row_lost d h = row_left (rw (lt-ltb (k + j) n h) (ne_eqb (get_or losses (k + j) 0) 0 d))

  -- all four rows are the whole matrix
  pub checked_all : (j : ℕ) (m : List ℕ) → CheckedTo co n k losses j m → 4 ≤ j → length m ≡ 80 → m ≡ check_matrix co n k losses
  unfolding check_matrix entry
  checked_all j m s h size =
      table_ext 80 (λ a. check_entry co n k losses (a / 20) (a % 20)) m size (λ a l.
      let e : a / 20 * 20 + a % 20 ≡ a = omega arith in
      ap (λ (x : ℕ). get_or m x 0) (sym e) ∙ s.before (a / 20) (a % 20) (omega arith) (omega arith))

-- a row that is there: its coefficients from `rows`, and 1 at its own block
module _ (n k : ℕ) (losses rows : List ℕ) (j : ℕ) (m : List ℕ) (s : CheckedTo (entry rows) n k losses j m) (hj : j < 4)
    (size : length m ≡ 80)
    (here : k + j < n) (few : n ≤ 20) (there : get_or losses (k + j) 0 ≡ 0) where
  abbrev row : List ℕ
  row = block rows (j * 20) k

  abbrev copied : List ℕ
  copied = put m (j * 20) row

  abbrev stored : List ℕ
  stored = set copied (j * 20 + (k + j)) 1

  long : length row ≡ k
  long = length_block rows (j * 20) k

  -- a place of another row
  other : (o p : ℕ) → p < 20 → (o ≡ j → ⊥) → entry stored o p ≡ entry m o p
  unfolding entry
  other o p hp d =
      get_or-set_other copied (j * 20 + (k + j)) (o * 20 + p) 1 0 (λ e. d (omega arith)) ∙ go (dec_lt o j)
    where
      go : Dec (o < j) → get_or copied (o * 20 + p) 0 ≡ get_or m (o * 20 + p) 0
      go (yes l) = put_below m (j * 20) row (o * 20 + p) (omega arith)
      go (no l) = put_above m (j * 20) row (o * 20 + p) (omega (arith, long))

  -- a place of this row
  own : (p : ℕ) → p < 20 → Dec (p < k) → Dec (p ≡ k + j) → entry stored j p ≡ check_entry (entry rows) n k losses j p
  unfolding entry check_entry
  own p hp (yes l) e =
      get_or-set_other copied (j * 20 + (k + j)) (j * 20 + p) 1 0 (λ x. omega arith)
      ∙ put_in m (j * 20) row p (omega (arith, long)) (omega (arith, long))
      ∙ block_at rows (j * 20) k p l
      ∙ sym (rw (lt-ltb (k + j) n here, eq-eqb (get_or losses (k + j) 0) 0 there, lt-ltb p k l) refl)
  own p hp (no l) (yes e) =
      rw e (get_or-set_same copied (j * 20 + (k + j)) 1 0 (omega (arith, length_put m (j * 20) row))
      ∙ sym (rw (
        lt-ltb (k + j) n here,
        eq-eqb (get_or losses (k + j) 0) 0 there,
        le-ltb (k + j) k (omega arith),
        eq-eqb (k + j) (k + j) refl,
      )
      refl))
  own p hp (no l) (no d) =
      get_or-set_other copied (j * 20 + (k + j)) (j * 20 + p) 1 0 (λ x. d (omega arith))
      ∙ put_above m (j * 20) row (j * 20 + p) (omega (arith, long))
      ∙ s.after j p (omega arith) hj hp
      ∙ sym (rw (lt-ltb (k + j) n here, eq-eqb (get_or losses (k + j) 0) 0 there, le-ltb p k (omega arith), ne_eqb p (k + j) d) refl)

  pub row_stored : {out : List ℕ} → out ≡ put m (j * 20) (block rows (j * 20) k)
      → CheckedTo (entry rows) n k losses (j + 1) (set out (j * 20 + (k + j)) 1)
  row_stored {out} e =
      rw e (record {
        before = λ o p h l. go o p h l (ℕ_discrete o j);
        after = λ o p h l hp. other o p hp (omega arith)
            ∙ s.after o p (omega arith) l hp;
      })
    where
      go : (o p : ℕ) → o < j + 1 → p < 20 → Dec (o ≡ j) → entry stored o p ≡ check_entry (entry rows) n k losses o p
      go o p h l (yes x) = rw x (own p l (dec_lt p k) (ℕ_discrete p (k + j)))
      go o p h l (no d) = other o p l d ∙ s.before o p (omega arith) l
