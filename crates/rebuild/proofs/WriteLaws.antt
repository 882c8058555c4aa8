-- The columns, then the rows that rebuild writes are those of the data that agree: a store reads no block yet to be written. Assumes
-- nothing.
use mathlib.Core.Path.{◌≡◌, refl, sym, ap, ◌∙◌}
use mathlib.Core.List.{List}
use mathlib.Core.Bool.{Bool, true, false}
use Prim.Native.Nat.{ℕ, suc, ◌+◌, ◌-◌, ◌≤◌, ◌<◌}
use native.Mathlib.Nat.{add-zero}
use native.Mathlib.Decide.{ℕ_discrete, dec_lt}
use native.Mathlib.Omega.{arith}
use lib.ListN.{length, get_or}
use borrow.Author.Tests.{le-ltb}
use Rattle.base.specs.Tests.{if}
use Rattle.base.specs.Folds.{run}
use Rattle.base.proofs.Runs.{run_each}
use Rattle.area.specs.Area.{slot, put_slot}
use Rattle.area.proofs.Slots.{length_put_slot, slot_same, slot_other}
use Rattle.code.specs.Rows.{coefficient, parity_row}
use Rattle.code.specs.Agreement.{stripe_block, Agrees, is_lost}
use Rattle.code.proofs.Laws.{parity_row_same}
use Rattle.solver.specs.Losses.{OverPresent}
use Rattle.solver.specs.Solution.{solved}
use Rattle.solver.specs.Claims.{Solvable, SolverClaims}
use Rattle.recovery.specs.Rebuild.{Encodes}
use Rattle.rebuild.specs.Steps.{combined_blocks, columns_hold, column_by, column_step, columns_written, row_step, rows_written}
use Rattle.elimination.proofs.RowLaws.{ByteList}
use Rattle.recovery.proofs.Vectors.{vector, vector_bytes, block_ext, length_stripe_block, stripe_byte, stripe_column}
use Rattle.solver.proofs.Encodings.{encoded_byte, over_same}
use Rattle.solver.proofs.LossLaws.{present_byte}
use Rattle.recovery.proofs.Passed.{Passed}
use Rattle.rebuild.proofs.Combined.{length_combined_blocks, combined_byte}
use Rattle.rebuild.proofs.ColumnLaws.{giving, column_given, column_value}

pub stripe_row : (m : ℕ → ℕ) (b k : ℕ) (d : List ℕ) (j : ℕ) → stripe_block m b k d (k + j) ≡ parity_row m b k j (slot d b)
unfolding stripe_block
stripe_row m b k d j =
    let e : k + j - k ≡ j = omega arith in
    rw (le-ltb (k + j) k (omega arith)) (ap (λ (x : ℕ). parity_row m b k x (slot d b)) e)

-- the blocks before q are those of the data's encoding, and the others are as they were
record Upto (m : ℕ → ℕ) (n k b : ℕ) (stripe d : List ℕ) (q : ℕ) (s : List ℕ) : Type 0 where
  size : length s ≡ length stripe
  before : (p : ℕ) → p < q → slot s b p ≡ stripe_block m b k d p
  after : (p : ℕ) → p < n → q ≤ p → slot s b p ≡ slot stripe b p

module _ (m : ℕ → ℕ) (n k b : ℕ) (losses stripe d : List ℕ) (ok : Passed n k b losses stripe)
    (agrees : Agrees m n k b losses stripe d) where
  abbrev Written : ℕ → List ℕ → Type 0
  Written q s = Upto m n k b stripe d q s

  kept : (q : ℕ) → q < n → is_lost losses q ≡ false → slot stripe b q ≡ stripe_block m b k d q
  kept q h e = agrees.present q h (present_byte losses q (ok.flags q h) e)

  -- block q stored, if it is lost
  module _ (q r : ℕ) (s x : List ℕ) (h : q < n) (next : r ≡ suc q) (up : Written q s) where
    stored : x ≡ stripe_block m b k d q → Written r (put_slot s b q x)
    stored e =
        record {
          size = length_put_slot s b q x ∙ up.size;
          before = λ p l. go p l (ℕ_discrete q p);
          after = λ p hp l. slot_other s b q p x long (λ y. omega arith) ∙ up.after p hp (omega arith);
        }
      where
        long : length x ≡ b
        long = ap length e ∙ length_stripe_block m b k d q

        go : (p : ℕ) → p < r → Dec (q ≡ p) → slot (put_slot s b q x) b p ≡ stripe_block m b k d p
        go p l (yes y) = rw (← y) (slot_same s b q n x long h (omega (arith, up.size, ok.size)) ∙ e)
        go p l (no y) = slot_other s b q p x long y ∙ up.before p (omega arith)

    left : is_lost losses q ≡ false → Written r s
    left e = record { size = up.size; before = λ p l. go p l (ℕ_discrete q p); after = λ p hp l. up.after p hp (omega arith) }
      where
        go : (p : ℕ) → p < r → Dec (q ≡ p) → slot s b p ≡ stripe_block m b k d p
        go p l (yes y) = rw (← y) (up.after q h (omega arith) ∙ kept q h e)
        go p l (no y) = up.before p (omega arith)

    advance : (is_lost losses q ≡ true → x ≡ stripe_block m b k d q) → Written r (if (is_lost losses q) (put_slot s b q x) s)
    advance e = go (is_lost losses q) refl
      where
        go : (t : Bool) → is_lost losses q ≡ t → Written r (if t (put_slot s b q x) s)
        go true y = stored (e y)
        go false y = left y

  -- ---- the rows

  row_turn : (j : ℕ) (s : List ℕ) → j < n - k → Written (k + j) s → Written (k + suc j) (row_step m k b losses j s)
  unfolding row_step
  row_turn j s h up =
      advance (k + j) (k + suc j) s (parity_row m b k j (slot s b)) (omega arith) (omega arith) up
      (λ e. parity_row_same m b k j (slot s b) (slot d b) (λ c l. up.before c (omega arith) ∙ stripe_column m b k d c l)
      ∙ sym (stripe_row m b k d j))

  rows_encode : (s : List ℕ) → Written (k + 0) s → Encodes m n k b d (rows_written m n k b losses s)
  unfolding rows_written
  rows_encode s up =
      let all : Written (k + (n - k)) (run (row_step m k b losses) 0 (n - k) s) =
      run_each (row_step m k b losses) (λ j e. Written (k + j) e) (n - k) s up row_turn in
      record { size = all.size ∙ ok.size; blocks = λ p h. all.before p (omega arith) }

  -- ---- the columns

  module _ (bytes : ByteList stripe) (fit : Solvable (coefficient m) n k losses) where
    written_byte : (q : ℕ) (s : List ℕ) → Written q s → (a : ℕ) → a < b → (p : ℕ) → p < n → vector b s a p < 256
    written_byte q s up a l p h = go (dec_lt p q)
      where
        go : Dec (p < q) → vector b s a p < 256
        go (yes y) =
            rw (up.before p y, stripe_byte m b k d p a l)
            (encoded_byte (coefficient m) k fit.coefficients (vector b d a) (vector_bytes b d agrees.bytes a) p
            (omega (arith, fit.rows)))
        go (no y) = rw (up.after p h (omega arith)) (vector_bytes b stripe bytes a p)

    -- a present block is never written
    present_kept : (q : ℕ) (s : List ℕ) → Written q s → (p : ℕ) → p < n → is_lost losses p ≡ false → slot s b p ≡ slot stripe b p
    present_kept q s up p h e = elim (dec_lt p q) [ yes y ↦ up.before p y ∙ sym (kept p h e) | no y ↦ up.after p h (omega arith) ]

    combined_kept : (u : List ℕ) → OverPresent n losses (λ p. get_or u p 0) → (q : ℕ) (s : List ℕ) → Written q s
        → combined_blocks b n u s ≡ combined_blocks b n u stripe
    combined_kept u over q s up =
        block_ext b (combined_blocks b n u s) (combined_blocks b n u stripe) (length_combined_blocks b n u s)
        (length_combined_blocks b n u stripe) (λ a l.
        combined_byte b n u s a
        ∙ over_same n losses _ over (vector b s a) (vector b stripe a) (written_byte q s up a l) (λ p h. vector_bytes b stripe bytes a p)
        (λ p h e. ap (λ (x : List ℕ). get_or x a 0) (present_kept q s up p h e))
        ∙ sym (combined_byte b n u stripe a))

    module _ (claims : SolverClaims (coefficient m) n k losses) (t : columns_hold k losses (solved (coefficient m) n k losses) ≡ true) where
      column_turn : (c : ℕ) (s : List ℕ) → c < k → Written c s
          → Written (suc c) (column_step n k b losses (solved (coefficient m) n k losses) c s)
      unfolding column_by
      column_turn c s h up =
          advance c (suc c) s (combined_blocks b n (giving (coefficient m) n k losses c) s) (omega (arith, ok.columns)) refl up (λ e.
          combined_kept (giving (coefficient m) n k losses c) (column_given (coefficient m) n k losses claims t c h e).over c s up
          ∙ column_value m n k b losses stripe bytes fit claims t d agrees c h e
          ∙ sym (stripe_column m b k d c h))

      pub encodes : Encodes m n k b d (rows_written m n k b losses
          (columns_written n k b losses (solved (coefficient m) n k losses) stripe))
      unfolding columns_written
      encodes =
          rows_encode _ (rw add-zero (run_each (column_step n k b losses (solved (coefficient m) n k losses)) Written k stripe start
          column_turn))
        where
          start : Written 0 stripe
          start = record { size = refl; before = λ p l. absurd (omega arith); after = λ p h l. refl }
