-- The first x bytes of every row, and then the piece from x on of every row, are the bytes of every row up to the piece's end. Assumes
-- nothing.
use mathlib.Core.Path.{◌≡◌, sym, ap, ◌∙◌}
use mathlib.Core.List.{List}
use mathlib.Core.Logic.{inl, inr}
use Prim.Native.Nat.{ℕ, ◌+◌, ◌-◌, ◌≤◌, ◌<◌}
use native.Mathlib.Nat.{add_assoc, add-zero}
use native.Mathlib.Decide.{dec_lt}
use native.Mathlib.Omega.{arith}
use lib.ListN.{length, get_or}
use lib.Seq.{ext_get_or}
use Rattle.base.proofs.Runs.{run_keeps}
use Rattle.area.specs.Area.{writes, put}
use Rattle.combine.specs.Columns.{columns_at, Inside}
use Rattle.code.proofs.Laws.{length_parity_row}
use Rattle.stripes.specs.Stripes.{Apart, Stripe, with_rows, Moved}
use Rattle.stripes.proofs.PutRuns.{Outside}
use Rattle.stripes.proofs.RowBytes.{row_byte, byte_same, length_rows, rows_out, rows_in, rows_are}

-- ---- a byte of a block lies outside a piece of another

apart_out : (b u v i x len : ℕ) → Apart b u v → i < b → x + len ≤ b → Outside len (u + i) (v + x)
apart_out b u v i x len (inl h) l f = inl (omega arith)
apart_out b u v i x len (inr h) l f = inr (omega arith)

apart_start : (b u v i x : ℕ) → Apart b u v → i < b → x ≤ b → Outside x (u + i) v
apart_start b u v i x (inl h) l f = inl (omega arith)
apart_start b u v i x (inr h) l f = inr (omega arith)

-- what lies outside the first x + len bytes lies outside the first x, and outside the piece
out_start : (x len p t : ℕ) → Outside (x + len) p t → Outside x p t
out_start x len p t (inl h) = inl h
out_start x len p t (inr h) = inr (omega arith)

out_piece : (x len p t : ℕ) → Outside (x + len) p t → Outside len p (t + x)
out_piece x len p t (inl h) = inl (omega arith)
out_piece x len p t (inr h) = inr (omega arith)

apart_pieces : (b u v x len : ℕ) → Apart b u v → x + len ≤ b → Apart len (u + x) (v + x)
apart_pieces b u v x len (inl h) f = inl (omega arith)
apart_pieces b u v x len (inr h) f = inr (omega arith)

-- pieces of blocks inside an area are inside it
pub moved_inside : (at : List ℕ) (n b : ℕ) (lent : List ℕ) → Inside at n b lent → (x len : ℕ) → x + len ≤ b → {there : List ℕ}
    → Moved at there n x
    → (area : List ℕ) → length area ≡ length lent → Inside there n len area
moved_inside at n b lent s x len room moved area same =
    record { count = s.count; fits = λ p l. rw (moved.each p l, same) (omega (arith, s.fits p l)) }

-- pieces of a stripe's blocks are a stripe's blocks themselves
pub moved_stripe : (at : List ℕ) (k r b : ℕ) (lent : List ℕ) → Stripe at k r b lent → (x len : ℕ) → x + len ≤ b → {there : List ℕ}
    → Moved at there (k + r) x
    → (area : List ℕ) → length area ≡ length lent → Stripe there k r len area
moved_stripe at k r b lent s x len room {there} moved area same =
    record {
      inside = moved_inside at (k + r) b lent s.inside x len room moved area same;
      beside =
          λ c j l u. rw (moved.each c (omega arith), row j u)
          (apart_pieces b (get_or at c 0) (get_or at (k + j) 0) x len (s.beside c j l u) room);
      apart = λ i j l u ne. rw (row i l, row j u)
          (apart_pieces b (get_or at (k + i) 0) (get_or at (k + j) 0) x len (s.apart i j l u ne) room);
    }
  where
    row : (j : ℕ) → j < r → get_or there (k + j) 0 ≡ get_or at (k + j) 0 + x
    row j l = moved.each (k + j) (omega arith)

module _ (m : ℕ → ℕ) (at : List ℕ) (k r b : ℕ) (lent : List ℕ) (s : Stripe at k r b lent) (x len : ℕ) (room : x + len ≤ b)
    {there area : List ℕ} (moved : Moved at there (k + r) x) (before : area ≡ with_rows m at x k r lent) where
  row_moved : (j : ℕ) → j < r → get_or there (k + j) 0 ≡ get_or at (k + j) 0 + x
  row_moved j l = moved.each (k + j) (omega arith)

  same_size : length area ≡ length lent
  same_size = ap length before ∙ length_rows m at x k lent r

  -- no byte of a column was touched
  column_kept : (c i : ℕ) → c < k → i < b → get_or area (get_or at c 0 + i) 0 ≡ get_or lent (get_or at c 0 + i) 0
  column_kept c i l u =
      ap (λ (e : List ℕ). get_or e (get_or at c 0 + i) 0) before
      ∙ rows_out m at x k lent r (get_or at c 0 + i)
      (λ q v. apart_start b (get_or at c 0) (get_or at (k + q) 0) i x (s.beside c q l v) u (omega arith))

  -- a byte of the first x of row j
  first_byte : (j i : ℕ) → j < r → i < x → get_or area (get_or at (k + j) 0 + i) 0 ≡ row_byte m at k lent j i
  first_byte j i l u =
      ap (λ (e : List ℕ). get_or e (get_or at (k + j) 0 + i) 0) before
      ∙ rows_in m at x k lent r j i l u (omega (arith, s.inside.fits (k + j) (omega arith)))
      (λ q v ne. apart_start b (get_or at (k + j) 0) (get_or at (k + q) 0) i x (s.apart j q l v (λ e. ne (sym e))) (omega arith)
      (omega arith))

  -- is not in the piece of any row
  first_out : (j i : ℕ) → j < r → i < x → (q : ℕ) → q < r → Outside len (get_or at (k + j) 0 + i) (get_or there (k + q) 0)
  first_out j i l u q v = rw (row_moved q v) (go (dec_lt q j) (dec_lt j q))
    where
      same : q ≡ j → Outside len (get_or at (k + j) 0 + i) (get_or at (k + q) 0 + x)
      same e = rw e (inl (omega arith))

      other : (j ≡ q → ⊥) → Outside len (get_or at (k + j) 0 + i) (get_or at (k + q) 0 + x)
      other ne = apart_out b (get_or at (k + j) 0) (get_or at (k + q) 0) i x len (s.apart j q l v ne) (omega arith) room

      go : Dec (q < j) → Dec (j < q) → Outside len (get_or at (k + j) 0 + i) (get_or at (k + q) 0 + x)
      go (yes h) d = other (λ e. omega arith)
      go (no h) (yes d) = other (λ e. omega arith)
      go (no h) (no d) = same (omega arith)

  -- byte h of row j's piece
  piece_byte : (j h : ℕ) → j < r → h < len
      → get_or (with_rows m there len k r area) (get_or there (k + j) 0 + h) 0 ≡ row_byte m at k lent j (x + h)
  piece_byte j h l u =
      rows_in m there len k area r j h l u (rw (row_moved j l, same_size) (omega (arith, s.inside.fits (k + j) (omega arith))))
      (λ q v ne. rw (row_moved j l, row_moved q v) (go q v ne))
      ∙ byte_same m at there k area lent j (x + h) h
      (λ c w. rw (moved.each c (omega arith), add_assoc) (column_kept c (x + h) w (omega arith)))
    where
      go : (q : ℕ) → q < r → (q ≡ j → ⊥) → Outside len (get_or at (k + j) 0 + x + h) (get_or at (k + q) 0 + x)
      go q v ne =
          rw (add_assoc (get_or at (k + j) 0) x h) (apart_out b (get_or at (k + j) 0) (get_or at (k + q) 0) (x + h) x len
          (s.apart j q l v (λ e. ne (sym e))) (omega arith) room)

  -- every byte up to the piece's end
  row_bytes : (j i : ℕ) → j < r → i < x + len
      → get_or (with_rows m there len k r area) (get_or at (k + j) 0 + i) 0 ≡ row_byte m at k lent j i
  row_bytes j i l u = go (dec_lt i x)
    where
      later : (h : ℕ) → x + h ≡ i → h < len → get_or (with_rows m there len k r area) (get_or at (k + j) 0 + i) 0 ≡ row_byte m at k lent j i
      later h e v = rw (← e, ← add_assoc, ← row_moved j l) (piece_byte j h l v)

      go : Dec (i < x) → get_or (with_rows m there len k r area) (get_or at (k + j) 0 + i) 0 ≡ row_byte m at k lent j i
      go (yes v) = rows_out m there len k area r (get_or at (k + j) 0 + i) (first_out j i l v) ∙ first_byte j i l v
      go (no v) = later (i - x) (omega arith) (omega arith)

  -- a byte of none of these
  others_kept : (p : ℕ) → ((q : ℕ) → q < r → Outside (x + len) p (get_or at (k + q) 0))
      → get_or (with_rows m there len k r area) p 0 ≡ get_or lent p 0
  others_kept p h =
      rows_out m there len k area r p (λ q v. rw (row_moved q v) (out_piece x len p (get_or at (k + q) 0) (h q v)))
      ∙ ap (λ (e : List ℕ). get_or e p 0) before
      ∙ rows_out m at x k lent r p (λ q v. out_start x len p (get_or at (k + q) 0) (h q v))

  pub piece_turn : {after : List ℕ} → after ≡ with_rows m there len k r area → after ≡ with_rows m at (x + len) k r lent
  piece_turn made =
      made
      ∙ ext_get_or 0 (with_rows m there len k r area) (with_rows m at (x + len) k r lent)
      (length_rows m there len k area r ∙ same_size ∙ sym (length_rows m at (x + len) k lent r))
      (λ p l. rows_are m at (x + len) k lent r (with_rows m there len k r area) (λ q v. omega (arith, s.inside.fits (k + q) (omega arith)))
      row_bytes p (others_kept p))

  pub piece_size : {after : List ℕ} → after ≡ with_rows m there len k r area → length after ≡ length lent
  piece_size made = ap length made ∙ length_rows m there len k area r ∙ same_size

  -- the pieces of the rows that are still to be written
  pub piece_stripe : Stripe there k r len area
  piece_stripe = moved_stripe at k r b lent s x len room moved area same_size

-- ---- before the first piece

pub unmoved : (at : List ℕ) (n : ℕ) → Moved at at n 0
unmoved at n = record { each = λ p l. sym (add-zero (get_or at p 0)) }

put_none : (d : List ℕ) (t : ℕ) (bs : List ℕ) → length bs ≡ 0 → put d t bs ≡ d
unfolding put writes
put_none d t bs e = rw e

pub no_piece : (m : ℕ → ℕ) (at : List ℕ) (k r : ℕ) (lent : List ℕ) → lent ≡ with_rows m at 0 k r lent
unfolding with_rows
no_piece m at k r lent =
    sym (run_keeps _ (λ e. e) 0 r lent (λ q e l u. put_none e (get_or at (k + q) 0) _
    (length_parity_row m 0 k q (columns_at at lent 0))))

-- ---- after the last

pub last_piece : (m : ℕ → ℕ) (at : List ℕ) (k r : ℕ) (lent : List ℕ) (x len : ℕ) {after : List ℕ} {b : ℕ} → x + len ≡ b
    → after ≡ with_rows m at (x + len) k r lent → after ≡ with_rows m at b k r lent
last_piece m at k r lent x len e made = rw e at made
