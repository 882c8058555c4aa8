-- Rows that hold, byte by byte: they hold up to x and in the piece from x on exactly if they hold up to the piece's end. Assumes nothing.
use mathlib.Core.Path.{◌≡◌, refl, sym, ap, ◌∙◌}
use mathlib.Core.Bool.{Bool, true, false, not}
use mathlib.Core.List.{List}
use Prim.Native.Nat.{ℕ, ◌+◌, ◌-◌, ◌≤◌, ◌<◌}
use native.Mathlib.Nat.{add_assoc}
use native.Mathlib.Decide.{dec_lt}
use native.Mathlib.Omega.{arith}
use lib.ListN.{get_or}
use borrow.Author.Tests.{not-true, not-false}
use Rattle.base.proofs.Tests.{every_at, every_intro, clash, off}
use Rattle.area.specs.Area.{block}
use Rattle.area.proofs.Blocks.{block_at, block_eq, same_bytes_eq, same_bytes_refl}
use Rattle.combine.specs.Columns.{columns_at}
use Rattle.code.proofs.Laws.{length_parity_row}
use Rattle.stripes.specs.Stripes.{row_of, row_test, rows_hold, Moved}
use Rattle.stripes.proofs.RowBytes.{row_byte, row_byte_law, byte_same}

-- each of the first b bytes of each of r rows is what the columns give
pub record Holds (m : ℕ → ℕ) (at : List ℕ) (b k r : ℕ) (area : List ℕ) : Type 0 where
  pub each : (j i : ℕ) → j < r → i < b → get_or area (get_or at (k + j) 0 + i) 0 ≡ row_byte m at k area j i

module _ (m : ℕ → ℕ) (at : List ℕ) (b k r : ℕ) (area : List ℕ) where
  pub bytes_hold : rows_hold m at b k r area ≡ true → Holds m at b k r area
  unfolding rows_hold
  bytes_hold e =
      record {
        each = λ j i l u.
            sym (block_at area (get_or at (k + j) 0) b i u)
            ∙ ap (λ (bs : List ℕ). get_or bs i 0) (same_bytes_eq (block area (get_or at (k + j) 0) b) (row_of m at b k area j)
            (every_at r (row_test m at b k area) e j l))
            ∙ row_byte_law m at b k area j i u;
      }

  pub holds_rows : Holds m at b k r area → rows_hold m at b k r area ≡ true
  unfolding rows_hold
  holds_rows h =
      every_intro r (row_test m at b k area) (λ j l. rw
      (block_eq area (get_or at (k + j) 0) b (row_of m at b k area j) (length_parity_row m b k j (columns_at at area b))
      (λ i u. h.each j i l u ∙ sym (row_byte_law m at b k area j i u)))
      (same_bytes_refl (row_of m at b k area j)))

module _ (m : ℕ → ℕ) (at there : List ℕ) (k r x : ℕ) (area : List ℕ) (moved : Moved at there (k + r) x) where
  -- byte h of a piece is byte x + h of the row
  piece_place : (j h : ℕ) → j < r → get_or area (get_or there (k + j) 0 + h) 0 ≡ get_or area (get_or at (k + j) 0 + (x + h)) 0
  piece_place j h l = rw (moved.each (k + j) (omega arith), add_assoc)

  piece_sum : (j h : ℕ) → row_byte m there k area j h ≡ row_byte m at k area j (x + h)
  piece_sum j h = byte_same m at there k area area j (x + h) h (λ c l. rw (moved.each c (omega arith), add_assoc))

  -- one piece more holds
  pub piece_more : (len : ℕ) {t : Bool} → Holds m at x k r area → t ≡ rows_hold m there len k r area → not t ≡ false
      → Holds m at (x + len) k r area
  piece_more len {t} before e held = record { each = λ j i l u. go j i l u (dec_lt i x) }
    where
      piece : Holds m there len k r area
      piece = bytes_hold m there len k r area (sym e ∙ not-false t held)

      later : (j i h : ℕ) → j < r → x + h ≡ i → h < len → get_or area (get_or at (k + j) 0 + i) 0 ≡ row_byte m at k area j i
      later j i h l q u = rw (← q) (sym (piece_place j h l) ∙ piece.each j h l u ∙ piece_sum j h)

      go : (j i : ℕ) → j < r → i < x + len → Dec (i < x) → get_or area (get_or at (k + j) 0 + i) 0 ≡ row_byte m at k area j i
      go j i l u (yes v) = before.each j i l v
      go j i l u (no v) = later j i (i - x) l (omega arith) (omega arith)

  -- a piece that does not hold
  pub piece_fails : (len b : ℕ) {t : Bool} → x + len ≤ b → t ≡ rows_hold m there len k r area → not t ≡ true
      → false ≡ rows_hold m at b k r area
  piece_fails len b {t} room e fails = sym (off (λ h. clash (holds_rows m there len k r area (piece h)) (sym e ∙ not-true t fails)))
    where
      piece : rows_hold m at b k r area ≡ true → Holds m there len k r area
      piece h =
          record {
            each = λ j i l u. piece_place j i l ∙ (bytes_hold m at b k r area h).each j (x + i) l (omega arith) ∙ sym (piece_sum j i);
          }

pub holds_none : (m : ℕ → ℕ) (at : List ℕ) (k r : ℕ) (area : List ℕ) → Holds m at 0 k r area
holds_none m at k r area = record { each = λ j i l u. absurd (omega arith) }

pub last_holds : (m : ℕ → ℕ) (at : List ℕ) (b k r : ℕ) (area : List ℕ) (x : ℕ) → x ≡ b → Holds m at x k r area
    → true ≡ rows_hold m at b k r area
last_holds m at b k r area x e h = sym (holds_rows m at b k r area (rw e at h))

-- the last piece decides
pub piece_end : (m : ℕ → ℕ) (at there : List ℕ) (k r x : ℕ) (area : List ℕ) → Moved at there (k + r) x → (len b : ℕ) (t : Bool) → x +
    len ≡ b
    → Holds m at x k r area → t ≡ rows_hold m there len k r area
    → t ≡ rows_hold m at b k r area
piece_end m at there k r x area moved len b true q h e =
    last_holds m at b k r area (x + len) q (piece_more m at there k r x area moved len h e refl)
piece_end m at there k r x area moved len b false q h e = piece_fails m at there k r x area moved len b (omega arith) e refl
