-- Two sets of data that agree with a stripe differ by one that agrees with zeros, and such a one may be added. Assumes nothing.
use mathlib.Core.Path.{◌≡◌, sym, ap, ap₂, ◌∙◌}
use mathlib.Core.List.{List}
use Prim.Native.Nat.{ℕ, ◌+◌, ◌*◌, ◌<◌}
use native.Mathlib.Omega.{arith}
use lib.Bits.{bit_xor, xor_self, xor_zero_r}
use lib.ListN.{get_or}
use Rattle.base.proofs.Tables.{table_at, table_small}
use Rattle.gf256.specs.Field.{◌⊕◌}
use Rattle.gf256.proofs.Xor.{xor_byte}
use Rattle.area.specs.Area.{zeros, xor_blocks}
use Rattle.area.proofs.Slots.{room}
use Rattle.area.proofs.Sums.{length_xor_blocks}
use Rattle.code.specs.Rows.{coefficient}
use Rattle.code.specs.Agreement.{Agrees}
use Rattle.recovery.specs.Claims.{Differences}
use Rattle.elimination.proofs.RowLaws.{ByteList}
use Rattle.recovery.proofs.Vectors.{zeros_byte, vector, slot_byte}
use Rattle.solver.proofs.Encodings.{matches_xor}
use Rattle.recovery.proofs.Agreements.{agrees_matches, bytes_agree}

zeros_vector : (b size i p : ℕ) → i < b → vector b (zeros size) i p ≡ 0
zeros_vector b size i p h = slot_byte (zeros size) b p i h ∙ zeros_byte size (p * b + i)

xor_bytes : (size : ℕ) (d e : List ℕ) → ByteList d → ByteList e → ByteList (xor_blocks size d e)
unfolding xor_blocks
xor_bytes size d e hd he =
    table_small size 256 (λ i. get_or d i 0 ⊕ get_or e i 0) (omega arith) (λ i h. xor_byte (get_or d i 0) (get_or e i 0) (hd i) (he i))

xor_vector : (k b : ℕ) (d e : List ℕ) (c i : ℕ) → c < k → i < b → vector b (xor_blocks (k * b) d e) i c ≡ vector b d i c ⊕ vector b e i c
unfolding xor_blocks
xor_vector k b d e c i hc hi =
    slot_byte (xor_blocks (k * b) d e) b c i hi
    ∙ table_at (k * b) (λ a. get_or d a 0 ⊕ get_or e a 0) (c * b + i) (omega (arith, room c k b hc))
    ∙ sym (ap₂ bit_xor (slot_byte d b c i hi) (slot_byte e b c i hi))

-- a sum of data agrees with the sum of the stripes that they agree with
agrees_xor : (m : ℕ → ℕ) (n k b : ℕ) (losses s t r : List ℕ)
    → ((i p : ℕ) → i < b → p < n → vector b s i p ⊕ vector b t i p ≡ vector b r i p)
    → (d e : List ℕ) → Agrees m n k b losses s d → Agrees m n k b losses t e → Agrees m n k b losses r (xor_blocks (k * b) d e)
agrees_xor m n k b losses s t r sum d e x y =
    bytes_agree m n k b losses r (xor_blocks (k * b) d e) (length_xor_blocks (k * b) d e) (xor_bytes (k * b) d e x.bytes y.bytes)
    (λ i c. vector b d i c ⊕ vector b e i c) (xor_vector k b d e) (λ i h.
    matches_xor (coefficient m) n k losses (vector b s i) (vector b t i) (vector b r i) (vector b d i) (vector b e i) (λ p l. sum i p h l)
    (agrees_matches m n k b losses s d x i h) (agrees_matches m n k b losses t e y i h))

pub differences_hold : (m : ℕ → ℕ) (n k b : ℕ) (losses stripe : List ℕ) → Differences m n k b losses stripe
differences_hold m n k b losses stripe =
    record {
      null =
          agrees_xor m n k b losses stripe stripe (zeros (n * b))
          (λ i p h l. xor_self (vector b stripe i p) ∙ sym (zeros_vector b (n * b) i p h));
      added = agrees_xor m n k b losses stripe (zeros (n * b)) stripe (λ i p h l.
          ap (λ (x : ℕ). vector b stripe i p ⊕ x) (zeros_vector b (n * b) i p h) ∙ xor_zero_r (vector b stripe i p));
    }
