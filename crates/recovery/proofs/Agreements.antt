-- Data agree with a stripe exactly if they do at every byte. Assumes nothing.
use mathlib.Core.Path.{◌≡◌, sym, ap, ◌∙◌}
use mathlib.Core.List.{List}
use Prim.Native.Nat.{ℕ, ◌*◌, ◌<◌}
use lib.ListN.{length, get_or}
use Rattle.area.specs.Area.{slot}
use Rattle.area.proofs.Slots.{length_slot}
use Rattle.code.specs.Rows.{coefficient}
use Rattle.code.specs.Agreement.{stripe_block, Agrees}
use Rattle.code.specs.Fixing.{Matches}
use Rattle.elimination.proofs.RowLaws.{ByteList}
use Rattle.recovery.proofs.Vectors.{vector, vector_bytes, block_ext, data_of, length_data, data_byte, data_bytes}
use Rattle.recovery.proofs.Vectors.{length_stripe_block, stripe_byte}
use Rattle.solver.proofs.Encodings.{encoded_same}

module _ (m : ℕ → ℕ) (n k b : ℕ) (losses s : List ℕ) where
  pub agrees_matches : (d : List ℕ) → Agrees m n k b losses s d → (i : ℕ) → i < b
      → Matches (coefficient m) n k losses (vector b s i) (vector b d i)
  agrees_matches d a i hi =
      record {
        bytes = vector_bytes b d a.bytes i;
        present = λ p hp e. sym (stripe_byte m b k d p i hi) ∙ ap (λ (l : List ℕ). get_or l i 0) (sym (a.present p hp e));
      }

  -- data whose columns have the bytes z
  pub bytes_agree : (d : List ℕ) → length d ≡ k * b → ByteList d → (z : ℕ → ℕ → ℕ) → ((c i : ℕ) → c < k → i < b → vector b d i c ≡ z i c)
      → ((i : ℕ) → i < b → Matches (coefficient m) n k losses (vector b s i) (z i)) → Agrees m n k b losses s d
  bytes_agree d size bytes z same h =
      record {
        size = size;
        bytes = bytes;
        present = λ p hp e.
            block_ext b (slot s b p) (stripe_block m b k d p) (length_slot s b p) (length_stripe_block m b k d p)
            (λ i l. sym (stripe_byte m b k d p i l ∙ encoded_same (coefficient m) k (vector b d i) (z i) p (λ c hc. same c i hc l)
            ∙ (h i l).present p hp e));
      }

  pub matches_agrees : (z : ℕ → ℕ → ℕ) → ((i : ℕ) → i < b → Matches (coefficient m) n k losses (vector b s i) (z i))
      → Agrees m n k b losses s (data_of k b z)
  matches_agrees z h = bytes_agree (data_of k b z) (length_data k b z) (data_bytes k b z (λ i l. (h i l).bytes)) z (data_byte k b z) h
