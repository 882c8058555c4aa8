-- Of data that agree: they are the only ones where every column is fixed, and not where one is open; and they have an encoding. Assumes
-- nothing.
use mathlib.Core.Path.{sym, ◌∙◌}
use mathlib.Core.List.{List}
use Prim.Native.Nat.{ℕ, ◌<◌}
use native.Mathlib.Omega.{arith}
use Rattle.area.specs.Area.{slot}
use Rattle.area.proofs.Slots.{length_slot}
use Rattle.code.specs.Rows.{coefficient}
use Rattle.code.specs.Agreement.{stripe_block, Agrees}
use Rattle.code.specs.Fixing.{encoded, FixesAll}
use Rattle.recovery.specs.Rebuild.{Encodes, One, Two}
use Rattle.recovery.proofs.Vectors.{vector, block_ext, data_of, length_data, data_byte, length_stripe_block, stripe_byte}
use Rattle.recovery.proofs.NullData.{moved, moved_agrees, moved_same}
use Rattle.recovery.proofs.TrueData.{fixed_same}
use Rattle.recovery.proofs.OpenColumns.{Open}

module _ (m : ℕ → ℕ) (n k b : ℕ) (losses stripe : List ℕ) (b0 : 0 < b) (d : List ℕ) (agrees : Agrees m n k b losses stripe d) where
  pub only_one : FixesAll m n k losses → One m n k b losses stripe d
  only_one fixes = record { agrees = agrees; only = λ e a. fixed_same m n k b losses stripe b0 fixes e d a agrees }

  pub another : (c : ℕ) → c < k → Open (coefficient m) n k losses c → Two m n k b losses stripe
  another c h o =
      record {
        one = d;
        other = moved k b d o.0;
        one_agrees = agrees;
        other_agrees = moved_agrees m n k b losses stripe d agrees o.0 o.1;
        differ = λ e. let z = moved_same k b d o.0 b0 (sym e) c h in omega (arith, o.2);
      }

-- the encoding, byte by byte
pub encoding : (ℕ → ℕ) → ℕ → ℕ → ℕ → List ℕ → List ℕ
encoding m n k b d = data_of n b (λ a. encoded (coefficient m) k (vector b d a))

pub encoding_encodes : (m : ℕ → ℕ) (n k b : ℕ) (d : List ℕ) → Encodes m n k b d (encoding m n k b d)
unfolding encoding
encoding_encodes m n k b d =
    record {
      size = length_data n b bytes;
      blocks = λ p h.
          block_ext b (slot (data_of n b bytes) b p) (stripe_block m b k d p) (length_slot _ b p) (length_stripe_block m b k d p)
          (λ i l. data_byte n b bytes p i h l ∙ sym (stripe_byte m b k d p i l));
    }
  where
    bytes : ℕ → ℕ → ℕ
    bytes a = encoded (coefficient m) k (vector b d a)
