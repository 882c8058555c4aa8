-- Null data, added to data at every byte. Assumes nothing.
use mathlib.Core.Path.{◌≡◌, sym, ap, ◌∙◌}
use mathlib.Core.List.{List}
use Prim.Native.Nat.{ℕ, ◌<◌}
use lib.Bits.{xor_self}
use Rattle.gf256.specs.Field.{◌⊕◌}
use Rattle.gf256.proofs.Xor.{xor_cancel}
use Rattle.code.specs.Rows.{coefficient}
use Rattle.code.specs.Agreement.{Agrees}
use Rattle.code.specs.Fixing.{Null}
use Rattle.solver.proofs.Encodings.{matches_added}
use Rattle.recovery.proofs.Vectors.{vector, data_of, data_byte}
use Rattle.recovery.proofs.Agreements.{agrees_matches, matches_agrees}

-- what leaves a number as it is is 0
pub xor_still : (x v : ℕ) → x ⊕ v ≡ x → v ≡ 0
xor_still x v e = sym (xor_cancel x v) ∙ ap (λ (t : ℕ). x ⊕ t) e ∙ xor_self x

pub moved : ℕ → ℕ → List ℕ → (ℕ → ℕ) → List ℕ
moved k b d v = data_of k b (λ a c. vector b d a c ⊕ v c)

-- they agree where the data do, and are others unless the null data are 0
pub moved_agrees : (m : ℕ → ℕ) (n k b : ℕ) (losses stripe d : List ℕ) → Agrees m n k b losses stripe d → (v : ℕ → ℕ)
    → Null (coefficient m) n k losses v
    → Agrees m n k b losses stripe (moved k b d v)
unfolding moved
moved_agrees m n k b losses stripe d agrees v null =
    matches_agrees m n k b losses stripe (λ a c. vector b d a c ⊕ v c) (λ a h.
    matches_added (coefficient m) n k losses (vector b stripe a) (vector b d a) v (agrees_matches m n k b losses stripe d agrees a h) null)

pub moved_same : (k b : ℕ) (d : List ℕ) (v : ℕ → ℕ) → 0 < b → moved k b d v ≡ d → (c : ℕ) → c < k → v c ≡ 0
unfolding moved
moved_same k b d v b0 e c h =
    xor_still (vector b d 0 c) (v c) (sym (data_byte k b (λ a c. vector b d a c ⊕ v c) c 0 h b0) ∙ ap (λ (l : List ℕ). vector b l 0 c) e)
