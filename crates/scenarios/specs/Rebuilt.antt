-- Document 01, "Who can cause a no": every number of rebuild, on stripes of (2,1) with blocks of one byte. Rebuild is defined by agreement,
-- so that an outcome is one of the relation `Rebuilds`; every input has exactly one (recovery/specs/Claims). Assumes nothing.
use Rattle.std.specs.Prelude.{List, [], ◌∷◌, ℕ}
use Rattle.recovery.specs.Rebuild.{Rebuilds, stripe_multiplier}
use Rattle.recovery.specs.RebuildAnswer.{Refused}

-- refused with this number, the stripe as it was
abbrev pub RefusedWith : ℕ → (n k : ℕ) → (losses stripe : List ℕ) → Type 0
RefusedWith x n k losses stripe = Rebuilds stripe_multiplier n k 1 losses stripe (Refused x) stripe

pub record RebuildRefusals : Type 0 where
  -- k = n
  pub ranges : RefusedWith 1 2 2 (0 ∷ 0 ∷ []) (0x05 ∷ 0x05 ∷ [])
  pub stripe_length : RefusedWith 3 2 1 (0 ∷ 0 ∷ []) (0x05 ∷ [])
  pub losses_length : RefusedWith 3 2 1 (0 ∷ []) (0x05 ∷ 0x05 ∷ [])
  pub loss_byte : RefusedWith 5 2 1 (0 ∷ 2 ∷ []) (0x05 ∷ 0x05 ∷ [])
  -- both blocks lost: any data agrees
  pub several : RefusedWith 11 2 1 (1 ∷ 1 ∷ []) (0x05 ∷ 0x05 ∷ [])
  -- none lost, one byte wrong: none agrees
  pub none : RefusedWith 12 2 1 (0 ∷ 0 ∷ []) (0x05 ∷ 0x06 ∷ [])
