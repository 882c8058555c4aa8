-- FORMAT §15. What is claimed of rebuild beyond its contract, for any row multipliers and any stripe that are bytes: proved as
-- `rebuild_holds` in proofs/RebuildHolds. Assumes nothing.
use Rattle.std.specs.Prelude.{◌≡◌, List, ◌⊎◌, ℕ, ◌-◌, ◌*◌, ◌<◌, length, get_or}
use Rattle.area.specs.Area.{zeros, slot, xor_blocks}
use Rattle.code.specs.Agreement.{Agrees, lost_count}
use Rattle.code.specs.Fixing.{FixesAll}
use Rattle.recovery.specs.RebuildAnswer.{RebuildAnswer}
use Rattle.recovery.specs.RebuildAnswer.{Rebuilt, Refused}
use Rattle.recovery.specs.Rebuild.{rebuild_refusal, Encodes, Rebuilds}

-- two data sets that agree with a stripe differ by one that agrees with zeros; and what differs so from one that agrees agrees
pub record Differences (m : ℕ → ℕ) (n k b : ℕ) (losses stripe : List ℕ) : Type 0 where
  pub null : (d e : List ℕ) → Agrees m n k b losses stripe d → Agrees m n k b losses stripe e
      → Agrees m n k b losses (zeros (n * b)) (xor_blocks (k * b) d e)
  pub added : (d e : List ℕ) → Agrees m n k b losses stripe d → Agrees m n k b losses (zeros (n * b)) e
      → Agrees m n k b losses stripe (xor_blocks (k * b) d e)

-- what a call that is not refused for its shape, lengths or loss bytes answers, where a set of data agrees with the present blocks
pub record OfTrue (m : ℕ → ℕ) (n k b : ℕ) (losses stripe dataset : List ℕ) : Type 0 where
  -- the data with their parity, and the present blocks fix every column; or 11, never 12, and they do not
  pub answers : (a : RebuildAnswer) (out : List ℕ) → Rebuilds m n k b losses stripe a out
      → (FixesAll m n k losses × (a ≡ Rebuilt (lost_count losses n)) × Encodes m n k b dataset out)
      ⊎ ((FixesAll m n k losses → ⊥) × (a ≡ Refused 11))
  -- 11 where more blocks are lost than there are rows
  pub too_many : n - k < lost_count losses n → (a : RebuildAnswer) (out : List ℕ) → Rebuilds m n k b losses stripe a out → a ≡ Refused 11

pub record RebuildClaims (m : ℕ → ℕ) (n k b : ℕ) (losses stripe : List ℕ) : Type 0 where
  -- exactly one outcome fits
  pub some : (a : RebuildAnswer) × (out : List ℕ) × Rebuilds m n k b losses stripe a out
  pub one : (a c : RebuildAnswer) (x y : List ℕ) → Rebuilds m n k b losses stripe a x → Rebuilds m n k b losses stripe c y
      → (a ≡ c) × (x ≡ y)
  -- a present block is as it was
  pub present : (a : RebuildAnswer) (out : List ℕ) → Rebuilds m n k b losses stripe a out → (p : ℕ) → p < n → get_or losses p 0 ≡ 0
      → slot out b p ≡ slot stripe b p
  pub differences : Differences m n k b losses stripe
  pub of_true : rebuild_refusal n k b (length stripe) losses ≡ 0 → (dataset : List ℕ) → Agrees m n k b losses stripe dataset
      → OfTrue m n k b losses stripe dataset
  -- with no loss it verifies: the stripe stays, and the answer is that 0 blocks were lost, or 12
  pub none_lost_law : rebuild_refusal n k b (length stripe) losses ≡ 0 → lost_count losses n ≡ 0 → (a : RebuildAnswer) (out : List ℕ)
      → Rebuilds m n k b losses stripe a out
      → (out ≡ stripe) × (((a ≡ Rebuilt 0) × (dataset : List ℕ) × Encodes m n k b dataset stripe)
      ⊎ ((a ≡ Refused 12) × ((dataset : List ℕ) → Encodes m n k b dataset stripe → ⊥)))
  -- all lost: 11
  pub all_lost_law : rebuild_refusal n k b (length stripe) losses ≡ 0 → lost_count losses n ≡ n → (a : RebuildAnswer) (out : List ℕ)
      → Rebuilds m n k b losses stripe a out → a ≡ Refused 11

-- for any row multipliers that are bytes, all n, k and b, any losses, and any stripe of bytes
abbrev pub RebuildHolds : Type 0
RebuildHolds =
    (m : ℕ → ℕ) → ((j : ℕ) → j < 4 → m j < 256) → (n k b : ℕ) (losses stripe : List ℕ) → ((a : ℕ) → get_or stripe a 0 < 256)
    → RebuildClaims m n k b losses stripe
