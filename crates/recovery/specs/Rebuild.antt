-- FORMAT §15; document 01's call rebuild: it takes n, k, B, a stripe of n blocks (columns, then rows) and n loss bytes (1 lost, 0
-- present), writes lost blocks, tells how many. What it says is said of agreement alone. m j is the multiplier of row j. Assumes nothing.
use Rattle.std.specs.Prelude.{◌≡◌, List, [], ◌∷◌, Bool, not, ℕ, ◌-◌, ◌*◌, ◌<◌, eqb, ltb, leb, length, get_or}
use Rattle.base.specs.Tests.{every, all}
use Rattle.base.specs.Refusals.{Refusal, refuse, first}
use Rattle.area.specs.Area.{slot}
use Rattle.code.specs.Rows.{vandermonde}
use Rattle.code.specs.Agreement.{stripe_block, Agrees, lost_count}
use Rattle.recovery.specs.RebuildAnswer.{RebuildAnswer}
use Rattle.recovery.specs.RebuildAnswer.{Rebuilt, Refused}

-- row j of a stripe has the multiplier j + 1, whatever n, k and B
abbrev pub stripe_multiplier : ℕ → ℕ
stripe_multiplier j = vandermonde j

-- a loss byte is 0 or 1
unfoldable pub is_flag : List ℕ → ℕ → Bool
is_flag losses p = leb (get_or losses p 0) 1

-- the ranges of a shape, without s and with n ≤ 20
abbrev pub within_ranges : ℕ → ℕ → ℕ → Bool
within_ranges n k b = all (leb 1 k ∷ ltb k n ∷ leb n 20 ∷ leb (n - k) 4 ∷ leb 1 b ∷ leb b 4096 ∷ [])

-- what refuses a rebuild before its blocks are looked at: 1 the shape; 3 a lent length; 5 a loss byte
abbrev pub refusals : ℕ → ℕ → ℕ → ℕ → List ℕ → List Refusal
refusals n k b len losses =
    refuse (not (within_ranges n k b)) 1
    ∷ refuse (not (eqb len (n * b))) 3
    ∷ refuse (not (eqb (length losses) n)) 3
    ∷ refuse (not (every n (is_flag losses))) 5
    ∷ []

unfoldable pub rebuild_refusal : ℕ → ℕ → ℕ → ℕ → List ℕ → ℕ
rebuild_refusal n k b len losses = first (refusals n k b len losses)

-- the stripe is the data with their parity: n blocks, each that of their encoding
pub record Encodes (m : ℕ → ℕ) (n k b : ℕ) (dataset stripe : List ℕ) : Type 0 where
  pub size : length stripe ≡ n * b
  pub blocks : (p : ℕ) → p < n → slot stripe b p ≡ stripe_block m b k dataset p

-- exactly one data set agrees with the present blocks
pub record One (m : ℕ → ℕ) (n k b : ℕ) (losses stripe dataset : List ℕ) : Type 0 where
  pub agrees : Agrees m n k b losses stripe dataset
  pub only : (other : List ℕ) → Agrees m n k b losses stripe other → other ≡ dataset

-- more than one does
pub record Two (m : ℕ → ℕ) (n k b : ℕ) (losses stripe : List ℕ) : Type 0 where
  pub one : List ℕ
  pub other : List ℕ
  pub one_agrees : Agrees m n k b losses stripe one
  pub other_agrees : Agrees m n k b losses stripe other
  pub differ : one ≡ other → ⊥

-- none does
abbrev pub None : (ℕ → ℕ) → ℕ → ℕ → ℕ → List ℕ → List ℕ → Type 0
None m n k b losses stripe = (dataset : List ℕ) → Agrees m n k b losses stripe dataset → ⊥

-- what rebuild answers, and the stripe at exit; a refused call leaves it as it was
pub data Rebuilds (m : ℕ → ℕ) (n k b : ℕ) (losses stripe : List ℕ) : RebuildAnswer → List ℕ → Type 0 where
  refused : 0 < rebuild_refusal n k b (length stripe) losses
      → Rebuilds m n k b losses stripe (Refused (rebuild_refusal n k b (length stripe) losses)) stripe
  rebuilt : rebuild_refusal n k b (length stripe) losses ≡ 0 → (dataset out : List ℕ) → One m n k b losses stripe dataset
      → Encodes m n k b dataset out
      → Rebuilds m n k b losses stripe (Rebuilt (lost_count losses n)) out
  several : rebuild_refusal n k b (length stripe) losses ≡ 0 → Two m n k b losses stripe
      → Rebuilds m n k b losses stripe (Refused 11) stripe
  nothing : rebuild_refusal n k b (length stripe) losses ≡ 0 → None m n k b losses stripe
      → Rebuilds m n k b losses stripe (Refused 12) stripe
