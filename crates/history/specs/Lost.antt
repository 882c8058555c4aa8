-- FORMAT §18. The inspectorate's question: a stripe of the grown store, some of whose blocks are lost. Assumes nothing.
use Rattle.std.specs.Prelude.{◌≡◌, true, List, ◌⊎◌, ℕ, ◌+◌, ◌-◌, ◌*◌, ◌<◌, ltb, length, get_or}
use Rattle.base.specs.Tests.{if}
use Rattle.area.specs.Area.{slot}
use Rattle.recovery.specs.RebuildAnswer.{RebuildAnswer}
use Rattle.recovery.specs.RebuildAnswer as Rebuild
use Rattle.recovery.specs.Rebuild.{is_flag, Rebuilds}
use Rattle.code.specs.Fixing.{FixesAll}
use Rattle.code.specs.Agreement.{lost_count}
use Rattle.layout.specs.declared.Shape.{Shape}
use Rattle.layout.specs.Closed.{new_row_node, new_data_node}
use Rattle.growth.specs.Cells.{cell, multiplier}

-- the node of block p of new stripe w, its columns and then its rows, as rebuild takes them
unfoldable pub stripe_node : Shape → ℕ → ℕ → ℕ
stripe_node z w p = if (ltb p (z.k + z.s)) (new_data_node z w p) (new_row_node z w (p - (z.k + z.s)))

-- n + s blocks, of which those that are not lost are as the area has them; a lost one may hold anything
pub record Gathered (z : Shape) (area : List ℕ) (w : ℕ) (losses stripe : List ℕ) : Type 0 where
  pub long : length stripe ≡ (z.n + z.s) * z.b
  pub present : (p : ℕ) → p < z.n + z.s → get_or losses p 0 ≡ 0 → slot stripe z.b p ≡ cell z area (stripe_node z w p) w

-- every block of the stripe is as the area has it
pub record Restored (z : Shape) (area : List ℕ) (w : ℕ) (stripe : List ℕ) : Type 0 where
  pub long : length stripe ≡ (z.n + z.s) * z.b
  pub blocks : (p : ℕ) → p < z.n + z.s → slot stripe z.b p ≡ cell z area (stripe_node z w p) w

-- n + s loss bytes, each 0 or 1
pub record Losses (z : Shape) (losses : List ℕ) : Type 0 where
  pub long : length losses ≡ z.n + z.s
  pub flags : (p : ℕ) → p < z.n + z.s → is_flag losses p ≡ true

-- whatever rebuild's contract lets it answer and leave: exactly the stripe's blocks if the present ones fix the data, and else 11, never 12
abbrev pub Rebuilt : Shape → (area : List ℕ) (w : ℕ) (losses stripe : List ℕ) → Type 0
Rebuilt z area w losses stripe = (a : RebuildAnswer) (out : List ℕ)
    → Rebuilds (multiplier z) (z.n + z.s) (z.k + z.s) z.b losses stripe a out
    → (FixesAll (multiplier z) (z.n + z.s) (z.k + z.s) losses
    × (a ≡ Rebuild.Rebuilt (lost_count losses (z.n + z.s))) × Restored z area w out)
    ⊎ ((FixesAll (multiplier z) (z.n + z.s) (z.k + z.s) losses → ⊥) × (a ≡ Rebuild.Refused 11))
