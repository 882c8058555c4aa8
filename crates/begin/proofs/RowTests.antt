-- Rows that are compared with what the blocks at the columns' offsets give: that is the definition's test of a stripe. Assumes nothing.
use mathlib.Core.Path.{◌≡◌, ◌∙◌}
use mathlib.Core.Bool.{Bool}
use mathlib.Core.List.{List}
use Prim.Native.Nat.{ℕ, ◌<◌}
use Rattle.base.proofs.Tests.{every_same}
use Rattle.area.specs.Area.{slot}
use Rattle.stripes.specs.Stripes.{row_test, rows_hold}
use Rattle.layout.specs.declared.Shape.{Shape}
use Rattle.layout.specs.Ranges.{rows, InRanges}
use Rattle.layout.specs.Counts.{stripes}
use Rattle.growth.specs.Cells.{cell, row, multiplier}
use Rattle.growth.specs.Begin.{stripe_holds}
use Rattle.cells.specs.Offsets.{StripeOffsets}
use Rattle.cells.proofs.ColumnLaws.{row_of_columns}

pub stripe_tested : (z : Shape) → InRanges z → (area : List ℕ) (g : ℕ) → g < stripes z → {at : List ℕ} {same : Bool} → StripeOffsets z g at
    → same ≡ rows_hold (multiplier z) at z.b z.k (rows z) area → same ≡ stripe_holds z area g
unfolding rows_hold stripe_holds row cell slot
stripe_tested z ok area g lg {at} offsets compared =
    compared
    ∙ every_same (rows z) (row_test (multiplier z) at z.b z.k area) _
    (λ j l. rw (offsets.each j l, row_of_columns z ok g lg offsets.columns area j))
