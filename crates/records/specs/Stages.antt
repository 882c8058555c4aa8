-- FORMAT §11. A stripe's stage, and how many of its transfers are accepted. Assumes nothing.
use Rattle.std.specs.Prelude.{ℕ}
use Rattle.base.specs.Tests.{if}
use Rattle.base.specs.Folds.{sum, indicator}
use Rattle.layout.specs.declared.Shape.{Shape}
use Rattle.layout.specs.Counts.{transfers}
use Rattle.records.specs.declared.StripeRecord.{StripeRecord}
use Rattle.records.specs.Records.{is_accepted, is_computed, is_released}

-- a stripe's stage: 0 fresh, 1 computed, 2 released
unfoldable pub stage : StripeRecord → ℕ
stage r = if (is_released r) 2 (if (is_computed r) 1 0)

-- how many of the stripe's transfers are marked as accepted
abbrev pub accepted_count : Shape → StripeRecord → ℕ
accepted_count z r = sum (transfers z) (λ e. indicator (is_accepted r e))
