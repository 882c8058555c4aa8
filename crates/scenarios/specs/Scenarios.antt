-- All scenarios: what the calls answer and leave on small stores, by computation. Proved as `scenarios` in proofs/AllHold. Assumes nothing.
use Rattle.scenarios.specs.SmallGrowth.{SmallSizes, SmallGrowth, SmallStages, SmallReads}
use Rattle.scenarios.specs.SmallDrives.{SmallDrives}
use Rattle.scenarios.specs.SwappedGrowth.{WideSizes, TwoSwapped, SwappedGrowth}
use Rattle.scenarios.specs.Refusals.{Refusals}

pub record Scenarios : Type 0 where
  -- shape (2,1,1)
  pub sizes : SmallSizes
  pub growth : SmallGrowth
  pub stages : SmallStages
  pub reads : SmallReads
  pub drives : SmallDrives
  pub refusals : Refusals
  -- shape (4,1,2)
  pub swapped_sizes : WideSizes
  pub swapped_stripes : TwoSwapped
  pub swapped_growth : SwappedGrowth
