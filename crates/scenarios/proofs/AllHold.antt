-- All scenarios hold: one theorem. Assumes nothing.
use Rattle.scenarios.specs.Scenarios.{Scenarios}
use Rattle.scenarios.proofs.SmallGrowth.{small_sizes, small_growth, small_stages, small_reads}
use Rattle.scenarios.proofs.SmallDrives.{small_drives}
use Rattle.scenarios.proofs.SwappedGrowth.{wide_sizes, two_swapped, swapped_growth}
use Rattle.scenarios.proofs.Refusals.{refusals}

pub scenarios : Scenarios
scenarios =
    record {
      sizes = small_sizes;
      growth = small_growth;
      stages = small_stages;
      reads = small_reads;
      drives = small_drives;
      refusals = refusals;
      swapped_sizes = wide_sizes;
      swapped_stripes = two_swapped;
      swapped_growth = swapped_growth;
    }
