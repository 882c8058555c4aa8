-- `drive::drive_stripes` meets its contract. Assumes nothing.
use mathlib.Core.Path.{◌≡◌}
use lib.ListN.{length}
use Rattle.layout.specs.Counts.{transfers}
use Rattle.protocol.specs.Drive.{Progress, goes_on, drive_stripes}
use Rattle.growth.specs.Drive.{Store, store_drive, lent_store}
use Rattle.drive.proofs.drive_stripes.Given as goal

abbrev pub invariant-loop-w : goal.invariant-loop-w
invariant-loop-w l =
    (◌≡◌ {A = Progress Store} (goes_on (lent_store l.z.shape l.area l.journal l.space) l.total)
    (drive_stripes (store_drive l.z.shape) l.limit (transfers l.z.shape) l.w
    (goes_on (lent_store l.z.shape l.initial.area l.initial.journal l.initial.space) 0)))
    × ((length l.area ≡ length l.initial.area) × (length l.journal ≡ length l.initial.journal) × (length l.space ≡ length l.initial.space))
