-- `drive::drive_transfers` meets its contract. Assumes nothing.
use mathlib.Core.Path.{◌≡◌}
use lib.ListN.{length}
use Rattle.protocol.specs.Drive.{Progress, goes_on, drive_transfers}
use Rattle.growth.specs.Drive.{Store, store_drive, lent_store}
use Rattle.drive.proofs.drive_transfers.Given as goal

abbrev pub invariant-loop-e : goal.invariant-loop-e
invariant-loop-e l =
    (◌≡◌ {A = Progress Store} (goes_on (lent_store l.z.shape l.area l.journal l.space) l.total)
    (drive_transfers (store_drive l.z.shape) l.limit l.w l.e
    (goes_on (lent_store l.z.shape l.initial.area l.initial.journal l.initial.space) l.accepted)))
    × ((length l.area ≡ length l.initial.area) × (length l.journal ≡ length l.initial.journal) × (length l.space ≡ length l.initial.space))
