-- FORMAT §14. What is claimed of every drive. Assumes nothing.
use Rattle.std.specs.Prelude.{◌≡◌, true, ℕ, ◌≤◌}
use Rattle.protocol.specs.Drive.{Progress}

-- it accepts no more than its limit, and stops only when it has accepted as many
pub record DriveRule (limit : ℕ) {Contents : Type 0} (r : Progress Contents) : Type 0 where
  pub within : r.accepted ≤ limit
  pub spent_all : r.stopped ≡ true → r.accepted ≡ limit
