-- How far a drive has come, as the code keeps it: the number as the result of its steps, the contents in drive's buffers. Assumes nothing.
use Rattle.std.specs.Prelude.{true, false, ℕ, Result, Ok, Err}
use Rattle.protocol.specs.Drive.{Progress}
use Rattle.growth.specs.Drive.{Store}
use Rattle.drive.specs.declared.Stopped.{Stopped}

abbrev pub progress : Store → Result ℕ Stopped → Progress Store
progress store (Ok accepted) = record { contents = store; accepted = accepted; stopped = false }
progress store (Err stopped) = record { contents = store; accepted = stopped.accepted; stopped = true }
