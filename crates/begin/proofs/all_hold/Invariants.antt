-- `begin::all_hold` meets its contract. Before turn g the first g stripes hold. Assumes nothing.
use mathlib.Core.Path.{◌≡◌}
use mathlib.Core.Bool.{true}
use Rattle.base.specs.Tests.{every}
use Rattle.growth.specs.Begin.{stripe_holds}
use Rattle.begin.proofs.all_hold.Given as goal

abbrev pub invariant-loop-g : goal.invariant-loop-g
invariant-loop-g l = every l.g (stripe_holds l.z.shape l.area) ≡ true
