-- `rebuild::refusals::flags_hold` meets its contract. Before turn p the first p loss bytes are 0 or 1. Assumes nothing.
use mathlib.Core.Path.{◌≡◌}
use mathlib.Core.Bool.{true}
use Prim.Native.Nat.{◌≤◌, ◌-◌}
use Rattle.base.specs.Tests.{every}
use Rattle.recovery.specs.Rebuild.{is_flag}
use Rattle.rebuild.proofs.refusals.flags_hold.Given as goal

abbrev pub invariant-loop-p : goal.invariant-loop-p
invariant-loop-p l = (l.p ≤ l.n) × (every l.p (is_flag l.losses) ≡ true)

abbrev pub decreases-loop-p : goal.decreases-loop-p
decreases-loop-p l = l.n - l.p
