-- `journal::whole::examine` meets its contract. Before turn w the first w stripes are good, and their marks and whether all are released
-- are known. Assumes nothing.
use mathlib.Core.Path.{◌≡◌}
use mathlib.Core.Bool.{true}
use Prim.Native.Nat.{◌*◌, ◌≤◌}
use Rattle.base.specs.Folds.{sum}
use Rattle.base.specs.Tests.{every}
use Rattle.journal.proofs.WholeLaws.{stripe_good, stripe_released, stripe_marks}
use Rattle.journal.proofs.whole.examine.Given as goal

abbrev pub invariant-loop-w : goal.invariant-loop-w
invariant-loop-w l =
    (every l.w (stripe_good l.z.shape l.journal) ≡ true) × (l.released ≡ every l.w (stripe_released l.journal))
    × (l.marks ≡ sum l.w (stripe_marks l.z.shape l.journal))
    × (l.marks ≤ l.w * 28)
