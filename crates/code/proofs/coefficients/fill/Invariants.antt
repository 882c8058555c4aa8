-- `code::coefficients::fill` meets its contract. Before turn t the first t coefficients are filled in. Assumes nothing.
use mathlib.Core.Path.{◌≡◌}
use Prim.Native.Nat.{◌≤◌, ◌-◌}
use lib.ListN.{length}
use Rattle.code.specs.Filled.{Filled}
use Rattle.code.proofs.coefficients.fill.Given as goal

abbrev pub invariant-loop-t : goal.invariant-loop-t
invariant-loop-t l = (l.t ≤ l.count) × (length l.q ≡ 20) × Filled l.j l.from l.t l.q

abbrev pub decreases-loop-t : goal.decreases-loop-t
decreases-loop-t l = l.count - l.t
