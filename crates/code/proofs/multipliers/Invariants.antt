-- `code::multipliers` meets its contract. Before turn j the first j are recognised. Assumes nothing.
use mathlib.Core.Path.{◌≡◌}
use Prim.Native.Nat.{ℕ, ◌<◌}
use lib.ListN.{length, get_or}
use Rattle.std.specs.Prelude.{None}
use Rattle.code.specs.Recognised.{Recognised}
use Rattle.code.proofs.multipliers.Given as goal

abbrev pub invariant-loop-j : goal.invariant-loop-j
invariant-loop-j l = (length l.m ≡ 4) × ((i : ℕ) → i < l.j → Recognised l.k i (get_or l.m i None))
