-- `area::add` meets its contract. Before turn i the first i bytes are added. Assumes nothing.
use mathlib.Core.Path.{◌≡◌}
use Prim.Native.Nat.{◌+◌, ◌≤◌, ◌-◌}
use lib.ListN.{length, get_or}
use Rattle.gf256.specs.Field.{◌⊕◌}
use Rattle.area.specs.Area.{writes}
use Rattle.area.proofs.add.Given as goal

abbrev pub invariant-loop-i : goal.invariant-loop-i
invariant-loop-i l =
    (l.i ≤ l.b) × (l.dst ≡ writes l.initial.dst l.at (λ k. get_or l.initial.dst (l.at + k) 0 ⊕ get_or l.src (l.from + k) 0) l.i)
    × (length l.dst ≡ length l.initial.dst)

abbrev pub decreases-loop-i : goal.decreases-loop-i
decreases-loop-i l = l.b - l.i
