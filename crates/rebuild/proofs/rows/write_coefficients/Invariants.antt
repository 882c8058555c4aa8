-- `rebuild::rows::write_coefficients` meets its contract. Before turn c the first c coefficients are stored. Assumes nothing.
use mathlib.Core.Path.{◌≡◌}
use Prim.Native.Nat.{◌*◌, ◌≤◌, ◌-◌}
use lib.ListN.{length, get_or}
use Rattle.area.specs.Area.{writes}
use Rattle.rebuild.proofs.rows.write_coefficients.Given as goal

abbrev pub invariant-loop-c : goal.invariant-loop-c
invariant-loop-c l =
    (l.c ≤ 19)
    × (l.rows ≡ writes l.initial.rows (l.j * 20) (λ t. get_or l.q t 0) l.c)
    × (length l.rows ≡ length l.initial.rows)

abbrev pub decreases-loop-c : goal.decreases-loop-c
decreases-loop-c l = 19 - l.c
