-- `elimination::scaled_row` meets its contract. Before turn p the first p entries are stored. Assumes nothing.
use mathlib.Core.Path.{◌≡◌}
use lib.ListN.{length}
use Rattle.gf256.specs.Field.{mul}
use Rattle.area.specs.Area.{writes}
use Rattle.elimination.specs.Matrix.{entry}
use Rattle.elimination.proofs.scaled_row.Given as goal

abbrev pub invariant-loop-p : goal.invariant-loop-p
invariant-loop-p l = (l.u ≡ writes l.initial.u 0 (λ p. mul l.v (entry l.w l.i p)) l.p) × (length l.u ≡ 20)
