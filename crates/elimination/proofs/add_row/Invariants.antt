-- `elimination::add_row` meets its contract. Before turn p the first p places are added. Assumes nothing.
use mathlib.Core.Path.{◌≡◌}
use Prim.Native.Nat.{◌*◌}
use lib.ListN.{get_or}
use Rattle.gf256.specs.Field.{◌⊕◌, mul}
use Rattle.area.specs.Area.{writes}
use Rattle.elimination.specs.Matrix.{entry}
use Rattle.elimination.proofs.add_row.Given as goal

abbrev pub invariant-loop-p : goal.invariant-loop-p
invariant-loop-p l = l.m ≡ writes l.initial.m (l.j * 20) (λ p. entry l.initial.m l.j p ⊕ mul l.f (get_or l.u p 0)) l.p
