-- `solver::null_entry` meets its contract. Assumes nothing.
use mathlib.Core.Path.{◌≡◌, refl}
use Prim.Native.Nat.{◌+◌, ◌-◌}
use native.Mathlib.Omega.{arith}
use borrow.Author.Tests.{eq-eqb, ne_eqb, lt-ltb}
use Rattle.elimination.specs.Matrix.{entry}
use Rattle.solver.specs.Solution.{null_data}
use Rattle.solver.proofs.PivotRows.{row_told}
use Rattle.solver.proofs.null_entry.Goals as goal

pub returns-then-p-f : goal.returns-then-p-f
unfolding null_data
returns-then-p-f c = rw (eq-eqb c.args.p c.args.f (omega arith))

pub returns-in-None : goal.returns-in-None
unfolding null_data
returns-in-None c = rw (ne_eqb c.args.p c.args.f (omega arith), ← row_told _ _ _ c.pivots.ensures _ c.in-None.ensures.0)

pub returns-in-Some : goal.returns-in-Some
unfolding null_data entry
returns-in-Some c =
    let s : c.in-Some.row + 1 - 1 ≡ c.in-Some.row = omega arith in
    rw (
      ne_eqb c.args.p c.args.f (omega arith),
      ← row_told _ _ _ c.pivots.ensures _ c.in-Some.ensures.0,
      lt-ltb 0 (c.in-Some.row + 1)
          (omega arith),
      s,
    ) refl
