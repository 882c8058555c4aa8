-- `rebuild::solved_matrix` meets its contract. Assumes nothing.
use mathlib.Core.Path.{◌∙◌}
use native.Mathlib.Omega.{arith}
use Rattle.solver.proofs.CheckMatrix.{solved_same}
use Rattle.rebuild.proofs.solved_matrix.Goals as goal

pub solve-requires : goal.solve-requires
solve-requires c = omega arith

pub returns : goal.returns
returns c = c.solve.ensures ∙ solved_same _ _ _ _ _ (λ j p hj hp. c.code_rows.ensures.each j p hj (omega arith))
