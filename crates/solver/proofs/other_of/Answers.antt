-- `solver::other_of` meets its contract. Before turn p it has the last lost column other than c in row i among the
-- first p. Assumes nothing.
use mathlib.Core.Path.{ap, ◌∙◌}
use native.Mathlib.Omega.{arith}
use Rattle.code.specs.Agreement.{is_lost}
use Rattle.elimination.specs.Matrix.{from_one, has_unknown}
use Rattle.elimination.proofs.LastLaws.{last_none, last_end}
use Rattle.solver.specs.Solution.{other_of}
use Rattle.solver.proofs.OtherLaws.{other_more, other_skip, own_skip}
use Rattle.solver.proofs.other_of.Goals as goal
use Rattle.solver.proofs.other_of.Goals.{then-p-c+then-has_unknown, else-p-c, else-p-c-via-then-p-c+else-has_unknown, else-p-c-via-else-p-c}

pub loop-p-init : goal.loop-p-init
loop-p-init c = last_none _

pub loop-p-preserved : goal.loop-p-preserved
loop-p-preserved c =
    let args = c.args in
    let loop = c.loop-p in
    let f = has_unknown (is_lost args.losses.now) args.w.now args.i in
    elim c.if-p-c.branch [
      | then-p-c+then-has_unknown w ↦
          ap from_one w.other-is ∙ other_more args.c f loop.p (omega arith) w.has_unknown.ensures w.if-has_unknown.true
      | else-p-c w ↦
          ap from_one w.other-is
          ∙ elim w.else-p-c.branch [
            | else-p-c-via-then-p-c+else-has_unknown v ↦
                other_skip args.c f loop.p (omega arith) v.has_unknown.ensures v.if-has_unknown.false loop.invariant
            | else-p-c-via-else-p-c v ↦ own_skip args.c f loop.p (omega arith) loop.invariant
          ]
    ]

pub returns : goal.returns
unfolding other_of
returns c = last_end _ _ c.loop-p.invariant (omega arith) (omega arith)
