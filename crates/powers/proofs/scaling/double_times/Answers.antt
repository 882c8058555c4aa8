-- `powers::scaling::double_times` meets its contract. Before each turn the block is doubled so often. Assumes nothing.
use mathlib.Core.Path.{◌≡◌, refl, ap, ◌∙◌}
use native.Mathlib.Omega.{arith}
use lib.ListN.{length}
use Rattle.passes.proofs.Laws.{length_doubled}
use Rattle.powers.proofs.ScalingLaws.{scaled_start, scaled_more}
use Rattle.powers.proofs.scaling.double_times.Goals as goal

pub loop-init : goal.loop-init
loop-init c = (refl, scaled_start _ (λ k. omega (arith, c.type_inv.out k)))

pub loop-preserved : goal.loop-preserved
loop-preserved c =
    let turn = c.loop.invariant in
    (ap length c.double_all.ensures ∙ length_doubled _ ∙ turn.0, scaled_more _ _ turn.1 c.double_all.ensures)

pub returns : goal.returns
returns c = let e : c.loop.counter ≡ c.args.e = omega arith in c.loop.invariant.1 ∙ rw e
