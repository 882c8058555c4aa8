-- `encode::encode_area` meets its contract. Before turn g the first g stripes are written. Assumes nothing.
use mathlib.Core.Path.{◌∙◌}
use native.Mathlib.Omega.{arith}
use Rattle.base.proofs.Runs.{run_start, run_end}
use Rattle.layout.specs.Counts.{stripes}
use Rattle.growth.specs.Encode.{encoded_area}
use Rattle.encode.proofs.StripeRows.{length_stripes, stripe_turn}
use Rattle.encode.proofs.encode_area.Goals as goal

pub loop-g-init : goal.loop-g-init
loop-g-init c = run_start _ _

pub encode_stripe-requires-clause-area_len : goal.encode_stripe-requires-clause-area_len
unfolding stripes
encode_stripe-requires-clause-area_len c =
    let kept = c.kept_count-kept.ensures.0 in
    let dissolved = c.dissolved_count.ensures.0 in
    (length_stripes _ _ _ c.loop-g.invariant ∙ c.requires.area_len, omega arith)

pub loop-g-preserved : goal.loop-g-preserved
unfolding stripes
loop-g-preserved c =
    let kept = c.kept_count-kept.ensures.0 in
    let dissolved = c.dissolved_count.ensures.0 in
    stripe_turn _ c.args.z.in_ranges _ _ (omega arith) c.loop-g.invariant c.encode_stripe.ensures

pub shape_of-area : goal.shape_of-area
shape_of-area c = length_stripes _ _ _ c.loop-g.invariant

pub returns : goal.returns
unfolding encoded_area stripes
returns c =
    let kept = c.kept_count-kept.ensures.0 in
    let dissolved = c.dissolved_count.ensures.0 in
    run_end _ _ _ c.loop-g.invariant (omega arith) (omega arith)
