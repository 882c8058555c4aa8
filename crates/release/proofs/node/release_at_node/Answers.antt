-- `release::node::release_at_node` meets its contract. Assumes nothing.
use mathlib.Core.Path.{sym, ◌∙◌}
use lib.ListN.{length}
use Rattle.answer.proofs.Exits.{passed}
use Rattle.parts.proofs.NodeCalls.{refuses, repeats, acts}
use Rattle.release.specs.Own.{release_at_node}
use Rattle.release.proofs.Outcomes.{own_allowed}
use Rattle.release.proofs.node.release_at_node.Goals as goal

pub returns-in_err-layout : goal.returns-in_err-layout
unfolding release_at_node
returns-in_err-layout c =
    rw (passed _ _ c.from_residual.ensures.1) (refuses _ _ _ _ _ _ _ c.in_err-layout.ensures.refusal)

pub returns-then-is_released : goal.returns-then-is_released
unfolding release_at_node
returns-then-is_released c =
    repeats _ _ _ _ _ _ c.in_ok-layout.ensures.refusal (sym c.is_released.ensures ∙ c.if-is_released.true)

pub release_own-requires : goal.release_own-requires
release_own-requires c =
    let args = c.args in
    let ok =
    own_allowed args.z (length args.own.now) args.h args.stripe.now.progress args.node args.w (sym c.in_ok-layout.ensures.refusal) in
    record { own_len = rw c.in_ok-layout.ensures.layout (ok.own_long, ok.stripe) }

pub returns : goal.returns
unfolding release_at_node
returns c =
    acts _ _ _ _ _ _ c.in_ok-layout.ensures.refusal (sym c.is_released.ensures ∙ c.if-is_released.false)
    (rw c.in_ok-layout.ensures.layout at c.release_own.ensures) c.release.ensures
