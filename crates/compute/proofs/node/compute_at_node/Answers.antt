-- `compute::node::compute_at_node` meets its contract. Assumes nothing.
use mathlib.Core.Path.{sym, ◌∙◌}
use lib.ListN.{length}
use Rattle.answer.proofs.Exits.{passed}
use Rattle.parts.proofs.NodeCalls.{refuses, repeats, acts}
use Rattle.compute.specs.Own.{compute_at_node}
use Rattle.compute.proofs.Outcomes.{own_allowed}
use Rattle.compute.proofs.node.compute_at_node.Goals as goal

pub returns-in_err-layout : goal.returns-in_err-layout
unfolding compute_at_node
returns-in_err-layout c =
    rw (passed _ _ c.from_residual.ensures.1) (refuses _ _ _ _ _ _ _ c.in_err-layout.ensures.refusal)

pub returns-then-is_computed : goal.returns-then-is_computed
unfolding compute_at_node
returns-then-is_computed c =
    repeats _ _ _ _ _ _ c.in_ok-layout.ensures.refusal (sym c.is_computed.ensures ∙ c.if-is_computed.true)

pub add_own_delta-requires : goal.add_own_delta-requires
add_own_delta-requires c =
    let args = c.args in
    let ok =
    own_allowed args.z (length args.own.now) args.h args.stripe.now.progress args.node args.w (sym c.in_ok-layout.ensures.refusal) in
    record { own_len = rw c.in_ok-layout.ensures.layout (ok.own_long, ok.stripe) }

pub returns : goal.returns
unfolding compute_at_node
returns c =
    acts _ _ _ _ _ _ c.in_ok-layout.ensures.refusal (sym c.is_computed.ensures ∙ c.if-is_computed.false)
    (rw c.in_ok-layout.ensures.layout at c.add_own_delta.ensures) c.compute.ensures
