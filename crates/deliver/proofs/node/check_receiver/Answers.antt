-- `deliver::node::check_receiver` meets its contract. Assumes nothing.
use mathlib.Core.Path.{ap, ◌∙◌}
use borrow.Author.Tests.{eq-eqb, ne_eqb}
use Rattle.answer.specs.Numbers.{refusal_number}
use Rattle.answer.proofs.Exits.{passed, stops}
use Rattle.deliver.specs.Own.{receiver_refusal}
use Rattle.deliver.proofs.node.check_receiver.Goals as goal

pub returns-in_err-layout-clause-refusal : goal.returns-in_err-layout-clause-refusal
unfolding receiver_refusal
returns-in_err-layout-clause-refusal c =
    ap refusal_number (passed _ _ c.from_residual.ensures.1) ∙ stops _ _ _ c.in_err-layout.ensures.refusal

pub returns-then-own_bytes-node_bytes-clause-refusal : goal.returns-then-own_bytes-node_bytes-clause-refusal
unfolding receiver_refusal
returns-then-own_bytes-node_bytes-clause-refusal c =
    let layout = c.in_ok-layout.ensures in
    rw (← layout.refusal, ← layout.layout, ← c.node_bytes.ensures.0, ne_eqb _ _ c.if-own_bytes-node_bytes.true)

pub returns-clause-refusal : goal.returns-clause-refusal
unfolding receiver_refusal
returns-clause-refusal c =
    let layout = c.in_ok-layout.ensures in
    rw (← layout.refusal, ← layout.layout, ← c.node_bytes.ensures.0, eq-eqb _ _ c.if-own_bytes-node_bytes.false)
