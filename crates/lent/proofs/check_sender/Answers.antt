-- `lent::check_sender` meets its contract. Assumes nothing.
use mathlib.Core.Path.{ap, ◌∙◌}
use borrow.Author.Tests.{eq-eqb, ne_eqb}
use Rattle.answer.specs.Numbers.{refusal_number}
use Rattle.answer.proofs.Exits.{passed, stops}
use Rattle.layout.specs.Counts.{stripes}
use Rattle.lent.specs.Checks.{sender_refusal}
use Rattle.lent.proofs.check_sender.Goals as goal

pub returns-in_err-layout-clause-refusal : goal.returns-in_err-layout-clause-refusal
unfolding sender_refusal
returns-in_err-layout-clause-refusal c =
    ap refusal_number (passed _ _ c.from_residual.ensures.1) ∙ stops _ _ _ c.in_err-layout.ensures.refusal

pub returns-then-own_bytes-stripe_count-clause-refusal : goal.returns-then-own_bytes-stripe_count-clause-refusal
unfolding sender_refusal
returns-then-own_bytes-stripe_count-clause-refusal c =
    let count = c.stripe_count.ensures.0 ∙ ap stripes c.in_ok-layout.ensures.layout in
    rw (← c.in_ok-layout.ensures.refusal, ← count, ne_eqb _ _ c.if-own_bytes-stripe_count.true)

pub returns-clause-refusal : goal.returns-clause-refusal
unfolding sender_refusal
returns-clause-refusal c =
    let count = c.stripe_count.ensures.0 ∙ ap stripes c.in_ok-layout.ensures.layout in
    rw (← c.in_ok-layout.ensures.refusal, ← count, eq-eqb _ _ c.if-own_bytes-stripe_count.false)
