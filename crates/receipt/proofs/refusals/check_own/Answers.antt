-- `receipt::refusals::check_own` meets its contract. Assumes nothing.
use mathlib.Core.Path.{ap, ◌∙◌}
use borrow.Author.Tests.{eq-eqb, ne_eqb}
use Rattle.answer.specs.Numbers.{refusal_number}
use Rattle.answer.proofs.Exits.{passed, stops}
use Rattle.receipt.specs.Return.{return_refusal}
use Rattle.receipt.specs.Own.{own_refusal}
use Rattle.receipt.proofs.refusals.check_own.Goals as goal

pub returns-in_err-layout : goal.returns-in_err-layout
unfolding own_refusal
returns-in_err-layout c = ap refusal_number (passed _ _ c.from_residual.ensures.1) ∙ stops _ _ _ c.in_err-layout.ensures.refusal

pub returns-then-receipt_bytes-ne16 : goal.returns-then-receipt_bytes-ne16
unfolding own_refusal
returns-then-receipt_bytes-ne16 c = rw (← c.in_ok-layout.ensures.refusal, ne_eqb _ _ c.if-receipt_bytes-ne16.true)

pub returns : goal.returns
unfolding own_refusal return_refusal
returns c =
    rw (← c.in_ok-layout.ensures.refusal, ← c.in_ok-layout.ensures.layout, eq-eqb _ _ c.if-receipt_bytes-ne16.false) c.check_return.ensures
