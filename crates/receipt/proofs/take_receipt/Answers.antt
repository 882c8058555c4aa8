-- `receipt::take_receipt` meets its contract. Assumes nothing.
use mathlib.Core.Path.{sym, ap, ◌∙◌}
use native.Mathlib.Omega.{arith}
use Rattle.answer.specs.Cases.{of_step}
use Rattle.answer.proofs.Exits.{passed, number_some}
use Rattle.journal.specs.Journal.{journal_length}
use Rattle.wire.specs.Headers.{stripe_of}
use Rattle.receipt.proofs.Outcomes.{done_allowed, stops, journal_lent, sent_back}
use Rattle.receipt.proofs.take_receipt.Goals as goal

pub returns-in_err-check_journal : goal.returns-in_err-check_journal
returns-in_err-check_journal c =
    rw (passed _ _ c.from_residual.ensures.1)
    (stops c.args.z c.args.journal.now c.args.node c.args.bytes.now c.in_err-check_journal.ensures.refusal (number_some _))

pub keep_step-requires : goal.keep_step-requires
unfolding journal_length
keep_step-requires c =
    λ d.
    let ok = done_allowed _ _ _ _ _ c.take_receipt_at_node-step.ensures d in
    omega (
      arith,
      journal_lent _ _ (sym c.in_ok-check_journal.ensures.refusal),
      ok.stripe,
      c.stripe_of-w.ensures.0 ∙ ap stripe_of c.requires,
    )

pub returns : goal.returns
returns c =
    sent_back c.args.z c.args.journal.now c.args.node c.args.bytes.now (sym c.in_ok-check_journal.ensures.refusal)
    c.header_in.ensures c.requires c.stripe_of-w.ensures.0 c.record_in-stripe.ensures c.take_receipt_at_node-step.ensures
    (ap of_step c.keep_step.ensures.0) c.keep_step.ensures.1
