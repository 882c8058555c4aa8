-- `lent::check_stripe` meets its contract. Assumes nothing.
use mathlib.Core.Path.{sym, ◌∙◌}
use borrow.Author.Tests.{lt-ltb, le-ltb, eq-eqb, ne_eqb}
use Rattle.answer.proofs.Exits.{passed, tested_false, passed_test}
use Rattle.journal.specs.Journal.{header_ok}
use Rattle.journal.proofs.StateLaws.{acts, refuses}
use Rattle.lent.specs.Checks.{stripe_refusal}
use Rattle.lent.proofs.check_stripe.Goals as goal
use Rattle.lent.proofs.check_stripe.Goals.{then-w-kept-via-then-w-kept}
use Rattle.lent.proofs.check_stripe.Goals.{then-w-kept-via-else-w-kept+then-node-sender_of}

pub returns-in_err-state : goal.returns-in_err-state
unfolding stripe_refusal
returns-in_err-state c =
    let failed = tested_false c.in_err-state.field-0.0 (header_ok c.args.z.shape c.args.h) 4 c.in_err-state.ensures.refusal in
    rw (passed _ _ c.from_residual.ensures.1, failed.0) failed.1

pub returns-then-damaged_word : goal.returns-then-damaged_word
unfolding stripe_refusal
returns-then-damaged_word c =
    rw (passed_test _ _ c.in_ok-state.ensures.refusal, ← c.kept_count-kept.ensures.0, sym c.damaged_word.ensures ∙ c.if-damaged_word.true)

pub returns-in_err-check_open : goal.returns-in_err-check_open
unfolding stripe_refusal
returns-in_err-check_open c =
    let failed = refuses _ _ _ c.in_ok-state.ensures.state c.in_err-check_open.ensures in
    rw (
      passed _ _ c.from_residual-in_err-check_open.ensures.1,
      passed_test _ _ c.in_ok-state.ensures.refusal,
      ← c.kept_count-kept.ensures.0,
      sym c.damaged_word.ensures ∙ c.if-damaged_word.false,
      failed.0,
    )
    failed.1

pub returns-then-w-kept : goal.returns-then-w-kept
unfolding stripe_refusal
returns-then-w-kept c =
    rw (
      passed_test _ _ c.in_ok-state.ensures.refusal,
      ← c.kept_count-kept.ensures.0,
      sym c.damaged_word.ensures ∙ c.if-damaged_word.false,
      acts _ _ c.in_ok-state.ensures.state c.in_ok-check_open.ensures,
    )
    (elim c.then-w-kept.branch [
      | then-w-kept-via-then-w-kept w ↦ rw (le-ltb _ _ w.if-w-kept.true)
      | then-w-kept-via-else-w-kept+then-node-sender_of w ↦
          rw (lt-ltb _ _ w.if-w-kept.false, ← w.sender_of.ensures.0, ne_eqb _ _ w.if-node-sender_of.true)
    ])

pub returns : goal.returns
unfolding stripe_refusal
returns c =
    rw (
      passed_test _ _ c.in_ok-state.ensures.refusal,
      ← c.kept_count-kept.ensures.0,
      sym c.damaged_word.ensures ∙ c.if-damaged_word.false,
      acts _ _ c.in_ok-state.ensures.state c.in_ok-check_open.ensures,
      lt-ltb _ _ c.if-w-kept.false,
      ← c.sender_of.ensures.0,
      eq-eqb _ _ c.if-node-sender_of.false,
    )
