-- `receipt::refusals::check_return` meets its contract. Assumes nothing.
use mathlib.Core.Path.{sym, ap, ◌∙◌}
use Prim.Native.Nat.{ℕ}
use borrow.Author.Tests.{lt-ltb, le-ltb}
use Rattle.answer.proofs.Exits.{passed, tested_false, passed_test}
use Rattle.wire.specs.Forms.{of_another_growth}
use Rattle.journal.specs.Journal.{header_ok}
use Rattle.journal.proofs.StateLaws.{acts, refuses}
use Rattle.receipt.specs.Return.{return_refusal}
use Rattle.receipt.proofs.refusals.check_return.Goals as goal

pub returns-in_err-state : goal.returns-in_err-state
unfolding return_refusal
returns-in_err-state c =
    let failed = tested_false c.in_err-state.field-0.0 (header_ok c.args.z.shape c.args.h) 4 c.in_err-state.ensures.refusal in
    rw (passed _ _ c.from_residual.ensures.1, failed.0) failed.1

pub returns-then-damaged_word : goal.returns-then-damaged_word
unfolding return_refusal
returns-then-damaged_word c =
    rw (
      passed_test _ _ c.in_ok-state.ensures.refusal,
      ← c.is_receipt-formed.ensures,
      sym c.damaged_word.ensures ∙ c.if-damaged_word.true,
    )

pub returns-in_err-check_open : goal.returns-in_err-check_open
unfolding return_refusal
returns-in_err-check_open c =
    let failed = refuses _ _ _ c.in_ok-state.ensures.state c.in_err-check_open.ensures in
    rw (
      passed _ _ c.from_residual-in_err-check_open.ensures.1,
      passed_test _ _ c.in_ok-state.ensures.refusal,
      ← c.is_receipt-formed.ensures,
      sym c.damaged_word.ensures ∙ c.if-damaged_word.false,
      failed.0,
    )
    failed.1

pub returns-then-node-z : goal.returns-then-node-z
unfolding return_refusal
returns-then-node-z c =
    rw (
      passed_test _ _ c.in_ok-state.ensures.refusal,
      ← c.is_receipt-formed.ensures,
      sym c.damaged_word.ensures ∙ c.if-damaged_word.false,
      acts _ _ c.in_ok-state.ensures.state c.in_ok-check_open.ensures,
      le-ltb _ _ c.if-node-z.true,
    )

pub returns-then-not-formed : goal.returns-then-not-formed
unfolding return_refusal
returns-then-not-formed c =
    rw (
      passed_test _ _ c.in_ok-state.ensures.refusal,
      ← c.is_receipt-formed.ensures,
      sym c.damaged_word.ensures ∙ c.if-damaged_word.false,
      acts _ _ c.in_ok-state.ensures.state c.in_ok-check_open.ensures,
      lt-ltb _ _ c.if-node-z.false,
      c.if-not-formed.true,
    )

pub returns-then-for_another_sender : goal.returns-then-for_another_sender
unfolding return_refusal
returns-then-for_another_sender c =
    rw (
      passed_test _ _ c.in_ok-state.ensures.refusal,
      ← c.is_receipt-formed.ensures,
      sym c.damaged_word.ensures ∙ c.if-damaged_word.false,
      acts _ _ c.in_ok-state.ensures.state c.in_ok-check_open.ensures,
      lt-ltb _ _ c.if-node-z.false,
      c.if-not-formed.false,
      sym c.for_another_sender.ensures ∙ c.if-for_another_sender.true,
    )

pub returns-then-of_another_growth : goal.returns-then-of_another_growth
unfolding return_refusal
returns-then-of_another_growth c =
    rw (
      passed_test _ _ c.in_ok-state.ensures.refusal,
      ← c.is_receipt-formed.ensures,
      sym c.damaged_word.ensures ∙ c.if-damaged_word.false,
      acts _ _ c.in_ok-state.ensures.state c.in_ok-check_open.ensures,
      lt-ltb _ _ c.if-node-z.false,
      c.if-not-formed.false,
      sym c.for_another_sender.ensures ∙ c.if-for_another_sender.false,
      sym (c.of_another_growth.ensures ∙ ap (λ (x : ℕ). of_another_growth x c.args.m) c.number_of.ensures.0) ∙ c.if-of_another_growth.true,
    )

pub returns-then-not-has_bit : goal.returns-then-not-has_bit
unfolding return_refusal
returns-then-not-has_bit c =
    rw (
      passed_test _ _ c.in_ok-state.ensures.refusal,
      ← c.is_receipt-formed.ensures,
      sym c.damaged_word.ensures ∙ c.if-damaged_word.false,
      acts _ _ c.in_ok-state.ensures.state c.in_ok-check_open.ensures,
      lt-ltb _ _ c.if-node-z.false,
      c.if-not-formed.false,
      sym c.for_another_sender.ensures ∙ c.if-for_another_sender.false,
      sym (c.of_another_growth.ensures ∙ ap (λ (x : ℕ). of_another_growth x c.args.m) c.number_of.ensures.0) ∙ c.if-of_another_growth.false,
      sym c.has_bit.ensures ∙ c.if-not-has_bit.true,
    )

pub returns : goal.returns
unfolding return_refusal
returns c =
    rw (
      passed_test _ _ c.in_ok-state.ensures.refusal,
      ← c.is_receipt-formed.ensures,
      sym c.damaged_word.ensures ∙ c.if-damaged_word.false,
      acts _ _ c.in_ok-state.ensures.state c.in_ok-check_open.ensures,
      lt-ltb _ _ c.if-node-z.false,
      c.if-not-formed.false,
      sym c.for_another_sender.ensures ∙ c.if-for_another_sender.false,
      sym (c.of_another_growth.ensures ∙ ap (λ (x : ℕ). of_another_growth x c.args.m) c.number_of.ensures.0) ∙ c.if-of_another_growth.false,
      sym c.has_bit.ensures ∙ c.if-not-has_bit.false,
    )
