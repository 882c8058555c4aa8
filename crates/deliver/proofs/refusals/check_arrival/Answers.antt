-- `deliver::refusals::check_arrival` meets its contract. Assumes nothing.
use mathlib.Core.Path.{sym, ap, ◌∙◌}
use Prim.Native.Nat.{ℕ}
use borrow.Author.Tests.{lt-ltb, le-ltb}
use Rattle.answer.proofs.Exits.{passed, tested_false, passed_test}
use Rattle.wire.specs.Forms.{of_another_growth}
use Rattle.journal.specs.Journal.{header_ok}
use Rattle.journal.proofs.StateLaws.{acts, refuses}
use Rattle.deliver.specs.Arrival.{arrival_refusal}
use Rattle.deliver.proofs.refusals.check_arrival.Goals as goal
use Rattle.deliver.proofs.refusals.check_arrival.Goals.{then-not-formed-via-then-not-formed}
use Rattle.deliver.proofs.refusals.check_arrival.Goals.{then-not-formed-via-else-not-formed+then-for_another_node}

pub returns-in_err-state : goal.returns-in_err-state
unfolding arrival_refusal
returns-in_err-state c =
    let failed = tested_false c.in_err-state.field-0.0 (header_ok c.args.z.shape c.args.h) 4 c.in_err-state.ensures.refusal in
    rw (passed _ _ c.from_residual.ensures.1, failed.0) failed.1

pub damaged_word-requires : goal.damaged_word-requires
damaged_word-requires c = record { formed_value = c.is_message-formed.ensures }

pub returns-then-damaged_word : goal.returns-then-damaged_word
unfolding arrival_refusal
returns-then-damaged_word c =
    rw (passed_test _ _ c.in_ok-state.ensures.refusal, sym c.damaged_word.ensures ∙ c.if-damaged_word.true)

pub returns-in_err-check_open : goal.returns-in_err-check_open
unfolding arrival_refusal
returns-in_err-check_open c =
    let failed = refuses _ _ _ c.in_ok-state.ensures.state c.in_err-check_open.ensures in
    rw (
      passed _ _ c.from_residual-in_err-check_open.ensures.1,
      passed_test _ _ c.in_ok-state.ensures.refusal,
      sym c.damaged_word.ensures ∙ c.if-damaged_word.false,
      failed.0,
    )
    failed.1

pub returns-then-node-z : goal.returns-then-node-z
unfolding arrival_refusal
returns-then-node-z c =
    rw (
      passed_test _ _ c.in_ok-state.ensures.refusal,
      sym c.damaged_word.ensures ∙ c.if-damaged_word.false,
      acts _ _ c.in_ok-state.ensures.state c.in_ok-check_open.ensures,
      le-ltb _ _ c.if-node-z.true,
    )

pub for_another_node-requires : goal.for_another_node-requires
for_another_node-requires c = record { h_value = sym c.is_message-formed.ensures ∙ c.if-not-formed.false }

pub returns-then-not-formed : goal.returns-then-not-formed
unfolding arrival_refusal
returns-then-not-formed c =
    rw (
      passed_test _ _ c.in_ok-state.ensures.refusal,
      sym c.damaged_word.ensures ∙ c.if-damaged_word.false,
      acts _ _ c.in_ok-state.ensures.state c.in_ok-check_open.ensures,
      lt-ltb _ _ c.if-node-z.false,
    )
    (elim c.then-not-formed.branch [
      | then-not-formed-via-then-not-formed w ↦ rw (sym c.is_message-formed.ensures ∙ w.if-not-formed.true)
      | then-not-formed-via-else-not-formed+then-for_another_node w ↦
          rw (
            sym c.is_message-formed.ensures ∙ w.if-not-formed.false,
            sym w.for_another_node.ensures ∙ w.if-for_another_node.true,
          )
    ])

pub returns-then-of_another_growth : goal.returns-then-of_another_growth
unfolding arrival_refusal
returns-then-of_another_growth c =
    let another = c.of_another_growth.ensures ∙ ap (λ (x : ℕ). of_another_growth x c.args.m) c.number_of.ensures.0 in
    rw (
      passed_test _ _ c.in_ok-state.ensures.refusal,
      sym c.damaged_word.ensures ∙ c.if-damaged_word.false,
      acts _ _ c.in_ok-state.ensures.state c.in_ok-check_open.ensures,
      lt-ltb _ _ c.if-node-z.false,
      sym c.is_message-formed.ensures ∙ c.if-not-formed.false,
      sym c.for_another_node.ensures ∙ c.if-for_another_node.false,
      sym another ∙ c.if-of_another_growth.true,
    )

pub returns : goal.returns
unfolding arrival_refusal
returns c =
    let another = c.of_another_growth.ensures ∙ ap (λ (x : ℕ). of_another_growth x c.args.m) c.number_of.ensures.0 in
    rw (
      passed_test _ _ c.in_ok-state.ensures.refusal,
      sym c.damaged_word.ensures ∙ c.if-damaged_word.false,
      acts _ _ c.in_ok-state.ensures.state c.in_ok-check_open.ensures,
      lt-ltb _ _ c.if-node-z.false,
      sym c.is_message-formed.ensures ∙ c.if-not-formed.false,
      sym c.for_another_node.ensures ∙ c.if-for_another_node.false,
      sym another ∙ c.if-of_another_growth.false,
    )
