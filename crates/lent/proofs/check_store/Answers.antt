-- `lent::check_store` meets its contract. Assumes nothing.
use mathlib.Core.Path.{ap, ◌∙◌}
use native.Mathlib.Omega.{arith}
use borrow.Author.Tests.{eq-eqb, ne_eqb}
use Rattle.answer.specs.Numbers.{refusal_number}
use Rattle.answer.proofs.Exits.{passed, stops}
use Rattle.lent.specs.Checks.{store_refusal}
use Rattle.lent.proofs.check_store.Goals as goal
use Rattle.lent.proofs.check_store.Goals.{then-area_bytes-area_length-via-then-area_bytes-area_length}
use Rattle.lent.proofs.check_store.Goals.{then-area_bytes-area_length-via-else-area_bytes-area_length+then-journal_words-journal_length}

pub returns-in_err-layout-clause-refusal : goal.returns-in_err-layout-clause-refusal
unfolding store_refusal
returns-in_err-layout-clause-refusal c =
    ap refusal_number (passed _ _ c.from_residual.ensures.1) ∙ stops _ _ _ c.in_err-layout.ensures.refusal

pub returns-then-area_bytes-area_length-clause-refusal : goal.returns-then-area_bytes-area_length-clause-refusal
unfolding store_refusal
returns-then-area_bytes-area_length-clause-refusal c =
    rw (← c.in_ok-layout.ensures.refusal, ← c.in_ok-layout.ensures.layout, ← c.area_length.ensures.0)
    (elim c.then-area_bytes-area_length.branch [
      | then-area_bytes-area_length-via-then-area_bytes-area_length w ↦ rw (ne_eqb _ _ w.if-area_bytes-area_length.true)
      | then-area_bytes-area_length-via-else-area_bytes-area_length+then-journal_words-journal_length w ↦
          rw (
            eq-eqb _ _ w.if-area_bytes-area_length.false,
            ← w.journal_length.ensures.0,
            ne_eqb c.args.journal_words w.journal_length.result (λ e. w.if-journal_words-journal_length.true (omega (arith, e))),
          )
    ])

pub returns-clause-refusal : goal.returns-clause-refusal
unfolding store_refusal
returns-clause-refusal c =
    rw (
      ← c.in_ok-layout.ensures.refusal,
      ← c.in_ok-layout.ensures.layout,
      ← c.area_length.ensures.0,
      ← c.journal_length.ensures.0,
      eq-eqb _ _ c.if-area_bytes-area_length.false,
      eq-eqb c.args.journal_words c.journal_length.result (omega (arith, c.if-journal_words-journal_length.false)),
    )
