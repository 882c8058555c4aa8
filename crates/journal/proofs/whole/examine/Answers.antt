-- `journal::whole::examine` meets its contract. Before turn w the first w stripes are good, and their marks and whether all are released
-- are known. Assumes nothing.
use mathlib.Core.Path.{◌≡◌, sym, ap, ◌∙◌}
use mathlib.Core.Bool.{true, false}
use Prim.Native.Nat.{zero-le}
use native.Mathlib.Omega.{arith}
use borrow.Author.Tests.{eq-eqb, ne_eqb}
use Rattle.std.proofs.lemmas.Bool.{true≢false}
use Rattle.base.proofs.Tests.{every_none, every_more}
use Rattle.answer.proofs.Exits.{passed, tested_false, passed_test}
use Rattle.records.specs.Conditions.{record_ok}
use Rattle.layout.specs.Counts.{kept}
use Rattle.journal.specs.States.{is_closed}
use Rattle.journal.specs.Journal.{state_of, count_of, journal_length}
use Rattle.journal.proofs.StateLaws.{known_test}
use Rattle.journal.proofs.WholeLaws.{header_fails, stripe_fails, pass_tells, marks_none}
use Rattle.journal.proofs.WholeLaws.{marks_turn, released_turn, record_accepted}
use Rattle.journal.proofs.whole.examine.Goals as goal
use Rattle.journal.proofs.whole.examine.Goals.{in-Open, in-Closed}

pub read_header-h-requires : goal.read_header-h-requires
unfolding journal_length
read_header-h-requires c = omega (arith, c.requires)

pub returns-in_err-state-clause-refusal : goal.returns-in_err-state-clause-refusal
returns-in_err-state-clause-refusal c =
    let failed = tested_false _ _ _ c.in_err-state.ensures.refusal in
    rw (passed _ _ c.from_residual.ensures.1, header_fails _ _ _ c.read_header-h.ensures failed.0) failed.1

pub loop-w-init : goal.loop-w-init
loop-w-init c = (every_none _, sym (every_none _), marks_none _ _, zero-le)

pub read_record-r-requires : goal.read_record-r-requires
unfolding journal_length
read_record-r-requires c =
    let kept-count = c.kept_count-w-end in
    let l = kept-count.ensures.0 in omega (arith, c.requires)

pub returns-then-not-record_ok-clause-refusal : goal.returns-then-not-record_ok-clause-refusal
returns-then-not-record_ok-clause-refusal c =
    let l = c.kept_count-w-end.ensures.0 in
    let failed = sym c.record_ok.ensures ∙ c.if-not-record_ok.true in
    rw (stripe_fails _ _ _ _ c.read_record-r.ensures (omega arith) failed)

pub accepted_count-marks-requires : goal.accepted_count-marks-requires
accepted_count-marks-requires c =
    let record-ok = c.record_ok in
    record { accepted_value = record_accepted _ _ (sym record-ok.ensures ∙ c.if-not-record_ok.false) }

pub overflow_add-marks : goal.overflow_add-marks
overflow_add-marks c = omega arith

pub loop-w-preserved : goal.loop-w-preserved
loop-w-preserved c =
    let inv = c.loop-w.invariant in
    let same = c.read_record-r.ensures in
    let good = sym (ap (record_ok c.args.z.shape) same) ∙ sym c.record_ok.ensures ∙ c.if-not-record_ok.false in (
      every_more _ _ inv.0 good,
      released_turn _ _ _ _ _ same inv.1 c.is_released-released.ensures,
      marks_turn _ _ _ _ _ _ same inv.2 c.accepted_count-marks.ensures.0,
      omega arith,
    )

pub returns-then-count-marks-clause-refusal : goal.returns-then-count-marks-clause-refusal
returns-then-count-marks-clause-refusal c =
    let l = c.kept_count-w-end.ensures.0 in
    let inv = c.loop-w.invariant in
    let header = passed_test _ _ c.in_ok-state.ensures.refusal in
    rw (
      pass_tells _ _ _ _ _ _ (omega arith) c.read_header-h.ensures header inv.0 inv.2 inv.1,
      ← c.count_of-count.ensures.0,
      ne_eqb _ _ c.if-count-marks.true,
    )

pub returns-then-not-state_agrees-clause-refusal : goal.returns-then-not-state_agrees-clause-refusal
returns-then-not-state_agrees-clause-refusal c =
    let l = c.kept_count-w-end.ensures.0 in
    let inv = c.loop-w.invariant in
    let header = passed_test _ _ c.in_ok-state.ensures.refusal in
    rw (
      pass_tells _ _ _ _ _ _ (omega arith) c.read_header-h.ensures header inv.0 inv.2 inv.1,
      ← c.count_of-count.ensures.0,
      eq-eqb _ _ c.if-count-marks.false,
    )
    (elim c.match-state.branch [
      | in-Open w ↦ absurd (true≢false (sym w.state_agrees-is ∙ c.if-not-state_agrees.true))
      | in-Closed w ↦
          let closed : is_closed (state_of c.read_header-h.result) ≡ true = known_test _ _ _ w.in-Closed.is c.in_ok-state.ensures.state in
          rw (closed, sym w.state_agrees-is ∙ c.if-not-state_agrees.true)
    ])

pub returns-clause-refusal : goal.returns-clause-refusal
returns-clause-refusal c =
    let l = c.kept_count-w-end.ensures.0 in
    let inv = c.loop-w.invariant in
    let header = passed_test _ _ c.in_ok-state.ensures.refusal in
    rw (
      pass_tells _ _ _ _ _ _ (omega arith) c.read_header-h.ensures header inv.0 inv.2 inv.1,
      ← c.count_of-count.ensures.0,
      eq-eqb _ _ c.if-count-marks.false,
    )
    (elim c.match-state.branch [
      | in-Open w ↦
          let test : is_closed (state_of c.read_header-h.result) ≡ false = known_test _ _ _ w.in-Open.is c.in_ok-state.ensures.state in
          rw test
      | in-Closed w ↦
          let closed : is_closed (state_of c.read_header-h.result) ≡ true = known_test _ _ _ w.in-Closed.is c.in_ok-state.ensures.state in
          rw (closed, sym w.state_agrees-is ∙ c.if-not-state_agrees.false)
    ])

pub returns-clause-book : goal.returns-clause-book
returns-clause-book c =
    let l = c.kept_count-w-end.ensures.0 in
    let w : c.loop-w.w ≡ kept c.args.z.shape = omega arith in
    record {
      state = c.in_ok-state.ensures.state ∙ ap state_of c.read_header-h.ensures;
      count = c.count_of-count.ensures.0 ∙ ap count_of c.read_header-h.ensures;
      released = rw w at c.loop-w.invariant.1;
    }
