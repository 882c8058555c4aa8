-- `lent::check_whole` meets its contract. Assumes nothing.
use mathlib.Core.Path.{refl}
use Rattle.answer.proofs.Exits.{passed, tested_false, passed_test}
use Rattle.journal.specs.Whole.{whole_ok}
use Rattle.journal.proofs.StateLaws.{acts, refuses}
use Rattle.lent.specs.Checks.{whole_refusal}
use Rattle.lent.proofs.check_whole.Goals as goal

pub returns-in-Err-clause-refusal : goal.returns-in-Err-clause-refusal
unfolding whole_refusal
returns-in-Err-clause-refusal c =
    let failed = tested_false c.in-Err.field-0 (whole_ok c.args.z.shape c.args.journal.now) 4 c.in-Err.ensures.refusal in
    rw failed.0 refl

pub returns-in_err-check_open-clause-refusal : goal.returns-in_err-check_open-clause-refusal
unfolding whole_refusal
returns-in_err-check_open-clause-refusal c =
    let found = c.in-Ok.ensures.book in
    let failed = refuses _ _ _ found.state c.in_err-check_open.ensures in
    rw (passed _ _ c.from_residual.ensures.1, passed_test _ _ c.in-Ok.ensures.refusal, failed.0) failed.1

pub returns-clause-refusal : goal.returns-clause-refusal
unfolding whole_refusal
returns-clause-refusal c =
    let found = c.in-Ok.ensures.book in
    rw (passed_test _ _ c.in-Ok.ensures.refusal, acts _ _ found.state c.in_ok-check_open.ensures)
