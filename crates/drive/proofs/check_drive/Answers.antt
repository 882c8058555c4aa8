-- `drive::check_drive` meets its contract. Assumes nothing.
use mathlib.Core.Path.{sym, ap, ◌∙◌}
use native.Mathlib.Omega.{arith}
use Rattle.answer.specs.Numbers.{refusal_number}
use Rattle.answer.proofs.Exits.{passed, number_some}
use Rattle.lent.proofs.StoreLaws.{store_lent}
use Rattle.drive.proofs.InParts.{shape_stops, space_stops, whole_decides}
use Rattle.drive.proofs.check_drive.Goals as goal

pub returns-in_err-layout-clause-refusal : goal.returns-in_err-layout-clause-refusal
returns-in_err-layout-clause-refusal c =
    ap refusal_number (passed _ _ c.from_residual.ensures.1)
    ∙ shape_stops c.args.z _ c.args.journal.now _ c.in_err-layout.ensures.refusal (number_some _)

pub overflow_add-z : goal.overflow_add-z
overflow_add-z c = let s = store_lent c.args.z _ _ (sym c.in_ok-layout.ensures.refusal) in let b = s.ok.few_bytes in omega arith

pub returns-then-space_bytes-z-clause-refusal : goal.returns-then-space_bytes-z-clause-refusal
returns-then-space_bytes-z-clause-refusal c =
    space_stops c.args.z _ c.args.journal.now _ (sym c.in_ok-layout.ensures.refusal) c.if-space_bytes-z.true

pub check_whole-requires : goal.check_whole-requires
check_whole-requires c =
    rw c.in_ok-layout.ensures.layout (store_lent c.args.z _ _ (sym c.in_ok-layout.ensures.refusal)).journal_long

pub returns-in_err-check_whole-clause-refusal : goal.returns-in_err-check_whole-clause-refusal
returns-in_err-check_whole-clause-refusal c =
    ap refusal_number (passed _ _ c.from_residual-in_err-check_whole.ensures.1) ∙ (rw c.in_ok-layout.ensures.layout at
    c.in_err-check_whole.ensures.refusal)
    ∙ whole_decides c.args.z _ c.args.journal.now _ (sym c.in_ok-layout.ensures.refusal) c.if-space_bytes-z.false

pub returns-clause-refusal : goal.returns-clause-refusal
returns-clause-refusal c =
    (rw c.in_ok-layout.ensures.layout at c.in_ok-check_whole.ensures.refusal)
    ∙ whole_decides c.args.z _ c.args.journal.now _ (sym c.in_ok-layout.ensures.refusal) c.if-space_bytes-z.false
