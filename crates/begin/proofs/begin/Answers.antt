-- `begin::begin` meets its contract. Assumes nothing.
use mathlib.Core.Path.{sym, ap, ◌∙◌}
use native.Mathlib.Omega.{arith}
use Rattle.answer.proofs.Exits.{passed}
use Rattle.layout.specs.Addresses.{area_length}
use Rattle.journal.specs.Fresh.{fresh_journal}
use Rattle.journal.specs.Journal.{journal_length}
use Rattle.growth.specs.Begin.{begun_area}
use Rattle.begin.proofs.Outcomes.{allowed, refuses, acts}
use Rattle.begin.proofs.begin.Goals as goal

pub returns-in_err-layout : goal.returns-in_err-layout
returns-in_err-layout c =
    rw (passed _ _ c.from_residual.ensures.1) (refuses _ c.args.area.now c.args.journal.now _ _ c.in_err-layout.ensures.refusal)

pub zero_new_nodes-requires : goal.zero_new_nodes-requires
zero_new_nodes-requires c =
    let layout = c.in_ok-layout.ensures in
    record { area_len = (allowed _ c.args.area.now c.args.journal.now _ layout.refusal).area_long ∙ ap area_length (sym layout.layout) }

pub write_fresh-requires : goal.write_fresh-requires
write_fresh-requires c =
    let layout = c.in_ok-layout.ensures in
    let a = allowed _ c.args.area.now c.args.journal.now _ layout.refusal in
    record { journal_len = a.journal_long ∙ ap journal_length (sym layout.layout); number_bound = omega arith }

pub returns : goal.returns
returns c =
    let layout = c.in_ok-layout.ensures in
    let zeroes = c.zero_new_nodes.ensures ∙ ap (λ z. begun_area z c.args.area.now) layout.layout in
    let writes = c.write_fresh.ensures ∙ ap (λ z. fresh_journal z c.args.number) layout.layout in
    acts _ c.args.area.now c.args.journal.now _ layout.refusal zeroes writes
