-- `close::close` meets its contract. Assumes nothing.
use mathlib.Core.Path.{sym, ap, ◌∙◌}
use native.Mathlib.Omega.{arith}
use Rattle.answer.proofs.Exits.{passed}
use Rattle.layout.specs.Addresses.{area_length}
use Rattle.journal.specs.Journal.{header_of, journal_length}
use Rattle.growth.specs.Close.{cleared_area, closed_header}
use Rattle.close.proofs.Outcomes.{allowed, refuses, acts}
use Rattle.close.proofs.close.Goals as goal

pub returns-in_err-layout : goal.returns-in_err-layout
returns-in_err-layout c =
    rw (passed _ _ c.from_residual.ensures.1) (refuses _ c.args.area.now c.args.journal.now _ c.in_err-layout.ensures.refusal)

pub clear_dissolved-requires : goal.clear_dissolved-requires
clear_dissolved-requires c =
    let layout = c.in_ok-layout.ensures in
    record { area_len = (allowed _ c.args.area.now _ layout.refusal).area_long ∙ ap area_length (sym layout.layout) }

pub read_header-requires : goal.read_header-requires
unfolding journal_length
read_header-requires c = let a = allowed _ c.args.area.now _ c.in_ok-layout.ensures.refusal in omega arith

pub write_header-requires : goal.write_header-requires
unfolding journal_length
write_header-requires c = let a = allowed _ c.args.area.now _ c.in_ok-layout.ensures.refusal in omega arith

pub returns : goal.returns
returns c =
    let args = c.args in
    let layout = c.in_ok-layout.ensures in
    let cleared = c.clear_dissolved.ensures ∙ ap (λ z. cleared_area z args.area.now) layout.layout in
    let closed = c.closed_header.ensures ∙ ap (closed_header c.in_ok-layout.layout.shape) c.read_header.ensures
    ∙ ap (λ z. closed_header z (header_of args.journal.now)) layout.layout in
    acts _ args.area.now args.journal.now layout.refusal _ _ _ cleared closed c.write_header.ensures
