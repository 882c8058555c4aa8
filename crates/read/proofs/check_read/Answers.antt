-- `read::check_read` meets its contract. Assumes nothing.
use mathlib.Core.Path.{sym, ap, ◌∙◌}
use Rattle.answer.specs.Numbers.{refusal_number}
use Rattle.answer.proofs.Exits.{passed}
use Rattle.read.proofs.InParts.{stops_first, header_stops, range_stops, word_stops, nothing_stops}
use Rattle.read.proofs.check_read.Goals as goal

pub returns-in_err-layout-clause-refusal : goal.returns-in_err-layout-clause-refusal
returns-in_err-layout-clause-refusal c =
    ap refusal_number (passed _ _ c.from_residual.ensures.1) ∙ stops_first _ _ c.args.journal.now _ _ _ c.in_err-layout.ensures.refusal

pub returns-in_err-check_header-clause-refusal : goal.returns-in_err-check_header-clause-refusal
returns-in_err-check_header-clause-refusal c =
    let layout = c.in_ok-layout.ensures in
    let damaged = rw (layout.layout, c.header_in.ensures) at c.in_err-check_header.ensures.refusal in
    ap refusal_number (passed _ _ c.from_residual-in_err-check_header.ensures.1)
    ∙ header_stops _ _ c.args.journal.now _ _ layout.refusal _ damaged

pub returns-then-not-block_there-clause-refusal : goal.returns-then-not-block_there-clause-refusal
returns-then-not-block_there-clause-refusal c =
    let layout = c.in_ok-layout.ensures in
    let header = rw (layout.layout, c.header_in.ensures) at c.in_ok-check_header.ensures.refusal in
    let there = rw layout.layout at (sym c.block_there.ensures ∙ c.if-not-block_there.true) in
    range_stops _ _ c.args.journal.now _ _ layout.refusal header there

pub returns-then-not-word_ok-clause-refusal : goal.returns-then-not-word_ok-clause-refusal
returns-then-not-word_ok-clause-refusal c =
    let layout = c.in_ok-layout.ensures in
    let header = rw (layout.layout, c.header_in.ensures) at c.in_ok-check_header.ensures.refusal in
    let there = rw layout.layout at (sym c.block_there.ensures ∙ c.if-not-block_there.false) in
    let word = rw layout.layout at (sym c.word_ok.ensures ∙ c.if-not-word_ok.true) in
    word_stops _ _ c.args.journal.now _ _ layout.refusal header there word

pub returns-clause-refusal : goal.returns-clause-refusal
returns-clause-refusal c =
    let layout = c.in_ok-layout.ensures in
    let header = rw (layout.layout, c.header_in.ensures) at c.in_ok-check_header.ensures.refusal in
    let there = rw layout.layout at (sym c.block_there.ensures ∙ c.if-not-block_there.false) in
    let word = rw layout.layout at (sym c.word_ok.ensures ∙ c.if-not-word_ok.false) in
    nothing_stops _ _ c.args.journal.now _ _ layout.refusal header there word
