-- `report::numbers::read_numbers` meets its contract. What is left of the text, read from the numbers so far, gives the
-- numbers of the whole. Assumes nothing.
use mathlib.Core.Path.{sym, ◌∙◌}
use native.Mathlib.Omega.{arith}
use Rattle.report.proofs.Reading.{read_none, read_more, read_all}
use Rattle.report.proofs.numbers.read_numbers.Goals as goal

pub loop-c-init : goal.loop-c-init
loop-c-init c = read_none _

pub loop-c-preserved : goal.loop-c-preserved
loop-c-preserved c =
    let l = c.loop-c in
    l.invariant ∙ read_more c.args.text.now l.numbers l.c-index (omega arith) ∙ rw c.after_byte-numbers.ensures

pub returns : goal.returns
returns c = sym (c.loop-c.invariant ∙ read_all _ _ c.loop-c.c-index (omega arith))
