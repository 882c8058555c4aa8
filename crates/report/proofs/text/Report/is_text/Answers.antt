-- `report::text::Report::is_text` meets its contract. Assumes nothing.
use mathlib.Core.Path.{◌∙◌}
use native.Mathlib.Omega.{arith}
use borrow.Author.Tests.{ne_eqb}
use lib.Seq.{length-take-le}
use Rattle.report.specs.Writing.{written}
use Rattle.report.proofs.Compare.{starts_compares, lengths_differ}
use Rattle.report.proofs.text.Report.is_text.Goals as goal

pub returns-then-input-self : goal.returns-then-input-self
unfolding written
returns-then-input-self c =
    let text = length-take-le c.args.self.now.length c.args.self.now.text (omega (arith, c.requires.whole, c.requires.fits)) in
    starts_compares _ _ _ (omega (arith, text, c.if-input-self.true)) c.starts_with.ensures.value

pub returns-else-input-self : goal.returns-else-input-self
unfolding written
returns-else-input-self c =
    let text = length-take-le c.args.self.now.length c.args.self.now.text (omega (arith, c.requires.whole, c.requires.fits)) in
    rw (ne_eqb _ _ c.if-input-self.false) (lengths_differ _ _ (λ e. c.if-input-self.false (e ∙ text)))
