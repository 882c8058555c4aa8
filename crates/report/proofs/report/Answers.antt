-- `report::report` meets its contract. Assumes nothing.
use native.Mathlib.Omega.{arith}
use Rattle.report.proofs.Reports.{large_first, large_second, large_third, another_line, answered, refused_other, written_line}
use Rattle.report.proofs.Reports.{written_other}
use Rattle.report.proofs.report.Goals.{else-n-lt1000-via-then-n-lt1000+then-k-lt1000+then-s-lt1000+else-is_text}
use Rattle.report.proofs.report.Goals.{else-n-lt1000-via-then-n-lt1000+then-k-lt1000+else-s-lt1000}
use Rattle.report.proofs.report.Goals.{else-n-lt1000-via-then-n-lt1000+else-k-lt1000, else-n-lt1000-via-else-n-lt1000}
use Rattle.report.proofs.report.Goals as goal

pub returns-then-is_text : goal.returns-then-is_text
returns-then-is_text c =
    let same = c.is_text.ensures.same c.if-is_text.true in
    let text = written_line _ _ _ _ c.empty.ensures.0 c.push_line.ensures.0 same in
    answered _ _ _ _ (record { n_short = omega arith; k_short = omega arith; s_short = omega arith; text = text }) c.answer.ensures

pub returns-else-n-lt1000 : goal.returns-else-n-lt1000
returns-else-n-lt1000 c =
    let read = c.read_numbers-n.ensures in
    refused_other c.args.input.now (elim c.else-n-lt1000.branch [
      | else-n-lt1000-via-then-n-lt1000+then-k-lt1000+then-s-lt1000+else-is_text w ↦
          let other = w.is_text.ensures.differ w.if-is_text.false in
          another_line _ _ read (written_other _ _ _ _ w.empty.ensures.0 w.push_line.ensures.0 other)
      | else-n-lt1000-via-then-n-lt1000+then-k-lt1000+else-s-lt1000 w ↦ large_third _ _ read w.if-s-lt1000.false
      | else-n-lt1000-via-then-n-lt1000+else-k-lt1000 w ↦ large_second _ _ read w.if-k-lt1000.false
      | else-n-lt1000-via-else-n-lt1000 w ↦ large_first _ _ read w.if-n-lt1000.false
    ]) c.refused.ensures
