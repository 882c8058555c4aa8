-- `report::text::Report::push_line` meets its contract. Assumes nothing.
use native.Mathlib.Omega.{arith}
use Rattle.report.specs.Text.{line}
use Rattle.report.proofs.Decimal.{line_short}
use Rattle.report.proofs.Writing.{appends_both}
use Rattle.report.proofs.text.Report.push_line.Goals as goal

pub push_number-requires : goal.push_number-requires
push_number-requires c =
    let short = line_short c.args.n c.args.k c.args.s c.requires.n_bound in record { whole = c.requires.room.whole; fits = omega arith }

pub push-first-requires : goal.push-first-requires
push-first-requires c =
    let args = c.args in
    let pre = c.requires in
    let short = line_short args.n args.k args.s pre.n_bound in record { whole = c.push_number.ensures.whole; fits = omega arith }

pub push_number-requires-2 : goal.push_number-requires-2
push_number-requires-2 c =
    let args = c.args in
    let pre = c.requires in
    let short = line_short args.n args.k args.s pre.n_bound in record { whole = c.push-first.ensures.whole; fits = omega arith }

pub push-second-requires : goal.push-second-requires
push-second-requires c =
    let args = c.args in
    let pre = c.requires in
    let short = line_short args.n args.k args.s pre.n_bound in record { whole = c.push_number-2.ensures.whole; fits = omega arith }

pub push_number-requires-3 : goal.push_number-requires-3
push_number-requires-3 c =
    let args = c.args in
    let pre = c.requires in
    let short = line_short args.n args.k args.s pre.n_bound in record { whole = c.push-second.ensures.whole; fits = omega arith }

pub push-requires : goal.push-requires
push-requires c =
    let args = c.args in
    let pre = c.requires in
    let short = line_short args.n args.k args.s pre.n_bound in record { whole = c.push_number-3.ensures.whole; fits = omega arith }

pub returns : goal.returns
unfolding line
returns c =
    let args = c.args in
    let pre = c.requires in
    let push-number = c.push_number in
    let push = c.push-first in
    let push-number2 = c.push_number-2 in
    let push2 = c.push-second in
    let push-number3 = c.push_number-3 in
    let short = line_short args.n args.k args.s pre.n_bound in (
      appends_both (appends_both (appends_both (appends_both (appends_both push-number.ensures push.ensures) push-number2.ensures)
          push2.ensures) push-number3.ensures) c.push.ensures,
      omega arith,
    )
