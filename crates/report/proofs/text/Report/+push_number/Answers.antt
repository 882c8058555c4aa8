-- `report::text::Report::push_number` meets its contract: the digits of m / 10 and then the last. Assumes nothing.
use mathlib.Core.Path.{ap}
use native.Mathlib.Omega.{arith}
use lib.ListN.{length}
use Rattle.report.proofs.Decimal.{decimal_one, length_more}
use Rattle.report.proofs.Writing.{appends_digit, appends_digits}
use Rattle.report.proofs.text.Report.+push_number.Goals as goal

pub push-requires : goal.push-requires
push-requires t c =
    record { whole = c.requires.whole; fits = let h = ap length (decimal_one c.args.m (omega arith)) in omega arith }

pub returns-then-m-lt10 : goal.returns-then-m-lt10
returns-then-m-lt10 t c = appends_digit c.args.m c.if-m-lt10.true c.push.ensures

pub push_number-requires : goal.push_number-requires
push_number-requires t c =
    let h = length_more c.args.m (omega arith) in
    (omega arith, record { whole = c.requires.whole; fits = omega arith })

pub push-requires-else-m-lt10 : goal.push-requires-else-m-lt10
push-requires-else-m-lt10 t c =
    let h = length_more c.args.m (omega arith) in
    record { whole = c.push_number.ensures.whole; fits = omega arith }

pub returns-else-m-lt10 : goal.returns-else-m-lt10
returns-else-m-lt10 t c = appends_digits c.args.m c.if-m-lt10.false c.push_number.ensures c.push-else-m-lt10.ensures
