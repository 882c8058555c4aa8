-- `lent::reading::word_or_zero` meets its contract. Assumes nothing.
use mathlib.Core.Path.{sym}
use native.Mathlib.Omega.{arith}
use lib.ListN.{get_or-eq_default}
use Rattle.lent.proofs.reading.word_or_zero.Goals as goal

pub returns-else-at-journal : goal.returns-else-at-journal
returns-else-at-journal c = sym (get_or-eq_default c.args.journal.now 0 {n = c.args.at} (omega arith))
