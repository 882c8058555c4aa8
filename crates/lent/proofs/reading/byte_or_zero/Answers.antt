-- `lent::reading::byte_or_zero` meets its contract. Assumes nothing.
use mathlib.Core.Path.{sym}
use native.Mathlib.Omega.{arith}
use lib.ListN.{get_or-eq_default}
use Rattle.lent.proofs.reading.byte_or_zero.Goals as goal

pub returns-else-at-bytes : goal.returns-else-at-bytes
returns-else-at-bytes c = (sym (get_or-eq_default c.args.bytes.now 0 c.if-at-bytes.false), omega arith)
