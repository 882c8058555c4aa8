-- `area::product::bit_times` meets its contract. Assumes nothing.
use Rattle.area.proofs.BitProduct.{times_none, times_some}
use Rattle.area.proofs.product.bit_times.Goals as goal

pub returns-then-bit-eq0 : goal.returns-then-bit-eq0
returns-then-bit-eq0 c = times_none _ _ c.if-bit-eq0.true

pub returns-else-bit-eq0 : goal.returns-else-bit-eq0
returns-else-bit-eq0 c = times_some _ _ c.if-bit-eq0.false
