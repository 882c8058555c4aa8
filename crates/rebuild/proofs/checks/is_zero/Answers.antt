-- `rebuild::checks::is_zero` meets its contract. What is collected before a byte is 0 exactly if the bytes before it are. Assumes nothing.
use native.Mathlib.Omega.{arith}
use Rattle.rebuild.proofs.ZeroLaws.{gathered_none, gathered_more, zero_told}
use Rattle.rebuild.proofs.checks.is_zero.Goals as goal

pub loop-byte-init : goal.loop-byte-init
loop-byte-init c = gathered_none _

pub loop-byte-preserved : goal.loop-byte-preserved
loop-byte-preserved c = gathered_more _ _ _ c.loop-byte.invariant

pub returns : goal.returns
returns c = zero_told _ _ _ c.loop-byte.invariant (omega arith)
