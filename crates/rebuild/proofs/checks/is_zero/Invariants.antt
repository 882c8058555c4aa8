-- `rebuild::checks::is_zero` meets its contract. What is collected before a byte is 0 exactly if the bytes before it are. Assumes nothing.
use Rattle.rebuild.proofs.ZeroLaws.{Gathered}
use Rattle.rebuild.proofs.checks.is_zero.Given as goal

abbrev pub invariant-loop-byte : goal.invariant-loop-byte
invariant-loop-byte l = Gathered l.x l.byte-index l.any
