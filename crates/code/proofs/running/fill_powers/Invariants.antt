-- `code::running::fill_powers` meets its contract. Before turn c the columns below c have their powers, and the running value is that of c.
-- Assumes nothing.
use Rattle.code.proofs.RunningPowers.{UpTo}
use Rattle.code.proofs.running.fill_powers.Given as goal

abbrev pub invariant-loop-c : goal.invariant-loop-c
invariant-loop-c l = UpTo l.m l.c l.power l.q
