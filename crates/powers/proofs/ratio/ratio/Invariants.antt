-- `powers::ratio::ratio` meets its contract. Before turn c the first c coefficients are powers. Assumes nothing.
use Rattle.std.proofs.Common.{◌≡◌, ℕ, ◌<◌, get_or}
use Rattle.gf256.specs.Field.{mul, pow}
use Rattle.powers.proofs.ratio.ratio.Given as goal

abbrev pub invariant-loop-c : goal.invariant-loop-c
invariant-loop-c l = (k : ℕ) → k < l.c → get_or l.q k 0 ≡ mul (get_or l.q 0 0) (pow l.m k)
