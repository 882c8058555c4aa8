-- `code::multipliers` meets its contract. Before turn j the first j are recognised. Assumes nothing.
use native.Mathlib.Omega.{arith}
use lib.ListN.{length-set}
use Rattle.code.proofs.Recognising.{recognised, recognised_more}
use Rattle.code.proofs.RunningPowers.{running_filled}
use Rattle.code.proofs.multipliers.Goals as goal

pub loop-j-preserved : goal.loop-j-preserved
loop-j-preserved c =
    let loop = c.loop-j in
    let multiplier = recognised _ _ _ _ (running_filled _ _ _ c.fill_powers.ensures) c.ratio.ensures in
    (simp length-set (omega arith), recognised_more _ _ _ loop.m loop.invariant.1 (omega arith) multiplier)
