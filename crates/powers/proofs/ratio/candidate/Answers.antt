-- `powers::ratio::candidate` meets its contract. Assumes nothing.
use Rattle.powers.proofs.RatioLaws.{listed}
use Rattle.powers.proofs.ratio.candidate.Goals as goal

pub returns-then-q-times : goal.returns-then-q-times
returns-then-q-times c = listed c.loop-m.m-index c.loop-m-test.true

pub times-requires : goal.times-requires
times-requires c = listed c.loop-m.m-index c.loop-m-test.true
