-- `powers::scaling::doublings` meets its contract. Before each turn `power` is the power e of 2. Assumes nothing.
use Rattle.std.proofs.Common.{◌≡◌}
use Rattle.gf256.specs.Field.{pow}
use Rattle.powers.proofs.scaling.doublings.Given as goal

abbrev pub invariant-loop-e : goal.invariant-loop-e
invariant-loop-e l = l.power ≡ pow 2 l.e
