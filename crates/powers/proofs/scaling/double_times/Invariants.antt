-- `powers::scaling::double_times` meets its contract. Before each turn the block is doubled so often. Assumes nothing.
use mathlib.Core.Path.{◌≡◌}
use lib.ListN.{length}
use Rattle.gf256.specs.Field.{pow}
use Rattle.passes.specs.Passes.{scaled}
use Rattle.powers.proofs.scaling.double_times.Given as goal

abbrev pub invariant-loop : goal.invariant-loop
invariant-loop l = (length l.out ≡ length l.initial.out) × (l.out ≡ scaled (pow 2 l.counter) l.initial.out)
