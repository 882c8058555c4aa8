-- `powers::horner::horner` meets its contract. Before each turn the columns from c on are added up. Assumes nothing.
use mathlib.Core.Path.{◌≡◌}
use lib.ListN.{length}
use Rattle.powers.specs.Powers.{power_bytes}
use Rattle.powers.proofs.horner.horner.Given as goal

abbrev pub invariant-loop-c : goal.invariant-loop-c
invariant-loop-c g l = (length l.sum ≡ length l.initial.sum)
    × (l.sum ≡ power_bytes g.row.M l.at l.src l.n l.c l.x (length l.initial.sum))
