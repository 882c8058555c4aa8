-- `records::conditions::accepted_count` meets its contract. Assumes nothing.
use Prim.Native.Nat.{◌%◌}
use native.Mathlib.Omega.{arith}
use lib.Count.{ones-le}
use Rattle.records.proofs.WordTests.{accepted_ones}
use Rattle.records.proofs.conditions.accepted_count.Goals as goal

pub returns : goal.returns
returns c =
    let r = c.args.r in
    (accepted_ones _ c.args.z.in_ranges r c.requires.accepted_value, ones-le 28 (r.accepted % 268435456) (omega arith))
