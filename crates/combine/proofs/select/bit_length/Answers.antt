-- `combine::select::bit_length` meets its contract. Assumes nothing.
use Rattle.std.proofs.Common.{◌≡◌, ◌-◌, arith}
use Rattle.std.specs.Int.Count.{count_leading_zeros}
use Rattle.std.proofs.lemmas.Nat.{leading_length}
use Rattle.combine.proofs.select.bit_length.Goals as goal

pub returns : goal.returns
returns c =
    let known = leading_length 8 c.args.a (omega arith) in
    let bits : 8 - count_leading_zeros 8 c.args.a ≡ known.0 = omega (arith, known.1) in
    (omega arith, rw bits known.2)
