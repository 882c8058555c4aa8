-- What is claimed of deliver at its node. Assumes nothing.
use Rattle.layout.specs.declared.Shape.{Shape}
use Rattle.layout.specs.Ranges.{InRanges}
use Rattle.lent.proofs.StoreLaws.{store_passes}
use Rattle.deliver.specs.Claims.{NodeClaims}
use Rattle.deliver.proofs.Outcomes as Outcomes
use Rattle.deliver.proofs.OwnBits.{own_bits}

pub node_holds : (z : Shape) → InRanges z → NodeClaims z
node_holds z ok = record {
  handed_on =
      λ area journal node message space a j there. Outcomes.handed_on z area journal node message space (store_passes z _ _ ok a j) there;
  own_word = Outcomes.other_word z;
  own_bit = own_bits z ok;
}
