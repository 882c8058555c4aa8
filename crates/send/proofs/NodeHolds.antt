-- What is claimed of send at its node. Assumes nothing.
use Rattle.layout.specs.declared.Shape.{Shape}
use Rattle.layout.specs.Ranges.{InRanges}
use Rattle.lent.proofs.StoreLaws.{store_passes}
use Rattle.send.specs.Claims.{NodeClaims}
use Rattle.send.proofs.Outcomes as Outcomes

pub node_holds : (z : Shape) → InRanges z → NodeClaims z
node_holds z ok = record {
  handed_on = λ area journal w e space a j. Outcomes.handed_on z area journal w e space (store_passes z _ _ ok a j);
  not_its_own_law = Outcomes.not_its_own_law z;
  refused_5 = Outcomes.refused_5 z;
  own_header = Outcomes.other_header z;
  own_word = Outcomes.other_word z;
}
