-- `deliver::node::deliver_own` meets its contract. Assumes nothing.
use borrow.Author.Tests.{lt-ltb, le-ltb}
use Rattle.area.specs.Area.{slot, put_slot}
use Rattle.growth.specs.Deliver.{received}
use Rattle.deliver.specs.Own.{own_delivered}
use Rattle.deliver.proofs.node.deliver_own.Goals as goal

pub returns-then-e-n : goal.returns-then-e-n
unfolding slot put_slot received own_delivered
returns-then-e-n c = rw (lt-ltb _ _ c.if-e-n.true) c.add.ensures

pub returns-else-e-n : goal.returns-else-e-n
unfolding slot put_slot received own_delivered
returns-else-e-n c = rw (le-ltb _ _ c.if-e-n.false) c.copy.ensures
