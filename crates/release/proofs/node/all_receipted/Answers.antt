-- `release::node::all_receipted` meets its contract. Assumes nothing.
use Rattle.release.proofs.Receipted.{all_bits}
use Rattle.release.proofs.node.all_receipted.Goals as goal

pub returns : goal.returns
returns c = rw (← all_bits c.args.z.shape c.args.z.in_ranges c.args.word c.requires.word_value, c.mark_room.ensures.0)
