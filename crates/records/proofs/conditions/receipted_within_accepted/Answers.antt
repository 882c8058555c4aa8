-- `records::conditions::receipted_within_accepted` meets its contract. Assumes nothing.
use Rattle.records.proofs.WordTests.{within_test}
use Rattle.records.proofs.conditions.receipted_within_accepted.Goals as goal

pub returns : goal.returns
returns c = within_test _ c.args.z.in_ranges c.args.r c.requires.progress_value
