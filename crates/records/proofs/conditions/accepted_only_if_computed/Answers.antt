-- `records::conditions::accepted_only_if_computed` meets its contract. Assumes nothing.
use borrow.Author.Tests.{eq-eqb, ne_eqb}
use Rattle.records.specs.Records.{is_computed}
use Rattle.records.proofs.WordTests.{computed_test}
use Rattle.records.proofs.conditions.accepted_only_if_computed.Goals as goal

pub returns-then-accepted-eq0 : goal.returns-then-accepted-eq0
returns-then-accepted-eq0 c =
    let r = c.args.r in
    rw (← computed_test _ c.args.z.in_ranges r c.requires.accepted_value (is_computed r), eq-eqb _ _ c.if-accepted-eq0.true)

pub returns-else-accepted-eq0 : goal.returns-else-accepted-eq0
returns-else-accepted-eq0 c =
    let r = c.args.r in
    let e = ne_eqb _ _ c.if-accepted-eq0.false in
    rw (← computed_test _ c.args.z.in_ranges r c.requires.accepted_value (is_computed r), e) c.is_computed.ensures
