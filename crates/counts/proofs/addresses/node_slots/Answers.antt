-- `counts::addresses::node_slots` meets its contract. Assumes nothing.
use mathlib.Core.Path.{sym, ◌∙◌}
use native.Mathlib.Omega.{arith}
use Rattle.layout.proofs.AddressLaws.{slots_old, slots_new}
use Rattle.counts.proofs.addresses.node_slots.Goals as goal

pub returns-then-v-z : goal.returns-then-v-z
returns-then-v-z c =
    let args = c.args in
    let if1 = c.if-v-z in
    (c.stripe_count.ensures.0 ∙ sym (slots_old args.z.shape args.v if1.true), c.stripe_count.ensures.1)

pub returns-else-v-z : goal.returns-else-v-z
returns-else-v-z c =
    let args = c.args in
    let if1 = c.if-v-z in
    (c.kept_count.ensures.0 ∙ sym (slots_new args.z.shape args.v if1.false), omega arith)
