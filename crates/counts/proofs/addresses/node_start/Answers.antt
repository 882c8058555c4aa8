-- `counts::addresses::node_start` meets its contract. Assumes nothing.
use Rattle.counts.proofs.Starts.{old_code, new_code, start_le}
use Rattle.counts.proofs.addresses.node_start.Goals as goal

pub returns-then-v-old : goal.returns-then-v-old
returns-then-v-old c =
    let args = c.args in
    let stripe-count = c.stripe_count-all in
    let pre = c.requires in (
      old_code args.z.shape args.v _ c.if-v-old.true stripe-count.ensures.0,
      rw (old_code args.z.shape args.v _ c.if-v-old.true stripe-count.ensures.0) (start_le _ c.args.z.in_ranges args.v pre.v_bound),
    )

pub returns-else-v-old : goal.returns-else-v-old
returns-else-v-old c =
    let args = c.args in
    let stripe-count = c.stripe_count-all in
    let kept-count = c.kept_count-kept in
    let pre = c.requires in (
      new_code args.z.shape args.v _ _ c.if-v-old.false stripe-count.ensures.0 kept-count.ensures.0,
      rw (new_code args.z.shape args.v _ _ c.if-v-old.false stripe-count.ensures.0 kept-count.ensures.0)
          (start_le _ c.args.z.in_ranges args.v pre.v_bound),
    )
