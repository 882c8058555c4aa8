-- `counts::stripe_count` meets its contract. Assumes nothing.
use Rattle.layout.specs.Counts.{stripes}
use Rattle.layout.proofs.Bounds.{stripes_le}
use Rattle.counts.proofs.stripe_count.Goals as goal

pub returns : goal.returns
unfolding stripes
returns c =
    let kept-count = c.kept_count in
    let pre = c.args.z.in_ranges in (
      rw (kept-count.ensures.0, c.dissolved_count.ensures.0),
      rw (kept-count.ensures.0, c.dissolved_count.ensures.0) (stripes_le _ (pre)),
    )
