-- `counts::straight_stripes` meets its contract. Assumes nothing.
use mathlib.Core.Path.{refl}
use native.Mathlib.Omega.{arith}
use Rattle.layout.specs.Counts.{straight_stripes}
use Rattle.layout.proofs.Bounds.{kept_le}
use Rattle.layout.proofs.Evenness.{straight_le}
use Rattle.counts.proofs.straight_stripes.Goals as goal

pub returns : goal.returns
unfolding straight_stripes
returns c =
    let pre = c.args.z.in_ranges in
    (refl, let h = straight_le _ (pre) in let k = kept_le _ (pre) in omega arith)
