-- `combine::store_powers` meets its contract. Assumes nothing.
use mathlib.Core.Path.{ap, ◌∙◌}
use native.Mathlib.Omega.{arith}
use Rattle.area.specs.Area.{put}
use Rattle.combine.proofs.PowerLaws.{powers_alone}
use Rattle.combine.proofs.store_powers.Goals as goal

pub returns : goal.returns
returns c =
    let pre = c.requires in
    let slice-known = c.slice_known-1 in
    c.within.ensures
    ∙ ap (put _ _) (powers_alone _ _ _ _ _ pre.multiplier pre.b_in_bounds.1 (λ k. omega (arith, slice-known.given k)))
