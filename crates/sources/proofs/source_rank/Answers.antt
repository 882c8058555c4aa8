-- `sources::source_rank` meets its contract. Assumes nothing.
use mathlib.Core.Path.{refl}
use native.Mathlib.Omega.{arith}
use Rattle.layout.specs.Sources.{source_rank}
use Rattle.layout.proofs.Bounds.{kept_le}
use Rattle.counts.proofs.Sizes.{quotient_le, product_fits, more_fits}
use Rattle.sources.proofs.SourceCode.{number_le}
use Rattle.sources.proofs.source_rank.Goals as goal

pub overflow_mul-result : goal.overflow_mul-result
overflow_mul-result c = product_fits _ _ (quotient_le _ _ _ (omega (arith, kept_le _ c.args.z.in_ranges))) (omega arith)

pub overflow_add-result : goal.overflow_add-result
overflow_add-result c = more_fits _ _ _ (quotient_le _ _ _ (omega (arith, kept_le _ c.args.z.in_ranges))) (omega arith) (omega arith)

pub returns : goal.returns
unfolding source_rank
returns c =
    let pre = c.requires in
    let args = c.args in
    (refl, number_le _ c.args.z.in_ranges args.w args.t pre.w_bound pre.t_lt_s)
