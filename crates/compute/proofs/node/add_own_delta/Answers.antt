-- `compute::node::add_own_delta` meets its contract. Assumes nothing.
use native.Mathlib.Omega.{arith}
use Rattle.layout.proofs.Bounds.{kept_le}
use Rattle.counts.proofs.Sizes.{product_fits}
use Rattle.parts.proofs.Parts.{kept_fits}
use Rattle.parts.proofs.News.{news_inside}
use Rattle.compute.proofs.OwnLaws.{own_code}
use Rattle.compute.proofs.node.add_own_delta.Goals as goal

pub overflow_mul-w : goal.overflow_mul-w
overflow_mul-w c = product_fits _ _ (omega (arith, kept_le _ c.args.z.in_ranges)) (omega arith)

pub add_delta-requires-clause-inside : goal.add_delta-requires-clause-inside
add_delta-requires-clause-inside c =
    let long = c.requires.own_len in
    let inside = news_inside _ c.args.z.in_ranges _ long.1 _ c.new_offsets-at.ensures c.args.own.now long.0 in
    record { count = omega arith; fits = λ t h. inside.fits t (omega arith) }

pub add_delta-requires-clause-b_in_bounds : goal.add_delta-requires-clause-b_in_bounds
add_delta-requires-clause-b_in_bounds c =
    let long = c.requires.own_len in
    (kept_fits _ _ _ long.1 long.0, omega arith, omega arith, omega arith)

pub returns : goal.returns
returns c =
    let long = c.requires.own_len in
    own_code _ c.args.z.in_ranges _ long.1 _ c.new_offsets-at.ensures _ long.0 c.add_delta.ensures
