-- `combine::select::plane_count` meets its contract. Before turn c no coefficient below c is above what is collected. Assumes nothing.
use native.Mathlib.Nat as N
use borrow.Author.Count.{below_more}
use lib.ListN.{get_or}
use Rattle.area.proofs.Compare.{or_left, or_right}
use Rattle.combine.proofs.select.plane_count.Goals as goal

pub loop-c-preserved : goal.loop-c-preserved
loop-c-preserved c =
    let loop = c.loop-c in
    let v = get_or c.args.q.now loop.c 0 in
    below_more _ _ (λ k h. N.le_trans (loop.invariant k h) (or_left loop.a v)) (or_right loop.a v)
