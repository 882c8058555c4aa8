-- `begin::zero_new_nodes` meets its contract. Before turn v the new nodes below v are zero. Assumes nothing.
use mathlib.Core.Path.{refl, ◌∙◌}
use native.Mathlib.Omega.{arith}
use Rattle.base.proofs.Runs.{range_start}
use Rattle.counts.proofs.Sizes.{product_fits}
use Rattle.begin.proofs.NewNodes.{node_fits, nodes_length, nodes_turn, nodes_end}
use Rattle.begin.proofs.zero_new_nodes.Goals as goal

pub overflow_mul-bytes : goal.overflow_mul-bytes
overflow_mul-bytes c = product_fits _ _ (omega arith) (omega arith)

pub loop-v-init : goal.loop-v-init
loop-v-init c = range_start _ _ _

pub zero-requires : goal.zero-requires
zero-requires c =
    let count = c.kept_count.ensures.0 in
    node_fits _ _ (omega arith) (nodes_length _ _ _ _ c.loop-v.invariant ∙ c.requires.area_len) c.node_start_byte.ensures.0 (omega arith)

pub loop-v-preserved : goal.loop-v-preserved
loop-v-preserved c =
    let count = c.kept_count.ensures.0 in
    let place = c.node_start_byte.ensures.0 in
    nodes_turn _ _ _ _ c.loop-v.invariant (omega arith) place count c.zero.ensures

pub shape_of-area : goal.shape_of-area
shape_of-area c = nodes_length _ _ _ _ c.loop-v.invariant

pub returns : goal.returns
returns c = nodes_end _ _ _ _ c.loop-v.invariant refl (omega arith)
