-- `cells::column_offsets` meets its contract. Before turn d the first d offsets are there, and v is the node of column d. Assumes nothing.
use mathlib.Core.Path.{ap, ◌∙◌}
use Prim.Native.Nat.{ℕ, ◌*◌}
use native.Mathlib.Omega.{arith}
use lib.ListN.{length-set}
use Rattle.layout.specs.Addresses.{address}
use Rattle.layout.proofs.Bounds.{stripes_le}
use Rattle.layout.proofs.NodeLaws.{data_node_lt}
use Rattle.base.proofs.Tables.{entry_more}
use Rattle.cells.proofs.ColumnLaws.{next_column}
use Rattle.cells.proofs.column_offsets.Goals as goal

pub data_node-v-requires-clause-g_bound : goal.data_node-v-requires-clause-g_bound
data_node-v-requires-clause-g_bound c = omega (arith, stripes_le _ c.args.z.in_ranges)

pub cell_offset-requires : goal.cell_offset-requires
cell_offset-requires c =
    let below = data_node_lt _ c.args.z.in_ranges c.args.g c.loop-d.d in
    record { g_bound = (c.requires.g_bound, rw c.loop-d.invariant.1 below) }

pub next_node-v-requires : goal.next_node-v-requires
next_node-v-requires c =
    let below = data_node_lt _ c.args.z.in_ranges c.args.g c.loop-d.d in
    record { v_lt_n = rw c.loop-d.invariant.1 below }

pub loop-d-preserved : goal.loop-d-preserved
loop-d-preserved c =
    let z = c.args.z.shape in
    let g = c.args.g in
    let loop = c.loop-d in
    let here = c.cell_offset.ensures ∙ ap (λ (x : ℕ). address z x g * z.b) loop.invariant.1 in (
      simp length-set (omega arith),
      next_column z g loop.d loop.invariant.1 c.next_node-v.ensures,
      entry_more _ _ loop.at loop.invariant.2 (omega arith) here,
    )

pub returns : goal.returns
returns c = record { size = c.loop-d.invariant.0; each = λ d l. c.loop-d.invariant.2 d (omega arith) }
