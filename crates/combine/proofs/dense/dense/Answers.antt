-- `combine::dense::dense` meets its contract. Before each turn the planes from m up are added. Assumes nothing.
use mathlib.Core.Path.{refl, sym, ap, ◌∙◌}
use Prim.Native.Nat.{◌-◌}
use native.Mathlib.Omega.{arith}
use lib.ListN.{length}
use Rattle.base.proofs.Tables.{length_table}
use Rattle.area.proofs.Blocks.{put_whole, length_zeros}
use Rattle.combine.proofs.PlaneLaws.{below_bytes, combined_none, combined_start, planes_turn, planes_end}
use Rattle.combine.proofs.dense.dense.Goals as goal

pub returns-then-count-eq0 : goal.returns-then-count-eq0
returns-then-count-eq0 c =
    combined_none _ _ _ _ _ _ c.plane_count-count.ensures (λ k. omega (arith, c.type_inv.src k)) c.if-count-eq0.true
    (c.zero.ensures ∙ put_whole _ _ (sym (length_zeros _)))

pub loop-m-init : goal.loop-m-init
loop-m-init c = (
  refl,
  combined_start _ _ _ _ _ _ c.plane_count-count.ensures (λ k. omega (arith, c.type_inv.src k)) _ (omega arith) c.first_plane.ensures,
)

pub loop-m-preserved : goal.loop-m-preserved
loop-m-preserved c =
    let loop = c.loop-m in
    let e =
    planes_turn _ _ _ _ _ (below_bytes _ _ _ c.plane_count-count.ensures) (λ k. omega (arith, c.type_inv.src k)) loop.m
    (loop.m - 1) (omega arith) loop.invariant.1 refl c.next_plane.ensures in
    (ap length e ∙ length_table _ _, e)

pub returns : goal.returns
returns c =
    let loop = c.loop-m in
    planes_end _ _ _ _ _ loop.m (omega arith) loop.invariant.1 ∙ rw (ap length c.first_plane.ensures ∙ length_table _ _)
