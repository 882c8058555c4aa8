-- `powers::horner::horner` meets its contract. Before each turn the columns from c on are added up. Assumes nothing.
use mathlib.Core.Path.{refl, ap, ◌∙◌}
use Prim.Native.Nat.{◌-◌}
use native.Mathlib.Omega.{arith}
use lib.ListN.{length}
use Rattle.base.proofs.Tables.{length_table}
use Rattle.powers.proofs.Laws.{horner_first, horner_turn, horner_end, length_power_bytes}
use Rattle.powers.proofs.horner.horner.Goals as goal

pub loop-c-init : goal.loop-c-init
loop-c-init g c = (
  refl,
  horner_first g.row.M _ _ _ (omega (arith, g.M.fits)) (λ k. omega (arith, c.type_inv.src k)) _ _ _ (omega (
    arith,
    c.requires.some,
  )) c.set_one.ensures,
)

pub loop-c-preserved : goal.loop-c-preserved
loop-c-preserved g c =
    let loop = c.loop-c in
    let e =
    horner_turn g.row.M _ _ _ (omega (arith, g.M.fits)) (λ k. omega (arith, c.type_inv.src k)) _ _ loop.c (loop.c - 1) (omega arith)
    (omega arith) loop.invariant.1
    c.step.ensures in
    (ap length e ∙ length_power_bytes _ _ _ _ _ _ _, e)

pub returns : goal.returns
returns g c =
    let loop = c.loop-c in
    horner_end _ _ _ _ _ _ _ loop.c (omega arith) (ap length c.set_one.ensures ∙ length_table _ _) loop.invariant.1
