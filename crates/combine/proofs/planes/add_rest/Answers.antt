-- `combine::planes::add_rest` meets its contract. Before each turn the blocks below t are added. Assumes nothing.
use mathlib.Core.Path.{refl, ap, ◌∙◌}
use Prim.Native.Nat.{◌+◌}
use native.Mathlib.Omega.{arith}
use lib.ListN.{length}
use borrow.Author.Rules.{rules}
use Rattle.passes.proofs.Laws.{length_plus}
use Rattle.combine.proofs.ColumnSums.{added_start, added_one, added_two, added_same, added_then}
use Rattle.combine.proofs.planes.add_rest.Goals as goal

pub add_fours-t-requires : goal.add_fours-t-requires
add_fours-t-requires c = record { inside = c.requires.inside; from_le_s = c.requires.from_le_s }

pub loop-t-init : goal.loop-t-init
loop-t-init c = (omega arith, c.add_fours-t.ensures.most, refl, added_start _ _ _ _)

pub add_two-requires : goal.add_two-requires
add_two-requires c =
    let add-fours = c.add_fours-t in
    let pre = c.requires in
    let loop = c.loop-t in (
      omega (arith, add-fours.ensures.size, pre.inside.fits loop.t (search rules)),
      omega (arith, add-fours.ensures.size, pre.inside.fits (loop.t + 1) (search rules)),
    )

pub loop-t-preserved : goal.loop-t-preserved
loop-t-preserved c =
    let add-two = c.add_two in
    let loop = c.loop-t in
    let e = add-two.ensures in
    (search rules, search rules, ap length e ∙ length_plus _ _ ∙ loop.invariant.2, added_two _ _ _ loop.t loop.invariant.3 e)

pub add_one-requires : goal.add_one-requires
add_one-requires c =
    let add-fours = c.add_fours-t in
    let pre = c.requires in
    let loop = c.loop-t in
    omega (arith, add-fours.ensures.size, pre.inside.fits loop.t (search rules))

pub returns-then-t-s : goal.returns-then-t-s
returns-then-t-s c =
    let add-fours = c.add_fours-t in
    let loop = c.loop-t in
    let add-one = c.add_one in
    added_then _ _ _ add-fours.result _ add-fours.ensures.added
    (added_one _ _ _ loop.t _ loop.invariant.3 add-one.ensures (search rules))

pub returns-else-t-s : goal.returns-else-t-s
returns-else-t-s c =
    let add-fours = c.add_fours-t in
    let loop = c.loop-t in
    added_then _ _ _ add-fours.result _ add-fours.ensures.added (added_same _ _ _ loop.t _ loop.invariant.3 (search rules))
