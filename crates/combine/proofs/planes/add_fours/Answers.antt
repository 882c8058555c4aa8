-- `combine::planes::add_fours` meets its contract. Before each turn the blocks below t are added. Assumes nothing.
use mathlib.Core.Path.{ap, ◌∙◌}
use Prim.Native.Nat.{◌+◌}
use native.Mathlib.Omega.{arith}
use lib.ListN.{length}
use borrow.Author.Rules.{rules}
use Rattle.passes.proofs.Laws.{length_plus}
use Rattle.combine.proofs.ColumnSums.{added_start, added_four}
use Rattle.combine.proofs.planes.add_fours.Goals as goal

pub loop-t-init : goal.loop-t-init
loop-t-init c = (search rules, search rules, search rules, added_start _ _ _ _)

pub add_four-requires : goal.add_four-requires
add_four-requires c =
    let pre = c.requires in
    let loop = c.loop-t in
    record {
      out_in_bounds = (omega (arith, pre.inside.fits loop.t (search rules)), omega (arith, pre.inside.fits (loop.t + 1) (search rules)));
      out_in_bounds_2 = (
        omega (arith, pre.inside.fits (loop.t + 2) (search rules)),
        omega (arith, pre.inside.fits (loop.t + 3) (search rules)),
      );
    }

pub loop-t-preserved : goal.loop-t-preserved
loop-t-preserved c =
    let add-four = c.add_four in
    let loop = c.loop-t in
    let e = add-four.ensures in
    (search rules, search rules, ap length e ∙ length_plus _ _ ∙ loop.invariant.2, added_four _ _ _ loop.t loop.invariant.3 e)

pub returns : goal.returns
returns c =
    let loop = c.loop-t in
    record { least = loop.invariant.0; most = loop.invariant.1; size = loop.invariant.2; added = loop.invariant.3 }
