-- A shape that nothing refuses is one in its ranges, and the other way round. Assumes nothing.
use mathlib.Core.Path.{◌≡◌}
use mathlib.Core.Bool.{not}
use mathlib.Core.List.{[], ◌∷◌}
use Prim.Native.Nat.{◌+◌, ◌-◌, ◌*◌}
use lib.Dec.{leb, ltb}
use borrow.Author.Tests.{leb-true, ltb-true, le-leb, lt-ltb, not-false}
use Rattle.base.specs.Refusals.{refuse}
use Rattle.base.proofs.Refusals.{first_zero}
use Rattle.base.proofs.Tests.{all_true}
use Rattle.layout.specs.declared.Shape.{Shape}
use Rattle.layout.specs.Ranges.{rows, within_ranges, shape_refusal, InRanges}

pub in_ranges : (z : Shape) → shape_refusal z ≡ 0 → InRanges z
unfolding shape_refusal
in_ranges z e =
    let p = first_zero (refuse (not (within_ranges z)) 1 ∷ refuse (not (leb (z.s * (rows z - 1)) z.n)) 2 ∷ []) (tt, (tt, tt)) e in
    let ranges =
    leb 1 z.k ∷ ltb z.k z.n ∷ leb 1 z.s ∷ leb (z.n + z.s) 20 ∷ leb (rows z) 4 ∷ leb 1 z.b ∷ leb z.b 4096 ∷ [] in
    let q = all_true ranges (not-false (within_ranges z) p.0) in
    record {
      some_data = leb-true 1 z.k q.0;
      some_rows = ltb-true z.k z.n q.1.0;
      some_new = leb-true 1 z.s q.1.1.0;
      few_nodes = leb-true (z.n + z.s) 20 q.1.1.1.0;
      few_rows = leb-true (rows z) 4 q.1.1.1.1.0;
      some_bytes = leb-true 1 z.b q.1.1.1.1.1.0;
      few_bytes = leb-true z.b 4096 q.1.1.1.1.1.1.0;
      fits = leb-true (z.s * (rows z - 1)) z.n (not-false (leb (z.s * (rows z - 1)) z.n) p.1.0);
    }

pub accepted : (z : Shape) → InRanges z → shape_refusal z ≡ 0
unfolding shape_refusal
accepted z ok =
    rw (
      le-leb 1 z.k ok.some_data,
      lt-ltb z.k z.n ok.some_rows,
      le-leb 1 z.s ok.some_new,
      le-leb (z.n + z.s) 20 ok.few_nodes,
      le-leb (rows z) 4 ok.few_rows,
      le-leb 1 z.b ok.some_bytes,
      le-leb z.b 4096 ok.few_bytes,
      le-leb (z.s * (rows z - 1)) z.n ok.fits,
    )
