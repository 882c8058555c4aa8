-- `rebuild::repair::Repair::vanishes` meets its contract. Assumes nothing.
use mathlib.Core.Path.{sym, ◌∙◌}
use native.Mathlib.Omega.{arith}
use Rattle.area.proofs.Lending.{length_part}
use Rattle.combine.proofs.PlaneLaws.{inside_same}
use Rattle.combine.proofs.OffsetLaws.{inside_consecutive}
use Rattle.rebuild.proofs.ZeroLaws.{empty_vanishes, vanish_told}
use Rattle.rebuild.proofs.repair.Repair.vanishes.Goals as goal

pub returns-then-is_zero : goal.returns-then-is_zero
returns-then-is_zero c =
    let is_zero = c.is_zero in
    let if1 = c.if-is_zero in
    empty_vanishes _ _ _ _ (λ a. omega (arith, c.type_inv.stripe a)) (sym if1.true ∙ is_zero.ensures)

pub slice_bounds-sum_is_zero-end : goal.slice_bounds-sum_is_zero-end
slice_bounds-sum_is_zero-end c = sym (length_part 256 _ c.small-sum.ensures (omega (arith, c.args.self.now.sizes)))

pub sum_is_zero-requires : goal.sum_is_zero-requires
sum_is_zero-requires c =
    let args = c.args in
    let pre = c.requires in
    let small = c.small-sum in
    inside_same _ _ _ _ _ (length_part 256 _ small.ensures (omega (arith, c.args.self.now.sizes)))
    (inside_consecutive _ args.self.now.n _ _ _ c.args.self.now.consecutive (omega (arith, c.args.self.now.sizes)) (omega (
      arith,
      c.args.self.now.sizes,
    )) (omega (arith, c.args.self.now.sizes)))

pub returns-then-self-le256 : goal.returns-then-self-le256
returns-then-self-le256 c =
    let pre = c.requires in
    let small = c.small-sum in
    let sum-is-zero = c.sum_is_zero in
    vanish_told _ _ _ _ _ c.args.self.now.consecutive (length_part 256 _ small.ensures (omega (arith, c.args.self.now.sizes)))
    sum-is-zero.ensures

pub slice_bounds-sum_is_zero-end-2 : goal.slice_bounds-sum_is_zero-end-2
slice_bounds-sum_is_zero-end-2 c = sym (length_part 4096 _ c.scratch-sum.ensures (omega (arith, c.args.self.now.sizes)))

pub sum_is_zero-requires-2 : goal.sum_is_zero-requires-2
sum_is_zero-requires-2 c =
    let args = c.args in
    let pre = c.requires in
    let scratch = c.scratch-sum in
    inside_same _ _ _ _ _ (length_part 4096 _ scratch.ensures (omega (arith, c.args.self.now.sizes)))
    (inside_consecutive _ args.self.now.n _ _ _ c.args.self.now.consecutive (omega (arith, c.args.self.now.sizes)) (omega (
      arith,
      c.args.self.now.sizes,
    )) (omega (arith, c.args.self.now.sizes)))

pub returns : goal.returns
returns c =
    let pre = c.requires in
    let scratch = c.scratch-sum in
    let sum-is-zero2 = c.sum_is_zero-2 in
    vanish_told _ _ _ _ _ c.args.self.now.consecutive (length_part 4096 _ scratch.ensures (omega (arith, c.args.self.now.sizes)))
    sum-is-zero2.ensures
