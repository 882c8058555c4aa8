-- `rebuild::rebuild` meets its contract: each return is an outcome. Assumes nothing.
use mathlib.Core.Path.{refl}
use native.Mathlib.Omega.{arith}
use Rattle.answer.proofs.Exits.{passed, number_some}
use Rattle.rebuild.proofs.ReadLaws.{checks_told}
use Rattle.rebuild.proofs.Returns.{all_passed, end_refused, end_nothing, end_several, end_rebuilt}
use borrow.Author.Rules.{rules}
use Rattle.rebuild.proofs.rebuild.Goals as goal

pub returns-in_err-check_rebuild : goal.returns-in_err-check_rebuild
returns-in_err-check_rebuild c =
    rw (passed _ _ c.from_residual.ensures.1) (end_refused _ _ _ _ _ _ c.in_err-check_rebuild.ensures (number_some _))

pub solved_matrix-w-requires : goal.solved_matrix-w-requires
solved_matrix-w-requires c =
    let args = c.args in
    omega (
      arith,
      all_passed args.n args.k args.b args.losses.now args.stripe.now _ c.in_ok-check_rebuild.ensures refl,
    )

pub consecutive-at-requires : goal.consecutive-at-requires
consecutive-at-requires c =
    let args = c.args in
    omega (
      arith,
      all_passed args.n args.k args.b args.losses.now args.stripe.now _ c.in_ok-check_rebuild.ensures refl,
    )

pub pivots-pivots-requires : goal.pivots-pivots-requires
pivots-pivots-requires c =
    let args = c.args in
    omega (
      arith,
      all_passed args.n args.k args.b args.losses.now args.stripe.now _ c.in_ok-check_rebuild.ensures refl,
    )

pub checks_hold-agree-requires : goal.checks_hold-agree-requires
checks_hold-agree-requires c =
    let args = c.args in
    omega (
      arith,
      all_passed args.n args.k args.b args.losses.now args.stripe.now _ c.in_ok-check_rebuild.ensures refl,
    )

pub invariant_of-repair : goal.invariant_of-repair
invariant_of-repair c =
    let args = c.args in
    record {
      sizes = omega (
        arith,
        all_passed args.n args.k args.b args.losses.now args.stripe.now _ c.in_ok-check_rebuild.ensures refl,
      );
      consecutive = c.consecutive-at.ensures;
    }

pub returns-then-not-agree : goal.returns-then-not-agree
returns-then-not-agree c =
    end_nothing _ _ _ _ _ _ c.in_ok-check_rebuild.ensures refl (λ a. search rules) _ c.solved_matrix-w.ensures _
    (checks_told _ _ _ _ _ _ c.pivots-pivots.ensures c.checks_hold-agree.ensures) c.if-not-agree.true

pub returns-in_default : goal.returns-in_default
returns-in_default c =
    end_several _ _ _ _ _ _ c.in_ok-check_rebuild.ensures refl (λ a. search rules) _ c.solved_matrix-w.ensures _
    (checks_told _ _ _ _ _ _ c.pivots-pivots.ensures c.checks_hold-agree.ensures) c.if-not-agree.false c.in_default.ensures

pub write_lost-requires-clause-room : goal.write_lost-requires-clause-room
write_lost-requires-clause-room c =
    let args = c.args in
    omega (
      arith,
      all_passed args.n args.k args.b args.losses.now args.stripe.now _ c.in_ok-check_rebuild.ensures refl,
    )

pub returns : goal.returns
returns c =
    let write-lost = c.write_lost in
    end_rebuilt _ _ _ _ _ _ c.in_ok-check_rebuild.ensures refl (λ a. search rules) _ c.solved_matrix-w.ensures _
    (checks_told _ _ _ _ _ _ c.pivots-pivots.ensures c.checks_hold-agree.ensures) c.if-not-agree.false c.in-Some.ensures.0 _ _
    write-lost.ensures.stripe_after write-lost.ensures.value
