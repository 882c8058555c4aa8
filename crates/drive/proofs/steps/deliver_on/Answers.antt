-- `drive::steps::deliver_on` meets its contract. Assumes nothing.
use mathlib.Core.Path.{refl, ◌∙◌}
use Prim.Native.Nat.{◌+◌, ◌-◌}
use native.Mathlib.Omega.{arith}
use lib.ListN.{length, drop, length-drop}
use lib.Seq.{take_all}
use Rattle.layout.proofs.Bounds.{kept_le}
use Rattle.drive.proofs.Delivered.{refused_view, deliver_view, unrefused, words_back}
use Rattle.drive.proofs.steps.deliver_on.Goals as goal

pub receiver_of-node-requires-clause-w_bound : goal.receiver_of-node-requires-clause-w_bound
receiver_of-node-requires-clause-w_bound c = let k = kept_le c.args.z.shape c.args.z.in_ranges in omega arith

pub returns-in-Ok : goal.returns-in-Ok
returns-in-Ok c =
    let args = c.args in
    let long = c.requires.w_bound.2 in (
      deliver_view args.z.shape args.area.now args.journal.now args.space.now long args.w args.e _
          c.receiver_of-node.ensures.0
          c.in-Ok.ensures (unrefused _) c.words_in-m.ensures c.receipt_of-words.ensures.0 c.write_header.ensures,
      words_back args.z.shape args.space.now long c.receipt_of-words.ensures.1 c.write_header.ensures,
    )

pub returns-in-Err : goal.returns-in-Err
returns-in-Err c =
    let args = c.args in
    let cut = 16 + args.z.shape.b in (
      refused_view args.z.shape args.area.now args.journal.now args.space.now c.requires.w_bound.2 args.w args.e _
          c.receiver_of-node.ensures.0
          c.in-Err.ensures refl,
      c.words_in.ensures ∙ rw (take_all (length args.space.now - cut) (drop cut args.space.now) (simp (length-drop) (omega arith))),
    )
