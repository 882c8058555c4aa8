-- `drive::drive_transfer` meets its contract. Assumes nothing.
use mathlib.Core.Path.{sym, ap, ◌∙◌}
use Prim.Native.Nat.{◌+◌}
use native.Mathlib.Omega.{arith}
use Rattle.layout.proofs.Bounds.{transfers_le}
use Rattle.records.specs.declared.StripeRecord.{StripeRecord}
use Rattle.records.specs.Records.{is_accepted, is_receipted}
use Rattle.protocol.specs.Drive.{goes_on}
use Rattle.growth.specs.Drive.{Store, store_drive, lent_store}
use Rattle.drive.proofs.Turns.{passed_over, passed_again, stopped_here, passed_on}
use Rattle.drive.proofs.drive_transfer.Goals as goal

pub overflow_cast-e : goal.overflow_cast-e
overflow_cast-e c =
    let args = c.args in
    let pre = c.requires in
    let t = transfers_le args.z.shape c.args.z.in_ranges in omega arith

pub is_receipted-requires : goal.is_receipted-requires
is_receipted-requires c =
    let args = c.args in
    let pre = c.requires in
    let t = transfers_le args.z.shape c.args.z.in_ranges in omega arith

pub returns-then-is_receipted : goal.returns-then-is_receipted
returns-then-is_receipted c =
    let args = c.args in
    let record-in = c.record_in-stripe in
    sym (passed_over (store_drive args.z.shape) args.limit args.w args.e
    (lent_store args.z.shape args.area.now args.journal.now args.space.now) args.accepted
    (sym (c.is_receipted.ensures ∙ ap (λ (r : StripeRecord). is_receipted r args.e) record-in.ensures) ∙ c.if-is_receipted.true))

pub overflow_cast-e-2 : goal.overflow_cast-e-2
overflow_cast-e-2 c =
    let args = c.args in
    let pre = c.requires in
    let t = transfers_le args.z.shape c.args.z.in_ranges in omega arith

pub is_accepted-requires : goal.is_accepted-requires
is_accepted-requires c =
    let args = c.args in
    let pre = c.requires in
    let t = transfers_le args.z.shape c.args.z.in_ranges in omega arith

pub returns-then-is_accepted : goal.returns-then-is_accepted
returns-then-is_accepted c =
    let args =
    c.args in
    let pass_on = c.pass_on in
    let is-receipted =
    c.is_receipted in
    let record-in =
    c.record_in-stripe in
    let is-accepted = c.is_accepted in
    let if1 = c.if-is_receipted in
    let if2 = c.if-is_accepted in
    ap (λ (c : Store). goes_on c args.accepted) pass_on.ensures
    ∙ sym (passed_again (store_drive args.z.shape) args.limit args.w args.e
    (lent_store args.z.shape args.area.now args.journal.now args.space.now) args.accepted
    (sym (is-receipted.ensures ∙ ap (λ (r : StripeRecord). is_receipted r args.e) record-in.ensures) ∙ if1.false)
    (sym (is-accepted.ensures ∙ ap (λ (r : StripeRecord). is_accepted r args.e) record-in.ensures) ∙ if2.true))

pub returns-then-accepted-limit : goal.returns-then-accepted-limit
returns-then-accepted-limit c =
    let args = c.args in
    let is-receipted = c.is_receipted in
    let record-in = c.record_in-stripe in
    let is-accepted = c.is_accepted in
    let if1 = c.if-is_receipted in
    sym (stopped_here (store_drive args.z.shape) args.limit args.w args.e
    (lent_store args.z.shape args.area.now args.journal.now args.space.now) args.accepted
    (sym (is-receipted.ensures ∙ ap (λ (r : StripeRecord). is_receipted r args.e) record-in.ensures) ∙ if1.false)
    (sym (is-accepted.ensures ∙ ap (λ (r : StripeRecord). is_accepted r args.e) record-in.ensures) ∙ c.if-is_accepted.false)
    c.if-accepted-limit.true)

pub returns : goal.returns
returns c =
    let args =
    c.args in
    let pass-on2 = c.pass_on-2 in
    let is-receipted =
    c.is_receipted in
    let record-in =
    c.record_in-stripe in
    let is-accepted = c.is_accepted in
    let if1 = c.if-is_receipted in
    let if2 = c.if-is_accepted in
    let if3 = c.if-accepted-limit in
    ap (λ (c : Store). goes_on c (args.accepted + 1)) pass-on2.ensures
    ∙ sym (passed_on (store_drive args.z.shape) args.limit args.w args.e
    (lent_store args.z.shape args.area.now args.journal.now args.space.now) args.accepted
    (sym (is-receipted.ensures ∙ ap (λ (r : StripeRecord). is_receipted r args.e) record-in.ensures) ∙ if1.false)
    (sym (is-accepted.ensures ∙ ap (λ (r : StripeRecord). is_accepted r args.e) record-in.ensures) ∙ if2.false) if3.false)
