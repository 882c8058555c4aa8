-- `drive::steps::pass_on` meets its contract. Assumes nothing.
use mathlib.Core.Path.{ap, ◌∙◌}
use Rattle.growth.specs.Drive.{deliver_on, receipt_on, pass_on}
use Rattle.drive.proofs.Views.{receipt_view}
use Rattle.drive.proofs.steps.pass_on.Goals as goal

pub returns : goal.returns
unfolding pass_on
returns c =
    let args =
    c.args in
    let receipt-on = c.receipt_on in
    let deliver-on = c.deliver_on-m in
    let send-on =
    c.send_on in
    receipt_view args.z.shape _ _ _ args.w receipt-on.ensures
    ∙ ap (receipt_on args.z.shape args.w) (deliver-on.ensures.0 ∙ ap (deliver_on args.z.shape args.w args.e) send-on.ensures)
