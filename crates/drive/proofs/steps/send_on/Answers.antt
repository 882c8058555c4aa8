-- `drive::steps::send_on` meets its contract. Assumes nothing.
use Rattle.drive.proofs.Views.{send_view}
use Rattle.drive.proofs.steps.send_on.Goals as goal

pub returns : goal.returns
returns c =
    let args = c.args in
    let pre = c.requires in
    let send = c.send in
    send_view args.z.shape args.area.now args.journal.now args.space.now args.w pre.space_len args.e _ send.ensures
