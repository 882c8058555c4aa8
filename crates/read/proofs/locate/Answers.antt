-- `read::locate` meets its contract. Assumes nothing.
use mathlib.Core.Path.{ap, ◌∙◌}
use Rattle.growth.specs.Read.{offset_of}
use Rattle.read.proofs.Outcomes.{allowed, locate_refuses, locate_finds}
use Rattle.read.proofs.locate.Goals as goal

pub offset_of-requires : goal.offset_of-requires
offset_of-requires c =
    let a = allowed _ _ _ _ _ c.in-Ok.ensures.refusal in
    record { g_bound = rw c.in-Ok.ensures.layout (a.stripe, a.column) }

pub returns-in-Ok : goal.returns-in-Ok
returns-in-Ok c =
    let place = c.offset_of.ensures.0 ∙ ap (λ z. offset_of z c.args.journal.now c.args.g c.args.d) c.in-Ok.ensures.layout in
    locate_finds _ _ _ _ _ _ c.in-Ok.ensures.refusal place

pub returns-in-Err : goal.returns-in-Err
returns-in-Err c = locate_refuses _ _ _ _ _ _ c.in-Err.ensures.refusal
