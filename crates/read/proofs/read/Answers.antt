-- `read::read` meets its contract. Assumes nothing.
use mathlib.Core.Path.{ap, ◌∙◌}
use native.Mathlib.Omega.{arith}
use Rattle.growth.specs.Read.{offset_of}
use Rattle.read.proofs.Outcomes.{allowed, locate_refuses, locate_finds, stands, read_refuses, read_finds}
use Rattle.read.proofs.read.Goals as goal

pub offset_of-start-requires : goal.offset_of-start-requires
offset_of-start-requires c =
    let a = allowed _ _ _ _ _ c.in-Ok.ensures.refusal in
    record { g_bound = rw c.in-Ok.ensures.layout (a.stripe, a.column) }

pub overflow_add-result : goal.overflow_add-result
overflow_add-result c =
    let place = c.offset_of-start.ensures.0 ∙ ap (λ z. offset_of z c.args.journal.now c.args.g c.args.d) c.in-Ok.ensures.layout in
    let s = stands _ c.args.area.now _ _ _ _ (locate_finds _ _ _ _ _ _ c.in-Ok.ensures.refusal place) in omega arith

pub slice_bounds-result-end : goal.slice_bounds-result-end
slice_bounds-result-end c =
    let place = c.offset_of-start.ensures.0 ∙ ap (λ z. offset_of z c.args.journal.now c.args.g c.args.d) c.in-Ok.ensures.layout in
    let s = stands _ c.args.area.now _ _ _ _ (locate_finds _ _ _ _ _ _ c.in-Ok.ensures.refusal place) in omega arith

pub returns-in-Ok : goal.returns-in-Ok
returns-in-Ok c =
    let place = c.offset_of-start.ensures.0 ∙ ap (λ z. offset_of z c.args.journal.now c.args.g c.args.d) c.in-Ok.ensures.layout in
    read_finds _ c.args.area.now _ _ _ _ (locate_finds _ _ _ _ _ _ c.in-Ok.ensures.refusal place)

pub returns-in-Err : goal.returns-in-Err
returns-in-Err c = read_refuses _ c.args.area.now _ _ _ _ (locate_refuses _ _ _ _ _ _ c.in-Err.ensures.refusal)
