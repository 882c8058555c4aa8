-- `code::make_delta` meets its contract. Assumes nothing.
use mathlib.Core.Path.{◌∙◌}
use Rattle.code.proofs.Laws.{filled_delta}
use Rattle.code.proofs.make_delta.Goals as goal

pub returns : goal.returns
returns c =
    let combine = c.combine in
    let args = c.args in
    let fill = c.fill in
    combine.ensures ∙ filled_delta _ args.k _ args.j _ _ _ fill.ensures
