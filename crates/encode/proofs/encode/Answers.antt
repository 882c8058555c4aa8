-- `encode::encode` meets its contract. Assumes nothing.
use mathlib.Core.Path.{sym, ap, ◌∙◌}
use Rattle.answer.proofs.Exits.{passed}
use Rattle.layout.specs.Addresses.{area_length}
use Rattle.growth.specs.Encode.{encoded_area}
use Rattle.encode.proofs.Outcomes.{area_long, refuses, acts}
use Rattle.encode.proofs.encode.Goals as goal

pub returns-in_err-layout : goal.returns-in_err-layout
returns-in_err-layout c = rw (passed _ _ c.from_residual.ensures.1) (refuses _ _ _ c.in_err-layout.ensures.refusal)

pub encode_area-requires : goal.encode_area-requires
encode_area-requires c =
    let layout = c.in_ok-layout.ensures in
    record { area_len = area_long _ c.args.area.now layout.refusal ∙ ap area_length (sym layout.layout) }

pub returns : goal.returns
returns c =
    let layout = c.in_ok-layout.ensures in
    acts _ _ layout.refusal (c.encode_area.ensures ∙ ap (λ z. encoded_area z c.args.area.now) layout.layout)
