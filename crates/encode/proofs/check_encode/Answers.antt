-- `encode::check_encode` meets its contract. Assumes nothing.
use mathlib.Core.Path.{sym, ap, ◌∙◌}
use Rattle.base.proofs.Refusals.{tests}
use Rattle.answer.specs.Numbers.{refusal_number}
use Rattle.answer.proofs.Exits.{passed, stops}
use Rattle.layout.specs.Addresses.{area_length}
use Rattle.growth.specs.Encode.{encode_refusal}
use Rattle.encode.proofs.check_encode.Goals as goal

pub returns-in_err-layout-clause-refusal : goal.returns-in_err-layout-clause-refusal
unfolding encode_refusal
returns-in_err-layout-clause-refusal c =
    ap refusal_number (passed _ _ c.from_residual.ensures.1) ∙ stops _ _ _ c.in_err-layout.ensures.refusal

pub returns-then-area_bytes-area_length-clause-refusal : goal.returns-then-area_bytes-area_length-clause-refusal
unfolding encode_refusal
returns-then-area_bytes-area_length-clause-refusal c =
    let shape = c.in_ok-layout.ensures in
    rw (sym shape.refusal, ← (c.area_length.ensures.0 ∙ ap area_length shape.layout)) (search tests)

pub returns-clause-refusal : goal.returns-clause-refusal
unfolding encode_refusal
returns-clause-refusal c =
    let shape = c.in_ok-layout.ensures in
    rw (sym shape.refusal, ← (c.area_length.ensures.0 ∙ ap area_length shape.layout)) (search tests)
