-- `deliver::write_receipt` meets its contract. Assumes nothing.
use mathlib.Core.Path.{sym, ap, ◌∙◌}
use native.Mathlib.Omega.{arith}
use Rattle.area.proofs.Blocks.{put_whole}
use Rattle.wire.specs.Headers.{header_bytes}
use Rattle.wire.proofs.ByteLaws.{length_header}
use Rattle.deliver.proofs.write_receipt.Goals as goal

pub write_header-requires : goal.write_header-requires
write_header-requires c = omega (arith, c.requires (sym c.refused.ensures ∙ c.if-not-refused.true))

pub returns-then-not-refused : goal.returns-then-not-refused
returns-then-not-refused c =
    let unrefused = sym c.refused.ensures ∙ c.if-not-refused.true in
    let whole = put_whole _ _ (c.requires unrefused ∙ sym (length_header _)) in
    rw unrefused (c.write_header.ensures ∙ whole ∙ ap header_bytes c.receipt_of.ensures.0)
