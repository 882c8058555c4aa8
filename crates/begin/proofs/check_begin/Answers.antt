-- `begin::check_begin` meets its contract. Assumes nothing.
use mathlib.Core.Bool.{not}
use mathlib.Core.Path.{sym, ap, ◌∙◌}
use Rattle.base.specs.Tests.{every}
use Rattle.answer.specs.Numbers.{refusal_number}
use Rattle.answer.proofs.Exits.{passed}
use Rattle.layout.specs.Counts.{stripes}
use Rattle.layout.specs.Addresses.{area_length}
use Rattle.growth.specs.Begin.{stripe_holds}
use Rattle.lent.proofs.StoreLaws.{store_lent}
use Rattle.begin.proofs.Outcomes.{lengths_stop, number_stops, stripe_stops, nothing_stops}
use Rattle.begin.proofs.check_begin.Goals as goal

pub returns-in_err-layout-clause-refusal : goal.returns-in_err-layout-clause-refusal
returns-in_err-layout-clause-refusal c =
    ap refusal_number (passed _ _ c.from_residual.ensures.1) ∙ lengths_stop _ c.args.area.now _ _ _ c.in_err-layout.ensures.refusal

pub returns-then-number-ge268435456-clause-refusal : goal.returns-then-number-ge268435456-clause-refusal
returns-then-number-ge268435456-clause-refusal c =
    number_stops _ c.args.area.now _ _ c.in_ok-layout.ensures.refusal c.if-number-ge268435456.true

pub all_hold-requires : goal.all_hold-requires
all_hold-requires c =
    let layout = c.in_ok-layout.ensures in
    record { area_len = (store_lent _ _ _ (sym layout.refusal)).area_long ∙ ap area_length (sym layout.layout) }

pub returns-then-not-all_hold-clause-refusal : goal.returns-then-not-all_hold-clause-refusal
returns-then-not-all_hold-clause-refusal c =
    let layout = c.in_ok-layout.ensures in
    let verified = c.all_hold.ensures ∙ ap (λ z. every (stripes z) (stripe_holds z c.args.area.now)) layout.layout in
    stripe_stops _ c.args.area.now _ _ layout.refusal c.if-number-ge268435456.false verified (ap not c.if-not-all_hold.true)

pub returns-clause-refusal : goal.returns-clause-refusal
returns-clause-refusal c =
    let layout = c.in_ok-layout.ensures in
    let verified = c.all_hold.ensures ∙ ap (λ z. every (stripes z) (stripe_holds z c.args.area.now)) layout.layout in
    nothing_stops _ c.args.area.now _ _ layout.refusal c.if-number-ge268435456.false verified (ap not c.if-not-all_hold.false)
