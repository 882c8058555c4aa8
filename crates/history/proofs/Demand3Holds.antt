-- Demand 3 holds of every history. Assumes nothing.
use mathlib.Core.Path.{ap, ◌∙◌}
use mathlib.Core.Bool.{◌||◌}
use mathlib.Core.List.{List, ◌++◌}
use Prim.Native.Nat.{ℕ}
use Rattle.layout.specs.declared.Shape.{Shape}
use Rattle.layout.specs.Ranges.{InRanges}
use Rattle.protocol.specs.Histories.{close_done}
use Rattle.protocol.proofs.Histories.{each_both, close_both}
use Rattle.growth.proofs.GrowthHolds.{growth_holds}
use Rattle.history.specs.Begun.{Begun}
use Rattle.history.specs.Completions.{completion, closing}
use Rattle.history.specs.Claims.{begun_store, now, EndToEnd, NotEmpty, Demand3Holds}
use Rattle.history.proofs.Begins.{begin_begins}
use Rattle.history.proofs.Hypotheses.{any_call, any_history, any_order, any_spaces}
use Rattle.history.proofs.EveryHistory.{every_history}

-- ---- a history, a completion and close

end_to_end : (z : Shape) (area : List ℕ) (number : ℕ) → Begun z area number → EndToEnd z area number
end_to_end z area number b history sent e o h spaces =
    let M = begun_store z area number in
    let rest = completion z area number spaces o ++ closing z in
    let through = (every_history z area number b history sent).completable e o h spaces in
    let is_history = each_both M history rest M.begun sent through.each_was_sent in
    let succeeded = close_both M history rest M.begun
    ∙ (ap (λ b. b || close_done M (now z area number history) rest) e ∙ through.close_done_law) in
    record {
      is_history = is_history;
      close_succeeded_law = succeeded;
      store_grown = (every_history z area number b (history ++ rest) is_history).grown succeeded;
    }

-- ---- and there are histories

not_empty : (z : Shape) → InRanges z → NotEmpty z
not_empty z ok area journal number long room small = ((growth_holds z).encode_cells ok area long).accepted journal number room small

pub demand_3 : Demand3Holds
demand_3 = record {
  every_history = every_history;
  begins = λ z area journal number. begin_begins z area number journal;
  end_to_end = end_to_end;
  any_call = any_call;
  any_history = any_history;
  any_order = any_order;
  any_spaces = any_spaces;
  not_empty = not_empty;
}
