-- The growth without bytes has all that is claimed of every history: it is a machine that follows itself. Assumes nothing.
use mathlib.Core.Path.{refl}
use mathlib.Core.List.{List}
use Rattle.protocol.specs.Parts.{Growth, Promises}
use Rattle.protocol.specs.World.{begun_world}
use Rattle.protocol.specs.Calls.{Call}
use Rattle.protocol.specs.Histories.{EachWasSent}
use Rattle.protocol.specs.Without.{world_machine}
use Rattle.protocol.specs.Claims.{HistoryClaims}
use Rattle.protocol.specs.Refinement.{View, Refines}
use Rattle.protocol.proofs.Refined.{refined}

module _ (G : Growth) where
  abbrev itself : View G (world_machine G)
  itself = record { Fit = λ s. Unit {0}; view = λ s. s; meaning = λ s x. x; make = λ x. x }

  follows_itself : Refines G (world_machine G) itself
  follows_itself = record {
    begun_fit = tt;
    begun_view = refl;
    follows = λ s x f I h. record
        { fit = tt; view_after = refl; answer_same = refl; was_sent = h; deliver_same = λ e. refl; close_same = λ e. refl };
    makes = λ s x f I o h. record { was_sent = h; means = refl };
  }

  pub protocol_holds : Promises G → (history : List (Call G.Block)) → EachWasSent (world_machine G) (begun_world G) history
      → HistoryClaims G (world_machine G) (λ s. s) (λ x. x) history
  protocol_holds L history h = refined G L (world_machine G) itself follows_itself history h
