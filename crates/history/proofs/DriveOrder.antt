-- What a drive has in hand along its steps is in the contents that single calls have led to, and one step more keeps it so.
-- Assumes nothing.
use mathlib.Core.Path.{◌≡◌, sym, ap, ◌∙◌}
use mathlib.Core.List.{List, map}
use Prim.Native.Nat.{ℕ}
use lib.ListN.{length}
use Rattle.layout.specs.declared.Shape.{Shape}
use Rattle.protocol.specs.Parts.{Growth}
use Rattle.protocol.specs.World.{World}
use Rattle.protocol.specs.Steps as P
use Rattle.protocol.specs.Histories.{EachWasSent}
use Rattle.growth.specs.Send.{message_length}
use Rattle.growth.specs.Deliver.{receipt_length}
use Rattle.growth.specs.Drive.{Store}
use Rattle.history.specs.Contents.{Contents}
use Rattle.history.specs.Steps.{Step, after_step, after_steps}
use Rattle.history.specs.Link.{StepSent}
use Rattle.history.specs.DriveSteps.{Driving, takes}
use Rattle.history.specs.Calls.{step, store}
use Rattle.history.proofs.Growths.{growth_of, view_of, Fit}
use Rattle.history.proofs.Following.{Followed}
use Rattle.history.proofs.StepLists.{after_more, sent_more}

module _ (z : Shape) (start : List ℕ) (number : ℕ) (begun first : Contents) where
  abbrev G : Growth
  G = growth_of z start

  -- the contents that the steps so far have led to, and how the growth without bytes sees them
  abbrev pub reached : Driving → Contents
  reached d = after_steps first d.steps

  abbrev pub view_in : Driving → World G
  view_in d = view_of z start (reached d)

  -- what the drive has in hand is in them, and each step was handed what was sent
  pub record InOrder (d : Driving) : Type 0 where
    pub fit : Fit z number (reached d)
    pub area_same : d.store.area ≡ (reached d).area
    pub journal_same : d.store.journal ≡ (reached d).journal
    pub message_long : length d.store.message ≡ message_length z
    pub receipt_long : length d.store.receipt ≡ receipt_length
    pub each_was_sent : EachWasSent (store begun) first (map step d.steps)

  -- what a step leaves in hand is what the call leaves
  pub record Leaves (c : Contents) (x : Step) (s : Store) : Type 0 where
    pub area_left : s.area ≡ (after_step c x).area
    pub journal_left : s.journal ≡ (after_step c x).journal
    pub message_long : length s.message ≡ message_length z
    pub receipt_long : length s.receipt ≡ receipt_length

  pub one_more : (d : Driving) → InOrder d → (x : Step) (next : Store → Store) (y : P.Step (List ℕ))
      → Followed z start number (reached d) x y → StepSent (reached d) x → Leaves (reached d) x (next d.store)
      → (view_in (takes x next d) ≡ P.after_step G (view_in d) y) × InOrder (takes x next d)
  one_more d o x next y f sent l =
      let e : reached (takes x next d) ≡ after_step (reached d) x = after_more d.steps x first in (
        ap (view_of z start) e ∙ f.leads.0,
        record {
          fit = rw e f.leads.1;
          area_same = l.area_left ∙ ap (λ c. c.area) (sym e);
          journal_same = l.journal_left ∙ ap (λ c. c.journal) (sym e);
          message_long = l.message_long;
          receipt_long = l.receipt_long;
          each_was_sent = sent_more begun d.steps x first o.each_was_sent sent;
        },
      )
