-- A growth that is under way: open, with the invariant. Every step but close keeps it so. Assumes nothing.
use mathlib.Core.Path.{◌≡◌}
use mathlib.Core.Bool.{true, false}
use Rattle.protocol.specs.Parts.{Growth}
use Rattle.protocol.specs.World.{counts_as_open, World}
use Rattle.protocol.specs.Steps.{Step, after_step, StepSent}
use Rattle.protocol.specs.Calls.{step, is_close}
use Rattle.protocol.specs.Invariant.{Invariant}
use Rattle.protocol.proofs.States.{stays_open}
use Rattle.protocol.proofs.Kept.{kept}

module _ (G : Growth) where
  open G use {Block}

  pub record Running (s : World G) : Type 0 where
    pub invariant : Invariant G s
    pub opened : counts_as_open s.journal.state ≡ true

  pub running_after : (s : World G) (x : Step Block) → StepSent G s x → is_close (step x) ≡ false → Running s → Running (after_step G s x)
  running_after s x h o r = record { invariant = kept G s r.invariant x h; opened = stays_open G s x o r.opened }
