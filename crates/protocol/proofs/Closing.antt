-- From a growth under way with every stripe released close goes through. Assumes nothing.
use mathlib.Core.Path.{◌≡◌}
use mathlib.Core.Bool.{true, false}
use Prim.Native.Nat.{ℕ, ◌<◌}
use Rattle.protocol.specs.Parts.{Growth}
use Rattle.protocol.specs.World.{World}
use Rattle.protocol.specs.Calls.{answer}
use Rattle.protocol.specs.Histories.{EachWasSent, close_done, NoneRefused, GoesThrough}
use Rattle.protocol.specs.Without.{world_machine}
use Rattle.protocol.specs.Completions.{closing}
use Rattle.answer.proofs.Answers.{not_refused}
use Rattle.protocol.proofs.Answered.{close_answer}
use Rattle.protocol.proofs.Running.{Running}

module _ (G : Growth) where
  open G use {stripes}

  pub closes_now : (s : World G) → Running G s → ((w : ℕ) → w < stripes → s.journal.released w ≡ true)
      → GoesThrough (world_machine G) s (closing G)
  unfolding answer EachWasSent NoneRefused close_done
  closes_now s run all = let a = close_answer G s run.opened all in record {
    each_was_sent = (tt, tt);
    none_refused = (not_refused false _ a, tt);
    close_done_law = rw a;
  }
