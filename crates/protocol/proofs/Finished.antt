-- From a growth under way, drive with a limit of at least the unaccepted transfers finishes, and close then goes through. Assumes nothing.
use mathlib.Core.Path.{◌≡◌, sym, ap, ◌∙◌}
use mathlib.Core.List.{◌∷◌}
use Prim.Native.Nat.{ℕ, ◌≤◌}
use Rattle.answer.specs.Answers.{finished}
use Rattle.protocol.specs.Parts.{Growth, Promises}
use Rattle.protocol.specs.World.{World}
use Rattle.protocol.specs.Calls.{drive, driven_world, answer, after_call}
use Rattle.protocol.specs.Histories.{EachWasSent, close_done, NoneRefused, GoesThrough}
use Rattle.protocol.specs.Without.{world_machine}
use Rattle.protocol.specs.Completions.{closing}
use Rattle.protocol.specs.Claims.{unaccepted}
use Rattle.answer.proofs.Answers.{finished_not_refused}
use Rattle.protocol.proofs.Running.{Running}
use Rattle.protocol.proofs.Closing.{closes_now}
use Rattle.protocol.proofs.Driven.{at_end, not_stopped, all_accepted_law}

module _ (G : Growth) (L : Promises G) (s : World G) (run : Running G s) (limit : ℕ) (h : unaccepted G s.journal ≤ limit) where
  pub finished_by : answer G s (drive limit) ≡ finished (unaccepted G s.journal)
  unfolding answer
  finished_by = let p = not_stopped G L s run limit h in rw (run.opened, p) (ap finished (all_accepted_law G L s run limit p))

  pub drive_through : GoesThrough (world_machine G) s (drive limit ∷ closing G)
  unfolding EachWasSent NoneRefused close_done after_call
  drive_through =
      let b = at_end G L s run limit in
      let p = not_stopped G L s run limit h in
      let q = closes_now G (driven_world G limit s).contents b.along.running (b.released p) in
      record {
        each_was_sent = (tt, (tt, tt));
        none_refused = ((λ number e. finished_not_refused (sym finished_by ∙ e)), rw run.opened q.none_refused);
        close_done_law = rw (finished_by, run.opened) q.close_done_law;
      }
