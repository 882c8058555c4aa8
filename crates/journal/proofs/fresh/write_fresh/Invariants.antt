-- `journal::fresh::write_fresh` meets its contract. Before turn w the first w records are fresh. Assumes nothing.
use mathlib.Core.Path.{◌≡◌}
use Rattle.base.specs.Folds.{run}
use Rattle.journal.proofs.FreshRun.{put_fresh}
use Rattle.journal.proofs.fresh.write_fresh.Given as goal

abbrev pub invariant-loop-w : goal.invariant-loop-w
invariant-loop-w l = l.journal ≡ run put_fresh 0 l.w l.initial.journal
