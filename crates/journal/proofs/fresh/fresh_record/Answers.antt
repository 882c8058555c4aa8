-- `journal::fresh::fresh_record` meets its contract. Assumes nothing.
use mathlib.Core.Path.{refl}
use Rattle.wire.specs.Words.{accepted_word, progress_word}
use Rattle.journal.proofs.fresh.fresh_record.Goals as goal

pub returns : goal.returns
unfolding accepted_word progress_word
returns c = refl
