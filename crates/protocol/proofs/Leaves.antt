-- What a step leaves that nothing refused: its mark, its message, its receipt. Assumes nothing.
use mathlib.Core.Path.{◌≡◌, refl}
use mathlib.Core.Bool.{Bool, true, false}
use mathlib.Core.Logic.{inl}
use Prim.Native.Nat.{ℕ}
use Rattle.base.specs.Tests.{if}
use Rattle.base.proofs.Updates.{mark_here, mark2_here}
use Rattle.protocol.specs.Transfers.{Among, Transfer}
use Rattle.answer.specs.Answers.{already, done}
use Rattle.protocol.specs.Parts.{Message, Growth}
use Rattle.protocol.specs.World.{World}
use Rattle.protocol.specs.Steps.{compute, send, deliver, receipt, release, step_answer, message_from, when_done, when_already}
use Rattle.protocol.specs.Steps.{after_step}
use Rattle.protocol.proofs.Answered.{after_done, after_already}

module _ (G : Growth) (s : World G) where
  open G use {Block}

  pub computed_after : (w : ℕ) → step_answer G s (compute w) ≡ if (s.journal.computed w) already done
      → (after_step G s (compute w)).journal.computed w ≡ true
  unfolding when_done when_already
  computed_after w e = go (s.journal.computed w) refl e
    where
      go : (b : Bool) → s.journal.computed w ≡ b → step_answer G s (compute w) ≡ if b already done
          → (after_step G s (compute w)).journal.computed w ≡ true
      go true h e = rw (after_already G s (compute w) e) h
      go false h e = rw (after_done G s (compute w) e) (mark_here s.journal.computed w)

  pub released_after : (w : ℕ) → step_answer G s (release w) ≡ if (s.journal.released w) already done
      → (after_step G s (release w)).journal.released w ≡ true
  unfolding when_done when_already
  released_after w e = go (s.journal.released w) refl e
    where
      go : (b : Bool) → s.journal.released w ≡ b → step_answer G s (release w) ≡ if b already done
          → (after_step G s (release w)).journal.released w ≡ true
      go true h e = rw (after_already G s (release w) e) h
      go false h e = rw (after_done G s (release w) e) (mark_here s.journal.released w)

  pub receipted_after : (node : ℕ) (i : Transfer)
      → step_answer G s (receipt node i) ≡ if (s.journal.receipted i.stripe i.item) already done
      → (after_step G s (receipt node i)).journal.receipted i.stripe i.item ≡ true
  unfolding when_done when_already
  receipted_after node i e = go (s.journal.receipted i.stripe i.item) refl e
    where
      go : (b : Bool) → s.journal.receipted i.stripe i.item ≡ b → step_answer G s (receipt node i) ≡ if b already done
          → (after_step G s (receipt node i)).journal.receipted i.stripe i.item ≡ true
      go true h e = rw (after_already G s (receipt node i) e) h
      go false h e = rw (after_done G s (receipt node i) e) (mark2_here s.journal.receipted i.stripe i.item)

  -- a deliver writes the receipt, whether it is the first or a repeat
  pub receipt_written : (node : ℕ) (m : Message Block) (b : Bool) → step_answer G s (deliver node m) ≡ if b already done
      → Among m.transfer (after_step G s (deliver node m)).trace.receipts
  unfolding when_done when_already
  receipt_written node m true e = rw (after_already G s (deliver node m) e) (inl refl)
  receipt_written node m false e = rw (after_done G s (deliver node m) e) (inl refl)

  pub message_written : (w e : ℕ) → step_answer G s (send w e) ≡ done
      → Among (message_from G s.cells w e) (after_step G s (send w e)).trace.messages
  unfolding when_done
  message_written w e h = rw (after_done G s (send w e) h) (inl refl)

  -- and changes nothing in the journal
  pub send_journal : (w e : ℕ) → step_answer G s (send w e) ≡ done → (after_step G s (send w e)).journal ≡ s.journal
  unfolding when_done
  send_journal w e h = rw (after_done G s (send w e) h)
