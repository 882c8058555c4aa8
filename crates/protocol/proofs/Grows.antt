-- Marks, messages and receipts only grow. Assumes nothing.
use mathlib.Core.Path.{◌≡◌}
use mathlib.Core.Bool.{true}
use mathlib.Core.Logic.{inr}
use Prim.Native.Nat.{ℕ}
use Rattle.base.proofs.Updates.{mark_kept, mark2_kept}
use Rattle.protocol.specs.Transfers.{Among, Transfer}
use Rattle.protocol.specs.Parts.{Message, Growth}
use Rattle.protocol.specs.World.{World}
use Rattle.protocol.specs.Steps.{Step, compute, send, deliver, receipt, release, close, when_done, when_already, after_step}
use Rattle.protocol.proofs.Answered.{by_answer}

module _ (G : Growth) where
  open G use {Block}

  pub record Grows (s t : World G) : Type 0 where
    pub messages : (m : Message Block) → Among m s.trace.messages → Among m t.trace.messages
    pub receipts : (i : Transfer) → Among i s.trace.receipts → Among i t.trace.receipts
    pub computed : (w : ℕ) → s.journal.computed w ≡ true → t.journal.computed w ≡ true
    pub released : (w : ℕ) → s.journal.released w ≡ true → t.journal.released w ≡ true
    pub receipted : (w e : ℕ) → s.journal.receipted w e ≡ true → t.journal.receipted w e ≡ true

  grows_same : (s : World G) → Grows s s
  grows_same s = record { messages = λ m h. h; receipts = λ i h. h; computed = λ w h. h; released = λ w h. h; receipted = λ w e h. h }

  pub grows_both : {r s t : World G} → Grows r s → Grows s t → Grows r t
  grows_both g h = record {
    messages = λ m k. h.messages m (g.messages m k);
    receipts = λ i k. h.receipts i (g.receipts i k);
    computed = λ w k. h.computed w (g.computed w k);
    released = λ w k. h.released w (g.released w k);
    receipted = λ w e k. h.receipted w e (g.receipted w e k);
  }

  grows_done : (s : World G) (x : Step Block) → Grows s (when_done G s x)
  unfolding when_done
  grows_done s (compute w) = record {
    messages = λ m h. h;
    receipts = λ i h. h;
    computed = mark_kept s.journal.computed w;
    released = λ w h. h;
    receipted =
        λ w e h. h;
  }
  grows_done s (send w e) = record
      { messages = λ m h. inr h; receipts = λ i h. h; computed = λ w h. h; released = λ w h. h; receipted = λ w e h. h }
  grows_done s (deliver node m) = record
      { messages = λ m h. h; receipts = λ i h. inr h; computed = λ w h. h; released = λ w h. h; receipted = λ w e h. h }
  grows_done s (receipt node i) = record {
    messages = λ m h. h;
    receipts = λ i h. h;
    computed = λ w h. h;
    released = λ w h. h;
    receipted = mark2_kept s.journal.receipted i.stripe i.item;
  }
  grows_done s (release w) = record {
    messages = λ m h. h;
    receipts = λ i h. h;
    computed = λ w h. h;
    released = mark_kept s.journal.released w;
    receipted =
        λ w e h. h;
  }
  grows_done s close = record
      { messages = λ m h. h; receipts = λ i h. h; computed = λ w h. h; released = λ w h. h; receipted = λ w e h. h }

  grows_already : (s : World G) (x : Step Block) → Grows s (when_already G s x)
  unfolding when_already
  grows_already s (compute w) = grows_same s
  grows_already s (send w e) = grows_same s
  grows_already s (deliver node m) = record
      { messages = λ m h. h; receipts = λ i h. inr h; computed = λ w h. h; released = λ w h. h; receipted = λ w e h. h }
  grows_already s (receipt node i) = grows_same s
  grows_already s (release w) = grows_same s
  grows_already s close = grows_same s

  pub grows : (s : World G) (x : Step Block) → Grows s (after_step G s x)
  grows s x = by_answer G s x (λ a t. Grows s t) (λ n. grows_same s) (λ e. grows_already s x) (λ e. grows_done s x)
