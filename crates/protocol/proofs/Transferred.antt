-- One transfer of a drive: send, deliver and receipt are not refused, and the transfer is then accepted and receipted. Assumes nothing.
use mathlib.Core.Path.{◌≡◌, refl, ap, ◌∙◌}
use mathlib.Core.Bool.{true, false, not, and-true, and-false}
use Prim.Native.Nat.{ℕ, ◌+◌, ◌<◌}
use native.Mathlib.Nat.{add-zero}
use Rattle.base.specs.Tests.{if}
use Rattle.base.specs.Folds.{indicator}
use Rattle.base.proofs.Tests.{clash, off}
use Rattle.protocol.specs.Transfers.{Among}
use Rattle.answer.specs.Answers.{already, done}
use Rattle.protocol.specs.Parts.{Growth, Promises}
use Rattle.protocol.specs.World.{World}
use Rattle.protocol.specs.Steps.{Step, send, deliver, receipt, step_answer, message_from, after_step, StepSent}
use Rattle.protocol.specs.Calls.{step, is_close, pass_transfer}
use Rattle.protocol.specs.Invariant.{Invariant}
use Rattle.protocol.proofs.Answered.{send_answer, deliver_answer, receipt_answer}
use Rattle.protocol.proofs.Grows.{Grows, grows, grows_both}
use Rattle.protocol.proofs.Counting.{count_told}
use Rattle.protocol.proofs.Leaves.{receipted_after, receipt_written, message_written, send_journal}
use Rattle.protocol.proofs.Running.{Running, running_after}

module _ (G : Growth) (L : Promises G) where
  open G use {Block, stripes, transfers, sender, receiver}

  -- under way, and stripe w computed
  pub record RunningIn (w : ℕ) (s : World G) : Type 0 where
    pub running : Running G s
    pub computed : s.journal.computed w ≡ true

  still_in : (s : World G) (w : ℕ) (x : Step Block) → StepSent G s x → is_close (step x) ≡ false → RunningIn w s
      → RunningIn w (after_step G s x)
  still_in s w x h o r = record { running = running_after G s x h o r.running; computed = (grows G s x).computed w r.computed }

  unreleased : (s : World G) → Invariant G s → (w e : ℕ) → e < transfers → s.journal.receipted w e ≡ false
      → s.journal.released w ≡ false
  unreleased s I w e le h = off (λ k. clash (I.ordered.released_receipted w k e le) h)

  -- ---- the three steps
  -- the worlds after send and after deliver
  abbrev pub sent_world : World G → ℕ → ℕ → World G
  sent_world s w e = after_step G s (send w e)

  abbrev pub delivered_world : World G → ℕ → ℕ → World G
  delivered_world s w e = after_step G (sent_world s w e) (deliver (receiver w e) (message_from G s.cells w e))

  pub record Legs (s : World G) (w e : ℕ) : Type 0 where
    pub send_done : step_answer G s (send w e) ≡ done
    pub in_sent : RunningIn w (sent_world s w e)
    pub deliver_told : step_answer G (sent_world s w e) (deliver (receiver w e) (message_from G s.cells w e))
        ≡ if ((sent_world s w e).journal.accepted w e) already done
    pub in_delivered : RunningIn w (delivered_world s w e)
    pub receipt_sent : Among (record { stripe = w; item = e }) (delivered_world s w e).trace.receipts
    pub receipt_told : step_answer G (delivered_world s w e) (receipt (sender w) (record { stripe = w; item = e }))
        ≡ if ((delivered_world s w e).journal.receipted w e) already done

  pub legs : (s : World G) (w e : ℕ) → w < stripes → e < transfers → s.journal.receipted w e ≡ false → RunningIn w s → Legs s w e
  legs s w e lw le nr r =
      let m = message_from G s.cells w e in
      let free = unreleased s r.running.invariant w e le nr in
      let a = send_answer G s r.running.opened w e lw le r.computed free in
      let r1 = still_in s w (send w e) tt refl r in
      let h = message_written G s w e a in
      let b = deliver_answer G (sent_world s w e) r1.running.opened m (L.receiver_lt w e lw le) in
      let r2 = still_in (sent_world s w e) w (deliver (receiver w e) m) h refl r1 in
      record {
        send_done = a;
        in_sent = r1;
        deliver_told = b;
        in_delivered = r2;
        receipt_sent = receipt_written G (sent_world s w e) (receiver w e) m ((sent_world s w e).journal.accepted w e) b;
        receipt_told = receipt_answer G (delivered_world s w e) r2.running.opened m.transfer (L.sender_lt w lw) r2.computed;
      }

  -- ---- what they come to
  pub record Transferred (s : World G) (w e : ℕ) : Type 0 where
    pub still : RunningIn w (pass_transfer G w e s)
    pub receipted : (pass_transfer G w e s).journal.receipted w e ≡ true
    pub grown : Grows G s (pass_transfer G w e s)
    pub counted : (pass_transfer G w e s).journal.count ≡ s.journal.count + indicator (not (s.journal.accepted w e))

  pub transferred : (s : World G) (w e : ℕ) → w < stripes → e < transfers → s.journal.receipted w e ≡ false → RunningIn w s
      → Transferred s w e
  unfolding pass_transfer
  transferred s w e lw le nr r =
      let g = legs s w e lw le nr r in
      let m = message_from G s.cells w e in
      let s1 = sent_world s w e in
      let s2 = delivered_world s w e in
      let back = receipt (sender w) m.transfer in
      record {
        still = still_in s2 w back g.receipt_sent refl g.in_delivered;
        receipted = receipted_after G s2 (sender w) m.transfer g.receipt_told;
        grown = grows_both G (grows_both G (grows G s (send w e)) (grows G s1 (deliver (receiver w e) m))) (grows G s2 back);
        counted = count_told G s2 back (s2.journal.receipted w e) g.receipt_told ∙ rw (and-false, add-zero)
            (count_told G s1 (deliver (receiver w e) m) (s1.journal.accepted w e) g.deliver_told
            ∙ rw and-true (ap (λ j. j.count + indicator (not (j.accepted w e))) (send_journal G s w e g.send_done)));
      }
