-- A step by its answer: what a step that is not refused may rely on, and what it takes that nothing refuses it. Assumes nothing.
use mathlib.Core.Path.{◌≡◌, refl, ap₂}
use mathlib.Core.Bool.{Bool, true, false, not}
use Prim.Native.Nat.{ℕ, zero, suc, ◌<◌}
use lib.Dec.{T, ltb, lt→ltb}
use Rattle.base.specs.Tests.{if, below}
use Rattle.base.specs.Refusals.{first}
use Rattle.base.proofs.Tests.{same_refl, lt_below, every_intro}
use Rattle.base.proofs.Refusals.{NoneApplies, Numbered, first_zero, first_none}
use Rattle.answer.specs.Answers.{Answer, refused, already, done, answer_for}
use Rattle.protocol.specs.Parts.{Message, Growth}
use Rattle.protocol.specs.Transfers.{Transfer}
use Rattle.protocol.specs.World.{State, counts_as_open, ended_refusal, Journal, World}
use Rattle.protocol.specs.Steps.{Step, compute, send, deliver, receipt, release, close, refusals, marked, step_answer, when_done}
use Rattle.protocol.specs.Steps.{when_already, after_answer, after_step}
use Rattle.answer.proofs.Answers.{answered_done, answered_already, answered_none}
use Rattle.protocol.proofs.Over.{number_positive}

-- the number that refuses a call is a number of a refusal
positive : (x : State) → T (ltb 0 (ended_refusal x))
positive x = lt→ltb 0 (ended_refusal x) (number_positive x)

module _ (G : Growth) where
  open G use {Block, stripes, transfers, nodes, sender, receiver}

  numbered : (j : Journal) (x : Step Block) → Numbered (refusals G j x)
  numbered j (compute w) = (positive j.state, (tt, tt))
  numbered j (send w e) = (positive j.state, (tt, (tt, (tt, (tt, tt)))))
  numbered j (deliver node m) = (positive j.state, (tt, (tt, tt)))
  numbered j (receipt node i) = (positive j.state, (tt, (tt, (tt, tt))))
  numbered j (release w) = (positive j.state, (tt, (tt, (tt, tt))))
  numbered j close = (positive j.state, (tt, tt))

  -- no refusal applies, and the step's own mark is as told
  pub record Passed (j : Journal) (x : Step Block) (mark : Bool) : Type 0 where
    pub free : NoneApplies (refusals G j x)
    pub mark_is : marked G j x ≡ mark

  pub when_done_law : (s : World G) (x : Step Block) → step_answer G s x ≡ done → Passed s.journal x false
  unfolding step_answer
  when_done_law s x e = let (z, m) = answered_done (first (refusals G s.journal x)) (marked G s.journal x) e in
      record { free = first_zero (refusals G s.journal x) (numbered s.journal x) z; mark_is = m }

  pub when_already_law : (s : World G) (x : Step Block) → step_answer G s x ≡ already → Passed s.journal x true
  unfolding step_answer
  when_already_law s x e = let (z, m) = answered_already (first (refusals G s.journal x)) (marked G s.journal x) e in
      record { free = first_zero (refusals G s.journal x) (numbered s.journal x) z; mark_is = m }

  -- what holds after a refusal, after a repeat and after a done step holds after the step
  pub by_answer : (s : World G) (x : Step Block) (Q : Answer → World G → Type 0)
      → ((n : ℕ) → Q (refused n) s)
      → (step_answer G s x ≡ already → Q already (when_already G s x))
      → (step_answer G s x ≡ done → Q done (when_done G s x))
      → Q (step_answer G s x) (after_step G s x)
  unfolding after_step step_answer
  by_answer s x Q q r d = go (first (refusals G s.journal x)) refl (marked G s.journal x) refl
    where
      go : (n : ℕ) → first (refusals G s.journal x) ≡ n → (b : Bool) → marked G s.journal x ≡ b
          → Q (answer_for n b) (after_answer G s x (answer_for n b))
      go zero p true m = r (ap₂ answer_for p m)
      go zero p false m = d (ap₂ answer_for p m)
      go (suc n) p b m = q (suc n)

  -- ---- nothing refuses
  free_answer : (s : World G) (x : Step Block) → NoneApplies (refusals G s.journal x)
      → step_answer G s x ≡ if (marked G s.journal x) already done
  unfolding step_answer
  free_answer s x p = answered_none (first (refusals G s.journal x)) (marked G s.journal x) (first_none (refusals G s.journal x) p)

  module _ (s : World G) (opened : counts_as_open s.journal.state ≡ true) where
    not_over : not (counts_as_open s.journal.state) ≡ false
    not_over = rw opened

    inside : {x n : ℕ} → x < n → not (below x n) ≡ false
    inside {x} {n} l = rw (lt_below x n l)

    pub compute_answer : (w : ℕ) → w < stripes → step_answer G s (compute w) ≡ if (s.journal.computed w) already done
    compute_answer w l = free_answer s (compute w) (not_over, (inside l, tt))

    pub send_answer : (w e : ℕ) → w < stripes → e < transfers → s.journal.computed w ≡ true → s.journal.released w ≡ false
        → step_answer G s (send w e) ≡ done
    send_answer w e lw le co re = free_answer s (send w e) (not_over, (inside lw, (inside le, (rw co, (rw re, tt)))))

    pub deliver_answer : (m : Message Block) → receiver m.transfer.stripe m.transfer.item < nodes
        → step_answer G s (deliver (receiver m.transfer.stripe m.transfer.item) m)
        ≡ if (s.journal.accepted m.transfer.stripe m.transfer.item) already done
    deliver_answer m l = let v = receiver m.transfer.stripe m.transfer.item in
        free_answer s (deliver v m) (not_over, (inside l, (rw (same_refl v), tt)))

    pub receipt_answer : (i : Transfer) → sender i.stripe < nodes → s.journal.computed i.stripe ≡ true
        → step_answer G s (receipt (sender i.stripe) i) ≡ if (s.journal.receipted i.stripe i.item) already done
    receipt_answer i l co = let v = sender i.stripe in
        free_answer s (receipt v i) (not_over, (inside l, (rw (same_refl v), (rw co, tt))))

    pub release_answer : (w : ℕ) → w < stripes → s.journal.computed w ≡ true
        → ((e : ℕ) → e < transfers → s.journal.receipted w e ≡ true)
        → step_answer G s (release w) ≡ if (s.journal.released w) already done
    release_answer w l co all = let r = every_intro transfers (s.journal.receipted w) all in
        free_answer s (release w) (not_over, (inside l, (rw co, (rw r, tt))))

    pub close_answer : ((w : ℕ) → w < stripes → s.journal.released w ≡ true) → step_answer G s close ≡ done
    close_answer all = free_answer s close (not_over, (rw (every_intro stripes s.journal.released all), tt))

  -- ---- the world after a step whose answer is known
  pub after_done : (s : World G) (x : Step Block) → step_answer G s x ≡ done → after_step G s x ≡ when_done G s x
  unfolding after_step
  after_done s x e = rw e

  pub after_already : (s : World G) (x : Step Block) → step_answer G s x ≡ already → after_step G s x ≡ when_already G s x
  unfolding after_step
  after_already s x e = rw e
