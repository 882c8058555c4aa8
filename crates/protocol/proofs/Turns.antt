-- The middle of a completion: every unreceipted transfer is sent, delivered and receipted, in any order, interleaved or not.
-- Assumes nothing.
use mathlib.Core.Path.{◌≡◌, refl, sym, ◌∙◌, subst}
use mathlib.Core.Bool.{Bool, true, false}
use mathlib.Core.List.{List, [], ◌∷◌, map}
use mathlib.Core.Logic.{inl, inr}
use Prim.Native.Nat.{ℕ, zero, suc, ◌<◌}
use Rattle.base.specs.Tests.{if}
use Rattle.base.proofs.Tests.{clash, off, lt_below, same2_refl}
use Rattle.base.proofs.Updates.{at2}
use Rattle.protocol.specs.Transfers.{Among, Transfer, occurrences}
use Rattle.answer.specs.Answers.{refused, done}
use Rattle.protocol.specs.Parts.{Growth, Promises}
use Rattle.protocol.specs.World.{World}
use Rattle.protocol.specs.Steps.{Step, send, step_answer, after_step, StepSent}
use Rattle.protocol.specs.Calls.{step, is_close, answer, after_call}
use Rattle.protocol.specs.Histories.{after_all, EachWasSent, NoneRefused}
use Rattle.protocol.specs.Without.{world_machine}
use Rattle.protocol.specs.Invariant.{Invariant}
use Rattle.protocol.specs.Completions.{NamesThrice, message_of, leg_of, legs}
use Rattle.protocol.proofs.Lists.{transfer_path}
use Rattle.answer.proofs.Answers.{not_refused}
use Rattle.protocol.proofs.Answered.{send_answer, deliver_answer, receipt_answer}
use Rattle.protocol.proofs.States.{open_not_closed, is_release, same_released}
use Rattle.protocol.proofs.Kept.{source_is, row0_computed}
use Rattle.protocol.proofs.Grows.{grows}
use Rattle.protocol.proofs.Leaves.{receipted_after, receipt_written, message_written}
use Rattle.protocol.proofs.Running.{Running, running_after}
use Rattle.protocol.proofs.Histories.{Passes, passes_none}
use Rattle.protocol.proofs.Named.{InRange}

module _ (G : Growth) where
  open G use {Block, stripes, transfers, sender, receiver}

  -- ---- what a transfer needs that is still named so many times
  abbrev pub Ready : World G → Transfer → ℕ → Type 0
  Ready s i zero = s.journal.receipted i.stripe i.item ≡ true
  Ready s i (suc zero) = Among i s.trace.receipts
  Ready s i (suc (suc zero)) = Among (message_of G i) s.trace.messages
  Ready s i (suc (suc (suc k))) = s.journal.released i.stripe ≡ false

  still_ready : (s : World G) (x : Step Block) → is_release G x ≡ false → (i : Transfer) (k : ℕ) → Ready s i k
      → Ready (after_step G s x) i k
  still_ready s x q i zero h = (grows G s x).receipted i.stripe i.item h
  still_ready s x q i (suc zero) h = (grows G s x).receipts i h
  still_ready s x q i (suc (suc zero)) h = (grows G s x).messages (message_of G i) h
  still_ready s x q i (suc (suc (suc k))) h = rw (same_released G s x q) h

  -- before the first turn: a transfer that is receipted is not named, any other three times, and its stripe is unreleased
  pub ready_first : (s t : World G) → Invariant G s
      → ((w e : ℕ) → s.journal.receipted w e ≡ true → t.journal.receipted w e ≡ true)
      → t.journal.released ≡ s.journal.released → (is : List Transfer) → NamesThrice G s.journal.receipted is
      → (i : Transfer) → InRange G i → Ready t i (occurrences i.stripe i.item is)
  unfolding NamesThrice
  ready_first s t I more same is h i l = go (s.journal.receipted i.stripe i.item) refl
    where
      go : (b : Bool) → s.journal.receipted i.stripe i.item ≡ b → Ready t i (occurrences i.stripe i.item is)
      go true e =
          rw (h i.stripe i.item, lt_below i.stripe stripes l.0, lt_below i.item transfers l.1, e)
          (more i.stripe i.item e)
      go false e =
          rw (h i.stripe i.item, lt_below i.stripe stripes l.0, lt_below i.item transfers l.1, e)
          (rw same (off (λ k. clash (I.ordered.released_receipted i.stripe k i.item l.1) e)))

  -- ---- one turn
  -- it neither releases nor closes
  record Quiet (x : Step Block) : Type 0 where
    releases_none : is_release G x ≡ false
    closes_none : is_close (step x) ≡ false

  quiet_turn : (i : Transfer) (k : ℕ) → Quiet (leg_of G k i)
  unfolding leg_of
  quiet_turn i zero = record { releases_none = refl; closes_none = refl }
  quiet_turn i (suc zero) = record { releases_none = refl; closes_none = refl }
  quiet_turn i (suc (suc k)) = record { releases_none = refl; closes_none = refl }

  record Taken (s : World G) (i : Transfer) (k : ℕ) : Type 0 where
    sent : StepSent G s (leg_of G k i)
    answered : (number : ℕ) → step_answer G s (leg_of G k i) ≡ refused number → ⊥
    ready : Ready (after_step G s (leg_of G k i)) i k

  module _ (L : Promises G) where
    module _ (s : World G) (run : Running G s) (i : Transfer) (l : InRange G i) (co : s.journal.computed i.stripe ≡ true) where
      record SentNow : Type 0 where
        answered : step_answer G s (send i.stripe i.item) ≡ done
        written : Among (message_of G i) (after_step G s (send i.stripe i.item)).trace.messages

      -- what is sent is the one message of the transfer
      sends : s.journal.released i.stripe ≡ false → SentNow
      sends re =
          let w = i.stripe in
          let e = i.item in
          let a = send_answer G s run.opened w e l.0 l.1 co re in
          let cl = open_not_closed s.journal.state run.opened in
          record {
            answered = a;
            written = rw (source_is G s run.invariant w cl re, row0_computed G s run.invariant w re co)
                at (message_written G s w e a);
          }

      taken : (k : ℕ) → Ready s i (suc k) → Taken s i k
      unfolding leg_of
      taken zero h =
          let b = s.journal.receipted i.stripe i.item in
          let a = receipt_answer G s run.opened i (L.sender_lt i.stripe l.0) co in
          record { sent = h; answered = not_refused b _ a; ready = receipted_after G s (sender i.stripe) i a }
      taken (suc zero) h =
          let v = receiver i.stripe i.item in
          let b = s.journal.accepted i.stripe i.item in
          let a = deliver_answer G s run.opened (message_of G i) (L.receiver_lt i.stripe i.item l.0 l.1) in
          record { sent = h; answered = not_refused b _ a; ready = receipt_written G s v (message_of G i) b a }
      taken (suc (suc zero)) h = let t = sends h in record { sent = tt; answered = not_refused false _ t.answered; ready = t.written }
      taken (suc (suc (suc k))) h = let t = sends h in
          record {
            sent = tt;
            answered = not_refused false _ t.answered;
            ready =
                rw (same_released G s (send i.stripe i.item) refl) h;
          }

    -- ---- all turns
    pub record Turned (s : World G) (is : List Transfer) (t : World G) : Type 0 where
      pub passes : Passes (world_machine G) s (map step (legs G is))
      pub running : Running G t
      pub marked : (i : Transfer) → InRange G i → t.journal.receipted i.stripe i.item ≡ true
      pub computed : (w : ℕ) → s.journal.computed w ≡ true → t.journal.computed w ≡ true
      pub released : t.journal.released ≡ s.journal.released

    pub turn_all : (is : List Transfer) (s : World G) → Running G s → ((w : ℕ) → w < stripes → s.journal.computed w ≡ true)
        → ((i : Transfer) → Among i is → InRange G i)
        → ((i : Transfer) → InRange G i → Ready s i (occurrences i.stripe i.item is))
        → Turned s is (after_all (world_machine G) s (map step (legs G is)))
    unfolding legs after_all after_call answer EachWasSent NoneRefused occurrences
    turn_all [] s run co lo re =
        record { passes = passes_none (world_machine G) s; running = run; marked = re; computed = λ w h. h; released = refl }
    turn_all (j ∷ is) s run co lo re =
        let k = occurrences j.stripe j.item is in
        let x = leg_of G k j in
        let q = quiet_turn j k in
        let l = lo j (inl refl) in
        let t = taken s run j l (co j.stripe l.0) k (rw (same2_refl j.stripe j.item) at (re j l)) in
        let u = after_step G s x in
        let r = turn_all is u (running_after G s x t.sent q.closes_none run) (λ w h. (grows G s x).computed w (co w h))
        (λ i h. lo i (inr h))
        (λ i h. (at2 i.stripe j.stripe i.item j.item
        (λ b. Ready s i (if b (suc (occurrences i.stripe i.item is)) (occurrences i.stripe i.item is))
        → Ready u i (occurrences i.stripe i.item is))
        (λ p e z. subst (λ i. Ready u i (occurrences i.stripe i.item is)) (transfer_path j i (sym p) (sym e)) t.ready)
        (λ z. still_ready s x q.releases_none i (occurrences i.stripe i.item is) z)) (re i h)) in
        record {
          passes = record {
            each_was_sent = (t.sent, r.passes.each_was_sent);
            none_refused = (t.answered, r.passes.none_refused);
          };
          running = r.running;
          marked = r.marked;
          computed = λ w h. r.computed w ((grows G s x).computed w h);
          released = r.released ∙ same_released G s x q.releases_none;
        }
