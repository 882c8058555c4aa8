-- A drive keeps the growth under way and counts what it accepts; with a limit of at least the unaccepted transfers it releases every
-- stripe. Assumes nothing.
use mathlib.Core.Path.{◌≡◌, refl, sym, ap, ◌∙◌}
use mathlib.Core.Bool.{Bool, true, false, not, and-false}
use mathlib.Core.Logic.{inl, inr}
use Prim.Native.Nat.{ℕ, suc, ◌+◌, ◌*◌, ◌≤◌, ◌<◌}
use native.Mathlib.Nat.{add-zero, eq-or-lt_of_le, le_of_suc-le-suc}
use native.Mathlib.Omega.{arith}
use Rattle.base.specs.Tests.{if}
use Rattle.base.specs.Folds.{indicator, total}
use Rattle.base.proofs.Choice.{if_cases}
use Rattle.base.proofs.Tests.{clash, off, below_le}
use Rattle.base.proofs.Sums.{total_room, total_rest, total_full}
use Rattle.answer.specs.Answers.{already, done}
use Rattle.protocol.specs.Parts.{Growth, Promises}
use Rattle.protocol.specs.World.{Journal, World}
use Rattle.protocol.specs.Steps.{Step, compute, release, step_answer, after_step, StepSent}
use Rattle.protocol.specs.Drive.{Progress, goes_on, stops_at, step_on, has_room, drive_transfer, driven, drive_answer}
use Rattle.protocol.specs.DriveRule.{DriveRule}
use Rattle.protocol.specs.Calls.{step, is_deliver, is_close, pass_transfer, world_drive, driven_world}
use Rattle.protocol.specs.Claims.{unaccepted, DriveAnswers, all_released, one_left}
use Rattle.protocol.proofs.Answered.{compute_answer, release_answer}
use Rattle.protocol.proofs.Grows.{grows}
use Rattle.protocol.proofs.Counting.{count_told}
use Rattle.protocol.proofs.Leaves.{computed_after, released_after}
use Rattle.protocol.proofs.Running.{Running, running_after}
use Rattle.protocol.proofs.Transferred.{transferred}
use Rattle.protocol.proofs.DriveRule.{between_stripes, drive_rule}

-- what holds below n and at n holds below n + 1
one_more : (f : ℕ → Bool) (n : ℕ) → ((i : ℕ) → i < n → f i ≡ true) → f n ≡ true → (i : ℕ) → i < suc n → f i ≡ true
one_more f n h e i l = elim (eq-or-lt_of_le (le_of_suc-le-suc l)) [ inl p ↦ ap f p ∙ e | inr k ↦ h i k ]

module _ (G : Growth) (L : Promises G) where
  open G use {Block, stripes, transfers}

  -- a transfer that is not accepted
  pub record OneLeft (j : Journal) : Type 0 where
    pub stripe : ℕ
    pub item : ℕ
    pub stripe_lt : stripe < stripes
    pub item_lt : item < transfers
    pub left : j.accepted stripe item ≡ false

  -- ---- along a drive of this limit that began with so many accepted
  module _ (limit before : ℕ) where
    -- at every point: the count is what it was with what was accepted since; a drive that has stopped has used up its limit, and a
    -- transfer is left
    pub record Along (r : Progress (World G)) : Type 0 where
      pub running : Running G r.contents
      pub counted : r.contents.journal.count ≡ before + r.accepted
      pub stopped_early : r.stopped ≡ true → (limit ≤ r.accepted) × OneLeft r.contents.journal

    -- before stripe n: those below are released
    pub record Between (n : ℕ) (r : Progress (World G)) : Type 0 where
      pub along : Along r
      pub released : r.stopped ≡ false → (w : ℕ) → w < n → r.contents.journal.released w ≡ true

    -- in stripe w, before transfer n: w is computed, and the transfers below are receipted
    record Within (w n : ℕ) (r : Progress (World G)) : Type 0 where
      between : Between w r
      computed : r.stopped ≡ false → r.contents.journal.computed w ≡ true
      receipted : r.stopped ≡ false → (e : ℕ) → e < n → r.contents.journal.receipted w e ≡ true

    -- of a drive that has stopped nothing more is asked
    halted : (w n : ℕ) (r : Progress (World G)) → r.stopped ≡ true → Along r → Within w n r
    halted w n r p a = record {
      between = record { along = a; released = λ q. absurd (clash p q) };
      computed = λ q. absurd (clash p q);
      receipted = λ q. absurd (clash p q);
    }

    along_step : (r : Progress (World G)) (x : Step Block) (b : Bool) → StepSent G r.contents x → is_close (step x) ≡ false
        → is_deliver (step x) ≡ false → step_answer G r.contents x ≡ if b already done → Along r
        → Along (goes_on (after_step G r.contents x) r.accepted)
    along_step r x b h o d e a = record {
      running = running_after G r.contents x h o a.running;
      counted = count_told G r.contents x b e ∙ rw (d, and-false, add-zero) a.counted;
      stopped_early = λ q. absurd (clash q refl);
    }

    enter : (w : ℕ) → w < stripes → (r : Progress (World G)) → Between w r → Within w 0 (step_on ((world_drive G).compute_on w) r)
    enter w lw r h = if_cases (Within w 0) r.stopped _ _
        (λ p. halted w 0 r p h.along)
        (λ p. record {
          between = record {
            along = along_step r (compute w) (s.journal.computed w) tt refl refl e h.along;
            released = λ q x l. (grows G s (compute w)).released x (h.released p x l);
          };
          computed = λ q. computed_after G s w e;
          receipted = λ q x l. absurd (omega arith);
        })
      where
        s : World G
        s = r.contents

        e : step_answer G s (compute w) ≡ if (s.journal.computed w) already done
        e = compute_answer G s h.along.running.opened w lw

    -- a transfer that is passed on
    passed : (w e : ℕ) → w < stripes → e < transfers → (r : Progress (World G)) (n : ℕ) → r.stopped ≡ false
        → r.contents.journal.receipted w e ≡ false
        → before + n ≡ r.contents.journal.count + indicator (not (r.contents.journal.accepted w e)) → Within w e r
        → Within w (suc e) (goes_on (pass_transfer G w e r.contents) n)
    passed w e lw le r n p q c h =
        let s = r.contents in
        let t = transferred G L s w e lw le q (record { running = h.between.along.running; computed = h.computed p }) in
        record {
          between = record {
            along = record { running = t.still.running; counted = t.counted ∙ sym c; stopped_early = λ z. absurd (clash z refl) };
            released = λ z x l. t.grown.released x (h.between.released p x l);
          };
          computed = λ z. t.still.computed;
          receipted = λ z. one_more ((pass_transfer G w e s).journal.receipted w) e
              (λ x l. t.grown.receipted w x (h.receipted p x l)) t.receipted;
        }

    -- the limit is used up at a transfer that is not accepted
    stops : (w e : ℕ) → w < stripes → e < transfers → (r : Progress (World G)) → has_room (world_drive G) limit r ≡ false
        → r.contents.journal.accepted w e ≡ false → Along r
        → Along (stops_at r.contents r.accepted)
    stops w e lw le r p ac a = record {
      running = a.running;
      counted = a.counted;
      stopped_early = λ z. (below_le _ _ p, record { stripe = w; item = e; stripe_lt = lw; item_lt = le; left = ac });
    }

    next : (w e : ℕ) → w < stripes → e < transfers → (r : Progress (World G)) → Within w e r
        → Within w (suc e) (drive_transfer (world_drive G) limit w e r)
    unfolding drive_transfer
    next w e lw le r h = if_cases (Within w (suc e)) r.stopped _ _
        (λ p. halted w (suc e) r p h.between.along)
        (λ p. if_cases (Within w (suc e)) (s.journal.receipted w e) _ _
        (λ q. record {
          between = h.between;
          computed = h.computed;
          receipted = λ z. one_more (s.journal.receipted w) e (h.receipted z) q;
        })
        (λ q. if_cases (Within w (suc e)) (s.journal.accepted w e) _ _
        (λ m. passed w e lw le r r.accepted p q (rw m (sym n ∙ sym (add-zero _))) h)
        (λ m. if_cases (Within w (suc e)) (has_room (world_drive G) limit r) _ _
        (λ f. passed w e lw le r (r.accepted + 1) p q (rw m (omega (arith, n))) h)
        (λ f. halted w (suc e) _ refl (stops w e lw le r f m h.between.along)))))
      where
        s : World G
        s = r.contents

        n : s.journal.count ≡ before + r.accepted
        n = h.between.along.counted

    leave : (w : ℕ) → w < stripes → (r : Progress (World G)) → Within w transfers r
        → Between (suc w) (step_on ((world_drive G).release_on w) r)
    leave w lw r h = if_cases (Between (suc w)) r.stopped _ _
        (λ p. record { along = h.between.along; released = λ q. absurd (clash p q) })
        (λ p. let e = release_answer G s h.between.along.running.opened w lw (h.computed p) (h.receipted p) in record {
          along = along_step r (release w) (s.journal.released w) tt refl refl e h.between.along;
          released = λ q. one_more (after_step G s (release w)).journal.released w
              (λ x l. (grows G s (release w)).released x (h.between.released p x l)) (released_after G s w e);
        })
      where
        s : World G
        s = r.contents

  -- ---- a whole drive
  module _ (s : World G) (run : Running G s) (limit : ℕ) where
    pub at_end : Between limit s.journal.count stripes (driven_world G limit s)
    unfolding driven
    at_end = between_stripes (world_drive G) limit (Between limit n) (Within limit n) stripes transfers
        (enter limit n) (next limit n) (leave limit n) stripes (omega arith) _ (record {
          along = record { running = run; counted = sym (add-zero _); stopped_early = λ z. absurd (clash z refl) };
          released = λ z w l. absurd (omega arith);
        })
      where
        n : ℕ
        n = s.journal.count

    -- what is left and what was accepted since make what was unaccepted; where a transfer is left, more than what was accepted
    left_over : (driven_world G limit s).stopped ≡ true → limit < unaccepted G s.journal
    left_over p =
        let (full, one) = at_end.along.stopped_early p in
        let I = at_end.along.running.invariant in
        let j = (driven_world G limit s).contents.journal in
        let room : total stripes transfers j.accepted < stripes * transfers
        = total_room stripes transfers j.accepted one.stripe one.item one.stripe_lt one.item_lt one.left in
        let n = I.marks in
        let c = at_end.along.counted in
        let m = run.invariant.marks in
        let t = total_rest stripes transfers s.journal.accepted in
        omega arith

    -- with a limit of at least the unaccepted transfers it does not stop
    pub not_stopped : unaccepted G s.journal ≤ limit → (driven_world G limit s).stopped ≡ false
    not_stopped h = off (λ p. let l = left_over p in omega arith)

    -- a drive that has not stopped has accepted all that was left
    pub all_accepted_law : (driven_world G limit s).stopped ≡ false → (driven_world G limit s).accepted ≡ unaccepted G s.journal
    all_accepted_law p =
        let j = (driven_world G limit s).contents.journal in
        let I = at_end.along.running.invariant in
        let f : total stripes transfers j.accepted ≡ stripes * transfers = total_full stripes transfers j.accepted
        (λ w e lw le. I.ordered.receipted_accepted w e (I.ordered.released_receipted w (at_end.released p w lw) e le)) in
        let n = I.marks in
        let c = at_end.along.counted in
        let m = run.invariant.marks in
        let t = total_rest stripes transfers s.journal.accepted in
        omega arith

    -- what it answers
    pub drive_told : DriveAnswers G limit s.journal (driven_world G limit s).contents.journal (drive_answer (driven_world G limit s))
    drive_told =
        if_cases (DriveAnswers G limit s.journal (driven_world G limit s).contents.journal) (driven_world G limit s).stopped _ _
        (λ p. let o = (at_end.along.stopped_early p).1 in
        rw (rule.spent_all p) (one_left o.stripe o.item o.stripe_lt o.item_lt o.left))
        (λ p. let e = all_accepted_law p in let l = rule.within in rw e (all_released (omega arith) (at_end.released p)))
      where
        rule : DriveRule limit (driven_world G limit s)
        rule = drive_rule (world_drive G) limit stripes transfers s
