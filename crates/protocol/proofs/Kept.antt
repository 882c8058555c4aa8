-- Every step keeps the invariant. Assumes nothing.
use mathlib.Core.Path.{◌≡◌, refl, sym, ap, ap₂, ◌∙◌}
use mathlib.Core.Bool.{true, false}
use mathlib.Core.Logic.{inl, inr}
use Prim.Native.Nat.{ℕ, suc, ◌+◌, ◌<◌}
use native.Mathlib.Numerals.{add-one}
use borrow.Author.Tests.{not-false}
use Rattle.base.specs.Tests.{if, same, same2, every}
use Rattle.base.specs.Folds.{indicator}
use Rattle.base.proofs.Tests.{clash, off, below_lt, every_at}
use Rattle.base.proofs.Sums.{total_none, total_set}
use Rattle.base.proofs.Updates.{at, at2, mark_kept, mark_only, mark2_here, mark2_kept, mark2_only}
use Rattle.protocol.specs.Transfers.{Among, Transfer, occurrences}
use Rattle.protocol.specs.Parts.{Message, Growth}
use Rattle.protocol.specs.World.{is_closed, World, begun_world}
use Rattle.protocol.specs.Steps.{Step, compute, send, deliver, receipt, release, close, received, when_done, when_already, after_step}
use Rattle.protocol.specs.Steps.{StepSent}
use Rattle.protocol.specs.Image.{new_row0, moved_row0, new_target, cells_for}
use Rattle.protocol.specs.Invariant.{WrittenMessage, Invariant}
use Rattle.protocol.proofs.Answered.{Passed, when_done_law, when_already_law, by_answer}
use Rattle.protocol.proofs.States.{not_over}

module _ (G : Growth) where
  open G use {Block, zero_block, plus, stripes, transfers, delta0, local_move, start}

  pub begun_invariant : Invariant G (begun_world G)
  unfolding begun_world cells_for occurrences
  begun_invariant = record {
    cells_are = refl;
    ordered = record {
      accepted_computed = λ w e h. h;
      receipted_accepted = λ w e h. h;
      released_receipted = λ w h e l. h;
      released_computed = λ w h. h;
    };
    closed_released = λ h w l. h;
    messages = λ m h. absurd h;
    receipts = λ i h. absurd h;
    delivered = λ w e. refl;
    nothing_else = refl;
    marks = sym (total_none stripes transfers);
  }

  module _ (s : World G) (I : Invariant G s) where
    -- ---- the cells of a stripe, by its marks
    pub source_is : (w : ℕ) → is_closed s.journal.state ≡ false → s.journal.released w ≡ false → s.cells.source w ≡ start.source w
    unfolding cells_for
    source_is w cl re = ap (λ c. c.source w) I.cells_are ∙ (λ i t. image t i)
      where
        image : (t : ℕ) → (cells_for G s.journal).source w t ≡ start.source w t
        image t = rw (cl, re)

    row0_fresh : (w : ℕ) → s.journal.released w ≡ false → s.journal.computed w ≡ false → s.cells.row0 w ≡ start.row0 w
    unfolding cells_for
    row0_fresh w re co = ap (λ c. c.row0 w) I.cells_are ∙ rw (re, co)

    pub row0_computed : (w : ℕ) → s.journal.released w ≡ false → s.journal.computed w ≡ true → s.cells.row0 w ≡ new_row0 G w
    unfolding cells_for
    row0_computed w re co = ap (λ c. c.row0 w) I.cells_are ∙ rw (re, co)

    target_fresh : (w e : ℕ) → s.journal.accepted w e ≡ false → s.cells.target w e ≡ start.target w e
    unfolding cells_for
    target_fresh w e ac = ap (λ c. c.target w e) I.cells_are ∙ rw ac

    -- ---- compute
    kept_compute : (w : ℕ) → is_closed s.journal.state ≡ false → s.journal.computed w ≡ false → Invariant G (when_done G s (compute w))
    unfolding when_done cells_for
    kept_compute w cl co = record {
      cells_are = λ i. record {
        column = (I.cells_are i).column;
        row0 = λ x. rows x i;
        target = (I.cells_are i).target;
        source = (I.cells_are i).source;
        dissolved_row = (I.cells_are i).dissolved_row;
      };
      ordered = record {
        accepted_computed = λ x e h. mark_kept s.journal.computed w x (I.ordered.accepted_computed x e h);
        receipted_accepted = I.ordered.receipted_accepted;
        released_receipted = I.ordered.released_receipted;
        released_computed = λ x h. mark_kept s.journal.computed w x (I.ordered.released_computed x h);
      };
      closed_released = I.closed_released;
      messages = λ m h. let k = I.messages m h in record {
        stripe_lt = k.stripe_lt;
        item_lt = k.item_lt;
        computed = mark_kept s.journal.computed w m.transfer.stripe k.computed;
        payload = k.payload;
      };
      receipts = I.receipts;
      delivered = I.delivered;
      nothing_else = I.nothing_else;
      marks = I.marks;
    }
      where
        re : s.journal.released w ≡ false
        re = off (λ h. clash (I.ordered.released_computed w h) co)

        rows : (x : ℕ) → if (same x w) (plus (s.cells.row0 w) (delta0 w (s.cells.source w))) (s.cells.row0 x)
            ≡ if (s.journal.released x) (moved_row0 G x) (if (if (same x w) true (s.journal.computed x)) (new_row0 G x) (start.row0 x))
        rows x = at x w
            (λ b. if b (plus (s.cells.row0 w) (delta0 w (s.cells.source w))) (s.cells.row0 x)
            ≡ if (s.journal.released x) (moved_row0 G x) (if (if b true (s.journal.computed x)) (new_row0 G x) (start.row0 x)))
            (λ p. rw (p, re, row0_fresh w re co, source_is w cl re))
            (ap (λ c. c.row0 x) I.cells_are)

    -- ---- send
    kept_send : (w e : ℕ) → w < stripes → e < transfers → is_closed s.journal.state ≡ false → s.journal.computed w ≡ true
        → s.journal.released w ≡ false → Invariant G (when_done G s (send w e))
    unfolding when_done
    kept_send w e lw le cl co re = record {
      cells_are = I.cells_are;
      ordered = I.ordered;
      closed_released = I.closed_released;
      messages = λ m. elim [
        | inl p ↦ rw p (record { stripe_lt = lw; item_lt = le; computed = co; payload = rw (source_is w cl re, row0_computed w re co) })
        | inr h ↦ I.messages m h
      ];
      receipts = I.receipts;
      delivered = I.delivered;
      nothing_else = I.nothing_else;
      marks = I.marks;
    }

    -- ---- deliver
    kept_deliver : (node : ℕ) (m : Message Block) → Among m s.trace.messages
        → s.journal.accepted m.transfer.stripe m.transfer.item ≡ false → Invariant G (when_done G s (deliver node m))
    unfolding when_done cells_for occurrences
    kept_deliver node m h ac = record {
      cells_are = λ i. record {
        column = (I.cells_are i).column;
        row0 = (I.cells_are i).row0;
        target = λ x y. targets x y i;
        source = (I.cells_are i).source;
        dissolved_row = (I.cells_are i).dissolved_row;
      };
      ordered = record {
        accepted_computed = λ x y h. elim (mark2_only s.journal.accepted w e x y h)
            [ inl p ↦ ap s.journal.computed p.0 ∙ k.computed | inr h ↦ I.ordered.accepted_computed x y h ];
        receipted_accepted = λ x y h. mark2_kept s.journal.accepted w e x y (I.ordered.receipted_accepted x y h);
        released_receipted = I.ordered.released_receipted;
        released_computed = I.ordered.released_computed;
      };
      closed_released = I.closed_released;
      messages = I.messages;
      receipts = λ i. elim [
        | inl p ↦ rw p (record { stripe_lt = k.stripe_lt; item_lt = k.item_lt; accepted = mark2_here s.journal.accepted w e })
        | inr h ↦ let q = I.receipts i h in record {
          stripe_lt = q.stripe_lt;
          item_lt = q.item_lt;
          accepted = mark2_kept s.journal.accepted w e i.stripe i.item q.accepted;
        }
      ];
      delivered = λ x y. at2 x w y e
          (λ b. if b (suc (occurrences x y s.trace.deliveries)) (occurrences x y s.trace.deliveries)
          ≡ indicator (if b true (s.journal.accepted x y)))
          (λ p q. rw (p, q, I.delivered w e, ac)) (I.delivered x y);
      nothing_else = ap suc I.nothing_else ∙ sym (add-one _);
      marks = let q = total_set stripes transfers s.journal.accepted w e k.stripe_lt k.item_lt ac in
          rw q (ap (λ z. z + 1) I.marks);
    }
      where
        w : ℕ
        w = m.transfer.stripe

        e : ℕ
        e = m.transfer.item

        k : WrittenMessage G s.journal.computed m
        k = I.messages m h

        targets : (x y : ℕ) → if (same2 x w y e) (received G e (s.cells.target w e) m.payload) (s.cells.target x y)
            ≡ if (if (same2 x w y e) true (s.journal.accepted x y)) (new_target G x y) (start.target x y)
        targets x y = at2 x w y e
            (λ b. if b (received G e (s.cells.target w e) m.payload) (s.cells.target x y)
            ≡ if (if b true (s.journal.accepted x y)) (new_target G x y) (start.target x y))
            (λ p q. rw (p, q, target_fresh w e ac, k.payload))
            (ap (λ c. c.target x y) I.cells_are)

    kept_repeat : (node : ℕ) (m : Message Block) → Among m s.trace.messages
        → s.journal.accepted m.transfer.stripe m.transfer.item ≡ true → Invariant G (when_already G s (deliver node m))
    unfolding when_already cells_for
    kept_repeat node m h ac = let k = I.messages m h in record {
      cells_are = I.cells_are;
      ordered = I.ordered;
      closed_released = I.closed_released;
      messages = I.messages;
      receipts = λ i. elim
          [ inl p ↦ rw p (record { stripe_lt = k.stripe_lt; item_lt = k.item_lt; accepted = ac }) | inr h ↦ I.receipts i h ];
      delivered = I.delivered;
      nothing_else = I.nothing_else;
      marks = I.marks;
    }

    -- ---- receipt
    kept_receipt : (node : ℕ) (i : Transfer) → Among i s.trace.receipts → Invariant G (when_done G s (receipt node i))
    unfolding when_done cells_for
    kept_receipt node i h = let k = I.receipts i h in record {
      cells_are = I.cells_are;
      ordered = record {
        accepted_computed = I.ordered.accepted_computed;
        receipted_accepted = λ x y h. elim (mark2_only s.journal.receipted i.stripe i.item x y h)
            [ inl p ↦ ap₂ s.journal.accepted p.0 p.1 ∙ k.accepted | inr h ↦ I.ordered.receipted_accepted x y h ];
        released_receipted = λ w h e l.
            mark2_kept s.journal.receipted i.stripe i.item w e (I.ordered.released_receipted w h e l);
        released_computed = I.ordered.released_computed;
      };
      closed_released = I.closed_released;
      messages = I.messages;
      receipts = I.receipts;
      delivered = I.delivered;
      nothing_else = I.nothing_else;
      marks = I.marks;
    }

    -- ---- release
    kept_release : (w : ℕ) → is_closed s.journal.state ≡ false → s.journal.computed w ≡ true → s.journal.released w ≡ false
        → every transfers (s.journal.receipted w) ≡ true → Invariant G (when_done G s (release w))
    unfolding when_done cells_for
    kept_release w cl co re all = record {
      cells_are = λ i. record {
        column = (I.cells_are i).column;
        row0 = λ x. rows x i;
        target = (I.cells_are i).target;
        source = λ x t. sources x t i;
        dissolved_row = (I.cells_are i).dissolved_row;
      };
      ordered = record {
        accepted_computed = I.ordered.accepted_computed;
        receipted_accepted = I.ordered.receipted_accepted;
        released_receipted = λ x h e l. elim (mark_only s.journal.released w x h) [
          | inl p ↦ ap (λ z. s.journal.receipted z e) p ∙ every_at transfers (s.journal.receipted w) all e l
          | inr h ↦ I.ordered.released_receipted x h e l
        ];
        released_computed = λ x h. elim (mark_only s.journal.released w x h)
            [ inl p ↦ ap s.journal.computed p ∙ co | inr h ↦ I.ordered.released_computed x h ];
      };
      closed_released = λ h x l. mark_kept s.journal.released w x (I.closed_released h x l);
      messages = I.messages;
      receipts = I.receipts;
      delivered = I.delivered;
      nothing_else = I.nothing_else;
      marks = I.marks;
    }
      where
        rows : (x : ℕ) → if (same x w) (local_move w (s.cells.source w) (s.cells.row0 w)) (s.cells.row0 x)
            ≡ if (if (same x w) true (s.journal.released x)) (moved_row0 G x) (if (s.journal.computed x) (new_row0 G x) (start.row0 x))
        rows x = at x w
            (λ b. if b (local_move w (s.cells.source w) (s.cells.row0 w)) (s.cells.row0 x)
            ≡ if (if b true (s.journal.released x)) (moved_row0 G x) (if (s.journal.computed x) (new_row0 G x) (start.row0 x)))
            (λ p. rw (p, source_is w cl re, row0_computed w re co))
            (ap (λ c. c.row0 x) I.cells_are)

        sources : (x t : ℕ) → (if (same x w) (λ t. zero_block) (s.cells.source x)) t
            ≡ if (is_closed s.journal.state) zero_block (if (if (same x w) true (s.journal.released x)) zero_block (start.source x t))
        sources x t = at x w
            (λ b. (if {A = ℕ → Block} b (λ t. zero_block) (s.cells.source x)) t
            ≡ if (is_closed s.journal.state) zero_block (if (if b true (s.journal.released x)) zero_block (start.source x t)))
            (λ p. rw cl)
            (ap (λ c. c.source x t) I.cells_are)

    -- ---- close
    kept_close : every stripes s.journal.released ≡ true → Invariant G (when_done G s close)
    unfolding when_done cells_for
    kept_close all = record {
      cells_are = λ i. record {
        column = (I.cells_are i).column;
        row0 = (I.cells_are i).row0;
        target = (I.cells_are i).target;
        source = λ w t. zero_block;
        dissolved_row = λ g j. zero_block;
      };
      ordered = I.ordered;
      closed_released = λ h. every_at stripes s.journal.released all;
      messages = I.messages;
      receipts = I.receipts;
      delivered = I.delivered;
      nothing_else = I.nothing_else;
      marks = I.marks;
    }

    -- ---- any step
    kept_done : (x : Step Block) → StepSent G s x → Passed G s.journal x false → Invariant G (when_done G s x)
    kept_done (compute w) h p = kept_compute w (not_over s.journal.state p.free.0) p.mark_is
    kept_done (send w e) h p = let f = p.free in
        kept_send w e (below_lt w stripes (not-false _ f.1.0)) (below_lt e transfers (not-false _ f.1.1.0))
        (not_over s.journal.state f.0) (not-false _ f.1.1.1.0) f.1.1.1.1.0
    kept_done (deliver node m) h p = kept_deliver node m h p.mark_is
    kept_done (receipt node i) h p = kept_receipt node i h
    kept_done (release w) h p = let f = p.free in
        kept_release w (not_over s.journal.state f.0) (not-false _ f.1.1.0) p.mark_is (not-false _ f.1.1.1.0)
    kept_done close h p = kept_close (not-false _ p.free.1.0)

    kept_already : (x : Step Block) → StepSent G s x → Passed G s.journal x true → Invariant G (when_already G s x)
    unfolding when_already
    kept_already (compute w) h p = I
    kept_already (send w e) h p = I
    kept_already (deliver node m) h p = kept_repeat node m h p.mark_is
    kept_already (receipt node i) h p = I
    kept_already (release w) h p = I
    kept_already close h p = I

    pub kept : (x : Step Block) → StepSent G s x → Invariant G (after_step G s x)
    kept x h = by_answer G s x (λ a t. Invariant G t) (λ n. I)
        (λ e. kept_already x h (when_already_law G s x e)) (λ e. kept_done x h (when_done_law G s x e))
