-- Drive with the growth's own shape and exact lengths does what the growth's drive does, and leaves what its steps leave. Assumes nothing.
use mathlib.Core.Path.{◌≡◌, refl, ap, ◌∙◌}
use mathlib.Core.Bool.{Bool, true, false}
use mathlib.Core.List.{List, [], map}
use Prim.Native.Nat.{ℕ, ◌+◌}
use native.Mathlib.Omega.{arith}
use lib.ListN.{length, length-drop}
use lib.Seq.{length-take-le}
use borrow.Author.Tests.{lt-ltb}
use Rattle.base.proofs.Tests.{clash}
use Rattle.answer.specs.Answers.{is_refused}
use Rattle.layout.specs.declared.Shape.{Shape}
use Rattle.layout.specs.Ranges.{InRanges}
use Rattle.layout.specs.Counts.{kept, transfers}
use Rattle.protocol.specs.Parts.{Growth}
use Rattle.protocol.specs.World.{counts_as_open, ended_refusal}
use Rattle.protocol.specs.Calls as Calls
use Rattle.protocol.specs.Drive.{drive_answer}
use Rattle.protocol.specs.Histories.{EachWasSent}
use Rattle.protocol.specs.Invariant.{Invariant}
use Rattle.protocol.proofs.Over.{number_positive}
use Rattle.protocol.proofs.DriveRefined.{DriveRefines, drive_led}
use Rattle.growth.specs.Send.{message_length}
use Rattle.growth.specs.Deliver.{receipt_length}
use Rattle.growth.specs.Drive as Drive
use Rattle.history.specs.Contents.{Contents}
use Rattle.history.specs.Steps.{compute, release, after_step, after_steps}
use Rattle.history.specs.DriveSteps.{Driving, compute_on, release_on, steps_drive, driven_steps, drive_steps}
use Rattle.history.specs.Calls.{step, drive, answer, after, store}
use Rattle.history.proofs.Growths.{growth_of, view_of, Fit}
use Rattle.history.proofs.LayoutPromises.{layout_promises}
use Rattle.history.proofs.StepsTold.{drive_refusal_law}
use Rattle.history.proofs.StepFollows.{compute_follows, release_follows}
use Rattle.history.proofs.StepLists.{none_sent}
use Rattle.history.proofs.DriveSame.{drive_runs, drive_refused, drive_stays}
use Rattle.history.proofs.DriveOrder.{reached, view_in, InOrder, Leaves, one_more}
use Rattle.history.proofs.DriveLegs.{passes_on}

module _ (z : Shape) (ok : InRanges z) (start : List ℕ) (number : ℕ) (begun first : Contents) where
  abbrev G : Growth
  G = growth_of z start

  module _ (d : Driving) (o : InOrder z start number begun first d) (w : ℕ) where
    compute_left : Leaves z start number begun first (reached z start number begun first d) (compute z w) (compute_on z w d).store
    unfolding Drive.compute_on after_step
    compute_left = record {
      area_left = rw (o.area_same, o.journal_same);
      journal_left = rw (o.area_same, o.journal_same);
      message_long = o.message_long;
      receipt_long = o.receipt_long;
    }

    release_left : Leaves z start number begun first (reached z start number begun first d) (release z w) (release_on z w d).store
    unfolding Drive.release_on after_step
    release_left = record {
      area_left = rw (o.area_same, o.journal_same);
      journal_left = rw (o.area_same, o.journal_same);
      message_long = o.message_long;
      receipt_long = o.receipt_long;
    }

  refines : DriveRefines G (steps_drive z) (InOrder z start number begun first) (view_in z start number begun first)
  refines = record {
    accepted_same = λ d w e lw le o. rw (o.fit.journal_same, lt-ltb w (kept z) lw, lt-ltb e (transfers z) le);
    receipted_same = λ d w e lw le o. rw (o.fit.journal_same, lt-ltb w (kept z) lw, lt-ltb e (transfers z) le);
    computes = λ d w lw o. one_more z start number begun first d o.fit (compute z w) (Drive.compute_on z w) _
        (compute_follows z ok start number _ o.fit.fit w) tt (compute_left d o.fit w);
    passes = λ d w e lw le o co nr. passes_on z ok start number begun first d o.fit w e lw le nr
        (record { running = record { invariant = o.invariant; opened = o.opened }; computed = co });
    releases = λ d w lw o. one_more z start number begun first d o.fit (release z w) (Drive.release_on z w) _
        (release_follows z ok start number _ o.fit.fit w) tt (release_left d o.fit w);
  }

-- contents are their three parts
contents_path : (a b : Contents) → a.area ≡ b.area → a.journal ≡ b.journal → a.trace ≡ b.trace → a ≡ b
contents_path a b p q r = λ i. record { area = p i; journal = q i; trace = r i }

module _ (z : Shape) (ok : InRanges z) (start : List ℕ) (number : ℕ) (begun c : Contents) (f : Fit z number c)
    (I : Invariant (growth_of z start) (view_of z start c)) (space : List ℕ) (long : length space ≡ message_length z + receipt_length)
    (limit : ℕ)
  where
    abbrev lent : Driving
    lent = record { store = Drive.lent_store z c.area c.journal space; steps = [] }

    lent_order : InOrder z start number begun c lent
    unfolding after_steps
    lent_order = record {
      fit = f;
      area_same = refl;
      journal_same = refl;
      message_long = length-take-le (message_length z) space (omega arith);
      receipt_long = length-drop (message_length z) space ∙ omega arith;
      each_was_sent = none_sent begun c;
    }

    -- what drive leaves, how it is seen, and that its steps leave it
    pub record DriveFollowed : Type 0 where
      pub told_same : answer c (drive z space limit) ≡ Calls.answer (growth_of z start) (view_of z start c) (Calls.drive limit)
      pub seen : view_of z start (after c (drive z space limit))
          ≡ Calls.after_call (growth_of z start) (view_of z start c) (Calls.drive limit)
      pub fit : Fit z number (after c (drive z space limit))
      pub steps_sent : is_refused (answer c (drive z space limit)) ≡ false
          → EachWasSent (store begun) c (map step (drive_steps z c space limit))
      pub steps_leave : is_refused (answer c (drive z space limit)) ≡ false
          → after c (drive z space limit) ≡ after_steps c (drive_steps z c space limit)

    when_open : counts_as_open (view_of z start c).journal.state ≡ true → DriveFollowed
    unfolding Calls.answer Calls.after_call driven_steps after_steps
    when_open h =
        let passes = rw h at (drive_refusal_law z ok start number c f (length space) long) in
        let runs = drive_runs z limit c space passes in
        let (same, there) = drive_led (growth_of z start) (layout_promises z ok start) (steps_drive z) (InOrder z start number begun c)
        (view_in z start number begun c) (refines z ok start number begun c) limit lent
        (record { fit = lent_order; invariant = I; opened = h }) in
        let left = contents_path _ _ (runs.area_left ∙ there.fit.area_same) (runs.journal_left ∙ there.fit.journal_same)
        runs.trace_left in
        record {
          told_same = runs.told ∙ rw h (ap drive_answer same);
          seen = rw (left, h) (ap (λ r. r.contents) same);
          fit = rw left there.fit.fit;
          steps_sent = λ n. there.fit.each_was_sent;
          steps_leave = λ n. left;
        }

    when_over : counts_as_open (view_of z start c).journal.state ≡ false → DriveFollowed
    unfolding Calls.answer Calls.after_call
    when_over h =
        let stops = rw h at (drive_refusal_law z ok start number c f (length space) long) in
        let told = drive_refused z limit c space (ended_refusal (view_of z start c).journal.state)
        (number_positive (view_of z start c).journal.state) stops in
        let left = drive_stays z limit c space (ended_refusal (view_of z start c).journal.state) told in
        record {
          told_same = told ∙ rw h;
          seen = rw (left, h);
          fit = rw left f;
          steps_sent = λ n. absurd (clash (ap is_refused told) n);
          steps_leave = λ n. absurd (clash (ap is_refused told) n);
        }

    pub drive_follows : DriveFollowed
    drive_follows = go (counts_as_open (view_of z start c).journal.state) refl
      where
        go : (b : Bool) → counts_as_open (view_of z start c).journal.state ≡ b → DriveFollowed
        go true = when_open
        go false = when_over
