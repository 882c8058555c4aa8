-- What demand 3 claims of a history holds of every one. Assumes nothing.
use mathlib.Core.Path.{◌≡◌, sym, ap, ◌∙◌, subst}
use mathlib.Core.Bool.{true, false, not}
use mathlib.Core.List.{List, ◌∷◌, ◌++◌, map}
use Prim.Native.Nat.{ℕ, ◌+◌, ◌≤◌}
use lib.ListN.{length}
use Rattle.answer.specs.Answers.{finished, is_refused}
use Rattle.answer.proofs.Answers.{or_unrefused}
use Rattle.area.specs.Area.{zeros}
use Rattle.area.proofs.Blocks.{length_zeros}
use Rattle.layout.specs.declared.Shape.{Shape}
use Rattle.journal.specs.Journal.{header_of, state_of}
use Rattle.protocol.specs.Parts.{Growth}
use Rattle.protocol.specs.Histories.{after_all, EachWasSent, GoesThrough}
use Rattle.protocol.specs.Claims.{HistoryClaims}
use Rattle.protocol.specs.Invariant.{Invariant}
use Rattle.protocol.specs.Refinement.{View, Refines}
use Rattle.protocol.proofs.Refined.{from_begun, refined}
use Rattle.growth.specs.Begin.{begun_area}
use Rattle.growth.specs.Send.{message_length}
use Rattle.growth.specs.Deliver.{receipt_length}
use Rattle.growth.specs.Drive as Drive
use Rattle.growth.proofs.Allowed.{drive_allowed}
use Rattle.history.specs.Contents.{Contents}
use Rattle.history.specs.Begun.{Begun, begun_contents}
use Rattle.history.specs.DriveSteps.{drive_steps}
use Rattle.history.specs.Calls.{Call, step, drive, answer, after}
use Rattle.history.specs.Completions.{Order, Completes, Spaces, completion, closing}
use Rattle.history.specs.Grown.{Grown}
use Rattle.history.specs.Claims.{unaccepted, begun_store, now, IsHistory, close_succeeded, Demand3}
use Rattle.history.proofs.Growths.{growth_of, view_of, Fit}
use Rattle.history.proofs.LayoutPromises.{layout_promises}
use Rattle.history.proofs.StatesSeen.{open_same}
use Rattle.history.proofs.StepLists.{after_each}
use Rattle.history.proofs.DriveLeads.{drive_follows}
use Rattle.history.proofs.Meaning.{other_refused}
use Rattle.history.proofs.ClosedRefuses.{closed_refuses}
use Rattle.history.proofs.Refining.{make, store_view, store_refines}
use Rattle.history.proofs.GrownArea.{grown_area}
use Rattle.history.proofs.Reading.{readable}
use Rattle.history.proofs.Rebuilding.{rebuilt}
use Rattle.history.proofs.LeftToDo.{completes_marks, marks_complete}
use Rattle.history.proofs.Completing.{completion_made}
use Rattle.history.proofs.Done.{unaccepted_same, done_marks, one_each}

module _ (z : Shape) (area : List ℕ) (number : ℕ) (b : Begun z area number) (history : List Call)
    (sent : IsHistory z area number history) where
  abbrev start : List ℕ
  start = begun_area z area

  abbrev G : Growth
  G = growth_of z start

  abbrev c : Contents
  c = now z area number history

  -- ---- for each choice of message spaces, what the refinement gives

  module _ (spaces : Spaces z) (space : List ℕ) (room : length space ≡ message_length z + receipt_length) where
    abbrev seen : View G (begun_store z area number)
    seen = store_view z area number b spaces space room

    refines : Refines G (begun_store z area number) seen
    refines = store_refines z area number b spaces space room

    claims : HistoryClaims G (begun_store z area number) (view_of z start) (make z number spaces space room) history
    claims = refined G (layout_promises z b.in_ranges start) (begun_store z area number) seen refines history sent

    fits : Fit z number c
    fits = (from_begun G (layout_promises z b.in_ranges start) (begun_store z area number) seen refines history sent).fit

    completes : close_succeeded z area number history ≡ false → (o : Order) → Completes z c.trace o
        → GoesThrough (begun_store z area number) c (completion z area number spaces o ++ closing z)
    completes e o h = subst (GoesThrough (begun_store z area number) c)
        (completion_made z area number b spaces space room c o h)
        (claims.completable e _ (completes_marks z start c fits.marked o h))

    ends : close_succeeded z area number history ≡ false → (limit : ℕ) → unaccepted z c.trace ≤ limit
        → (answer c (drive z space limit) ≡ finished (unaccepted z c.trace))
        × GoesThrough (begun_store z area number) c (drive z space limit ∷ closing z)
    ends e limit l =
        let same = unaccepted_same z number c fits start claims.invariant in
        rw same at (claims.drive_finishes e limit (rw same l))

  -- ---- some message spaces

  some_spaces : Spaces z
  some_spaces = record {
    for_message = λ w e. zeros (message_length z);
    for_receipt = λ w e. zeros receipt_length;
    message_long = λ w e. length_zeros (message_length z);
    receipt_long = λ w e. length_zeros receipt_length;
  }

  some_space : List ℕ
  some_space = zeros (message_length z + receipt_length)

  some_room : length some_space ≡ message_length z + receipt_length
  unfolding some_space
  some_room = length_zeros (message_length z + receipt_length)

  known : HistoryClaims G (begun_store z area number) (view_of z start) (make z number some_spaces some_space some_room) history
  known = claims some_spaces some_space some_room

  fit : Fit z number c
  fit = fits some_spaces some_space some_room

  -- what holds at every point, for what is proved of it elsewhere
  pub in_order : Fit z number (now z area number history)
  in_order = fit

  pub invariant : Invariant (growth_of z (begun_area z area)) (view_of z (begun_area z area) (now z area number history))
  invariant = known.invariant

  -- ---- the claims

  is_grown : close_succeeded z area number history ≡ true → Grown z area c.area c.trace
  is_grown e = grown_area z area number b c fit known.invariant (known.closed e)

  all_over : close_succeeded z area number history ≡ true → (k : Call) → is_refused (answer c k) ≡ true
  all_over e = closed_refuses c
      (sym (open_same z (state_of (header_of c.journal))) ∙ (known.opened ∙ ap not e))

  -- a drive that is not refused is lent a space of exact length
  drive_is_its_steps : (space : List ℕ) (limit : ℕ) → is_refused (answer c (drive z space limit)) ≡ false
      → let steps = map step (drive_steps z c space limit) in
      EachWasSent (begun_store z area number) c steps × (after c (drive z space limit) ≡ after_all (begun_store z area number) c steps)
  unfolding answer Drive.drive
  drive_is_its_steps space limit h =
      let n = or_unrefused (Drive.drive_refusal z (length c.area) c.journal (length space)) _ h in
      let long = (drive_allowed z (length c.area) c.journal (length space) n).1 in
      let q = drive_follows z b.in_ranges start number (begun_contents z area number) c fit known.invariant space long limit in
      (q.steps_sent h, q.steps_leave h ∙ sym (after_each (begun_contents z area number) (drive_steps z c space limit) c))

  pub every_history : Demand3 z area number history
  every_history = record {
    counted = known.counted;
    nothing_else = known.invariant.nothing_else;
    grown = is_grown;
    completable = λ e o h spaces. completes spaces some_space some_room e o h;
    some_completion = let (o, h) = known.some_completion in (_, marks_complete z start c fit.marked o h);
    readable = readable z area number b c fit known.reading;
    rebuilt = λ e bytes w l. rebuilt z b.in_ranges area c.area c.trace (is_grown e) w l bytes;
    finishes = λ e space room. ends some_spaces space room e;
    others_refused = other_refused z b.in_ranges number c fit;
    after_close = all_over;
    drive_is_its_steps = drive_is_its_steps;
    whole = fit.whole;
    same_growth = fit.number_is;
    marks = done_marks z number c fit start known.invariant;
    one_each = one_each z number c fit area b known.invariant;
  }
