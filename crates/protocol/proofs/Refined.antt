-- A machine whose calls follow those of the growth, one by one, has all that is claimed of every history. Assumes nothing.
use mathlib.Core.Path.{◌≡◌, refl, sym, ap, ◌∙◌}
use mathlib.Core.Bool.{Bool, true, false, not, ◌&&◌, ◌||◌, and-true, or-false, or_assoc}
use mathlib.Core.List.{List, [], ◌∷◌, ◌++◌, map}
use Prim.Native.Nat.{ℕ, ◌+◌, ◌≤◌}
use native.Mathlib.Nat.{add-zero, zero-add}
use native.Mathlib.Omega.{arith}
use Rattle.base.proofs.Tests.{and_same}
use Rattle.answer.specs.Answers.{refused, finished, is_done, newly_accepted}
use Rattle.protocol.specs.Parts.{Growth, Promises}
use Rattle.protocol.specs.World.{counts_as_open, is_closed, ended_refusal, begun_world}
use Rattle.protocol.specs.Steps.{compute, release}
use Rattle.protocol.specs.Calls as Calls
use Rattle.protocol.specs.Histories.{Machine, after_all, EachWasSent, all_accepted, close_done, GoesThrough}
use Rattle.protocol.specs.Invariant.{Invariant}
use Rattle.protocol.specs.Completions.{legs, Order, Completes, completion, closing}
use Rattle.protocol.specs.Claims.{unaccepted, DriveAnswers, HistoryClaims}
use Rattle.protocol.specs.Refinement.{View, Refines}
use Rattle.protocol.proofs.Kept.{begun_invariant}
use Rattle.protocol.proofs.Running.{Running}
use Rattle.protocol.proofs.Over.{refused_same, over_refused}
use Rattle.protocol.proofs.Driven.{drive_told}
use Rattle.protocol.proofs.CallsKept.{call_kept}
use Rattle.protocol.proofs.Ends.{when_closed, reads_held}
use Rattle.protocol.proofs.Orders.{some_order}
use Rattle.protocol.proofs.Completed.{completed}
use Rattle.protocol.proofs.Finished.{finished_by, drive_through}
use Rattle.protocol.proofs.Made.{made, through, own_steps}

-- neither this call nor a later one
still_open : (o a b : Bool) → (o && not a) && not b ≡ o && not (a || b)
still_open true true b = refl
still_open true false b = refl
still_open false a b = refl

module _ (G : Growth) (L : Promises G) (M : Machine) (A : View G M) (R : Refines G M A) where
  open G use {Block}
  open A use {Fit, view, meaning, make}

  -- ---- one call of the machine's own, in its own terms
  record Called (c : M.Contents) (k : M.Call) : Type 0 where
    fit : Fit (M.after c k)
    invariant : Invariant G (view (M.after c k))
    counted : (view (M.after c k)).journal.count ≡ (view c).journal.count + newly_accepted (M.is_deliver k) (M.answer c k)
    open_by : counts_as_open (view (M.after c k)).journal.state
        ≡ counts_as_open (view c).journal.state && not (is_done (M.answer c k) && M.is_close k)
    closed_by : is_closed (view (M.after c k)).journal.state
        ≡ is_closed (view c).journal.state || (is_done (M.answer c k) && M.is_close k)

  called : (c : M.Contents) (k : M.Call) → Fit c → Invariant G (view c) → M.WasSent c k → Called c k
  called c k f I h =
      let g = R.follows c k f I h in
      let q = call_kept G L (view c) I (meaning c k) g.was_sent in
      let a = M.answer c k in
      record {
        fit = g.fit;
        invariant = rw g.view_after q.invariant;
        counted = rw (g.view_after, and_same (is_done a) _ _ g.deliver_same, g.answer_same) q.counted;
        open_by = rw (g.view_after, and_same (is_done a) _ _ g.close_same, g.answer_same) q.open_by;
        closed_by = rw (g.view_after, and_same (is_done a) _ _ g.close_same, g.answer_same) q.closed_by;
      }

  -- ---- a history of them
  record Ran (c : M.Contents) (ks : List M.Call) (d : M.Contents) : Type 0 where
    fit : Fit d
    invariant : Invariant G (view d)
    counted : (view d).journal.count ≡ (view c).journal.count + all_accepted M c ks
    open_by : counts_as_open (view d).journal.state ≡ counts_as_open (view c).journal.state && not (close_done M c ks)
    closed_by : is_closed (view d).journal.state ≡ is_closed (view c).journal.state || close_done M c ks

  ran : (ks : List M.Call) (c : M.Contents) → Fit c → Invariant G (view c) → EachWasSent M c ks → Ran c ks (after_all M c ks)
  unfolding after_all EachWasSent all_accepted close_done
  ran [] c f I h = record { fit = f; invariant = I; counted = sym (add-zero _); open_by = sym (and-true _); closed_by = sym (or-false _) }
  ran (k ∷ ks) c f I h =
      let g = called c k f I h.0 in
      let r = ran ks (M.after c k) g.fit g.invariant h.1 in
      let x = r.counted in
      let y = g.counted in
      record {
        fit = r.fit;
        invariant = r.invariant;
        counted = omega arith;
        open_by = r.open_by ∙ (ap (λ b. b && not (close_done M (M.after c k) ks)) g.open_by
            ∙ still_open (counts_as_open (view c).journal.state) (is_done (M.answer c k) && M.is_close k) (close_done M (M.after c k) ks));
        closed_by = r.closed_by ∙ (ap (λ b. b || close_done M (M.after c k) ks) g.closed_by
            ∙ or_assoc (is_closed (view c).journal.state) (is_done (M.answer c k) && M.is_close k) (close_done M (M.after c k) ks));
      }

  -- ---- a growth under way
  completable : (c : M.Contents) → Fit c → Running G (view c) → (o : Order G) → Completes G (view c).journal o
      → GoesThrough M c (map make (completion G o ++ closing G))
  unfolding completion
  completable c f run o h =
      let xs = map compute o.computing ++ (legs G o.transferring ++ map release o.releasing) in
      through G L M A R (completion G o ++ closing G) c f run.invariant (own_steps xs (closing G) (refl, tt))
      (completed G L (view c) run o h)

  drives : (c : M.Contents) → Fit c → Running G (view c) → (limit : ℕ)
      → DriveAnswers G limit (view c).journal (view (M.after c (make (Calls.drive limit)))).journal
      (M.answer c (make (Calls.drive limit)))
  unfolding Calls.answer Calls.after_call
  drives c f run limit =
      let d = made G L M A R c (view c) (Calls.drive limit) f refl run.invariant refl tt in
      rw (d.same, d.told, run.opened) (drive_told G L (view c) run limit)

  finishes : (c : M.Contents) → Fit c → Running G (view c) → (limit : ℕ) → unaccepted G (view c).journal ≤ limit
      → (M.answer c (make (Calls.drive limit)) ≡ finished (unaccepted G (view c).journal))
      × GoesThrough M c (map make (Calls.drive limit ∷ closing G))
  finishes c f run limit h =
      let d = made G L M A R c (view c) (Calls.drive limit) f refl run.invariant refl tt in (
        d.told ∙ finished_by G L (view c) run limit h,
        through G L M A R (Calls.drive limit ∷ closing G) c f run.invariant (refl, (refl, tt)) (drive_through G L (view c) run limit h),
      )

  -- ---- refusals
  unchanged : (c : M.Contents) → Fit c → Invariant G (view c) → (k : M.Call) → M.WasSent c k → (number : ℕ)
      → M.answer c k ≡ refused number
      → view (M.after c k) ≡ view c
  unchanged c f I k h number e =
      let g = R.follows c k f I h in
      g.view_after ∙ refused_same G (view c) (meaning c k) number (sym g.answer_same ∙ e)

  over : (c : M.Contents) → Fit c → Invariant G (view c) → counts_as_open (view c).journal.state ≡ false → (x : Calls.Call Block)
      → Calls.is_own x ≡ true → Calls.WasSent G (view c) x → M.answer c (make x) ≡ refused (ended_refusal (view c).journal.state)
  over c f I e x o h = (made G L M A R c (view c) x f refl I o h).told ∙ over_refused G (view c) x o e

  -- ---- from what begin left
  pub record FromBegun (history : List M.Call) (c : M.Contents) : Type 0 where
    pub fit : Fit c
    pub invariant : Invariant G (view c)
    pub counted : (view c).journal.count ≡ all_accepted M M.begun history
    pub opened : counts_as_open (view c).journal.state ≡ not (close_done M M.begun history)
    pub state : is_closed (view c).journal.state ≡ close_done M M.begun history

  pub from_begun : (history : List M.Call) → EachWasSent M M.begun history → FromBegun history (after_all M M.begun history)
  unfolding begun_world
  from_begun history h =
      let b = R.begun_view in
      let r = ran history M.begun R.begun_fit (rw b (begun_invariant G)) h in
      record {
        fit = r.fit;
        invariant = r.invariant;
        counted = r.counted ∙ rw b (zero-add _);
        opened = r.open_by ∙ rw b;
        state = r.closed_by ∙ rw b;
      }

  pub refined : (history : List M.Call) → EachWasSent M M.begun history → HistoryClaims G M view make history
  refined history h =
      let c = after_all M M.begun history in
      let r = from_begun history h in
      let run : close_done M M.begun history ≡ false → Running G (view c)
      = λ e. record { invariant = r.invariant; opened = r.opened ∙ ap not e } in
      record {
        invariant = r.invariant;
        counted = r.counted;
        reading = reads_held G (view c) r.invariant L;
        unchanged = unchanged c r.fit r.invariant;
        opened = r.opened;
        state = r.state;
        closed = λ e. when_closed G (view c) r.invariant L (r.state ∙ e);
        after_close = λ e. over c r.fit r.invariant (r.opened ∙ ap not e);
        completable = λ e. completable c r.fit (run e);
        some_completion = some_order G (view c).journal;
        drives = λ e. drives c r.fit (run e);
        drive_finishes = λ e. finishes c r.fit (run e);
      }
