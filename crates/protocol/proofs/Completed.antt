-- From a growth under way every completion that the paper allows goes through, and close then succeeds. Assumes nothing.
use mathlib.Core.Path.{◌≡◌, refl, ap, ◌∙◌}
use mathlib.Core.Bool.{true}
use mathlib.Core.List.{List, [], ◌∷◌, ◌++◌, map, map-append}
use mathlib.Core.Logic.{inl, inr}
use Prim.Native.Nat.{ℕ, ◌<◌}
use Rattle.protocol.specs.Transfers.{Among, Transfer}
use Rattle.protocol.specs.Parts.{Growth, Promises}
use Rattle.protocol.specs.World.{World}
use Rattle.protocol.specs.Steps.{compute, release, after_step}
use Rattle.protocol.specs.Calls.{step, answer, after_call}
use Rattle.protocol.specs.Histories.{after_all, EachWasSent, NoneRefused, GoesThrough}
use Rattle.protocol.specs.Without.{world_machine}
use Rattle.protocol.specs.Completions.{legs, Order, Completes, completion, closing}
use Rattle.answer.proofs.Answers.{not_refused}
use Rattle.protocol.proofs.Answered.{compute_answer, release_answer}
use Rattle.protocol.proofs.States.{same_released}
use Rattle.protocol.proofs.Grows.{grows}
use Rattle.protocol.proofs.Leaves.{computed_after, released_after}
use Rattle.protocol.proofs.Running.{Running, running_after}
use Rattle.protocol.proofs.Closing.{closes_now}
use Rattle.protocol.proofs.Histories.{after_both, Passes, passes_none, passes_both, through_both}
use Rattle.protocol.proofs.Named.{InRange, once_low, once_all, thrice_low}
use Rattle.protocol.proofs.Turns.{ready_first, turn_all}

module _ (G : Growth) where
  open G use {stripes}

  -- ---- computes
  record Computed (s : World G) (ws : List ℕ) (t : World G) : Type 0 where
    passes : Passes (world_machine G) s (map step (map compute ws))
    running : Running G t
    marked : (w : ℕ) → Among w ws → t.journal.computed w ≡ true
    computed : (w : ℕ) → s.journal.computed w ≡ true → t.journal.computed w ≡ true
    receipted : (w e : ℕ) → s.journal.receipted w e ≡ true → t.journal.receipted w e ≡ true
    released : t.journal.released ≡ s.journal.released

  compute_all : (ws : List ℕ) (s : World G) → Running G s → ((w : ℕ) → Among w ws → w < stripes)
      → Computed s ws (after_all (world_machine G) s (map step (map compute ws)))
  unfolding after_all after_call answer EachWasSent NoneRefused
  compute_all [] s run l = record {
    passes = passes_none (world_machine G) s;
    running = run;
    marked = λ w h. absurd h;
    computed = λ w h. h;
    receipted = λ w e h. h;
    released = refl;
  }
  compute_all (x ∷ ws) s run l =
      let a = compute_answer G s run.opened x (l x (inl refl)) in
      let g = grows G s (compute x) in
      let r = compute_all ws (after_step G s (compute x)) (running_after G s (compute x) tt refl run) (λ w h. l w (inr h)) in
      record {
        passes = record {
          each_was_sent = (tt, r.passes.each_was_sent);
          none_refused = (not_refused (s.journal.computed x) _ a, r.passes.none_refused);
        };
        running = r.running;
        marked = λ w. elim [ inl p ↦ r.computed w (rw p (computed_after G s x a)) | inr h ↦ r.marked w h ];
        computed = λ w h. r.computed w (g.computed w h);
        receipted = λ w e h. r.receipted w e (g.receipted w e h);
        released = r.released ∙ same_released G s (compute x) refl;
      }

  -- ---- releases
  record Released (s : World G) (ws : List ℕ) (t : World G) : Type 0 where
    passes : Passes (world_machine G) s (map step (map release ws))
    running : Running G t
    marked : (w : ℕ) → Among w ws → t.journal.released w ≡ true
    released : (w : ℕ) → s.journal.released w ≡ true → t.journal.released w ≡ true

  release_all : (ws : List ℕ) (s : World G) → Running G s → ((w : ℕ) → Among w ws → w < stripes)
      → ((w : ℕ) → w < stripes → s.journal.computed w ≡ true)
      → ((i : Transfer) → InRange G i → s.journal.receipted i.stripe i.item ≡ true)
      → Released s ws (after_all (world_machine G) s (map step (map release ws)))
  unfolding after_all after_call answer EachWasSent NoneRefused
  release_all [] s run l co re =
      record { passes = passes_none (world_machine G) s; running = run; marked = λ w h. absurd h; released = λ w h. h }
  release_all (x ∷ ws) s run l co re =
      let lx = l x (inl refl) in
      let a = release_answer G s run.opened x lx (co x lx) (λ e h. re (record { stripe = x; item = e }) (lx, h)) in
      let g = grows G s (release x) in
      let r = release_all ws (after_step G s (release x)) (running_after G s (release x) tt refl run) (λ w h. l w (inr h))
      (λ w h. g.computed w (co w h)) (λ i h. g.receipted i.stripe i.item (re i h)) in
      record {
        passes = record {
          each_was_sent = (tt, r.passes.each_was_sent);
          none_refused = (not_refused (s.journal.released x) _ a, r.passes.none_refused);
        };
        running = r.running;
        marked = λ w. elim [ inl p ↦ r.released w (rw p (released_after G s x a)) | inr h ↦ r.marked w h ];
        released = λ w h. r.released w (g.released w h);
      }

  -- ---- the whole
  pub completed : Promises G → (s : World G) → Running G s → (o : Order G) → Completes G s.journal o
      → GoesThrough (world_machine G) s (completion G o ++ closing G)
  unfolding completion
  completed L s run o h =
      let M = world_machine G in
      let xs = map step (map compute o.computing) in
      let ys = map step (legs G o.transferring) in
      let zs = map step (map release o.releasing) in
      let a = compute_all o.computing s run (once_low G _ o.computing h.uncomputed) in
      let s1 = after_all M s xs in
      let co : (w : ℕ) → w < stripes → s1.journal.computed w ≡ true
      = λ w l. elim (once_all G _ o.computing h.uncomputed w l) [ inl k ↦ a.computed w k | inr k ↦ a.marked w k ] in
      let b = turn_all G L o.transferring s1 a.running co (thrice_low G _ o.transferring h.unreceipted)
      (ready_first G s s1 run.invariant a.receipted a.released o.transferring h.unreceipted) in
      let s2 = after_all M s1 ys in
      let d =
      release_all o.releasing s2 b.running (once_low G _ o.releasing h.unreleased) (λ w l. b.computed w (co w l))
      b.marked in
      let parts : map step (map compute o.computing ++ (legs G o.transferring ++ map release o.releasing)) ≡ xs ++ (ys ++ zs)
      = map-append step (map compute o.computing) (legs G o.transferring ++ map release o.releasing)
      ∙ ap (λ l. xs ++ l) (map-append step (legs G o.transferring) (map release o.releasing)) in
      let e : after_all M s (xs ++ (ys ++ zs)) ≡ after_all M s2 zs = after_both M xs (ys ++ zs) s ∙ after_both M ys zs s1 in
      let end = closes_now G (after_all M s2 zs) d.running
      (λ w l. elim (once_all G _ o.releasing h.unreleased w l)
      [ inl k ↦ d.released w (rw (b.released, a.released) k) | inr k ↦ d.marked w k ]) in
      rw parts (through_both M (xs ++ (ys ++ zs)) (closing G) s
      (passes_both M xs (ys ++ zs) s a.passes (passes_both M ys zs s1 b.passes d.passes)) (rw e end))
