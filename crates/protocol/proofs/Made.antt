-- The growth's own calls, made on a machine that follows it. Assumes nothing.
use mathlib.Core.Path.{◌≡◌, refl, sym, ap, ap₂, ◌∙◌}
use mathlib.Core.Bool.{true, ◌&&◌, ◌||◌}
use mathlib.Core.List.{List, [], ◌∷◌, ◌++◌, map}
use Rattle.base.proofs.Tests.{and_same}
use Rattle.answer.specs.Answers.{is_done}
use Rattle.protocol.specs.Parts.{Growth, Promises}
use Rattle.protocol.specs.World.{World}
use Rattle.protocol.specs.Steps.{Step}
use Rattle.protocol.specs.Calls as Calls
use Rattle.protocol.specs.Histories.{Machine, EachWasSent, close_done, NoneRefused, GoesThrough}
use Rattle.protocol.specs.Without.{world_machine}
use Rattle.protocol.specs.Invariant.{Invariant}
use Rattle.protocol.specs.Refinement.{View, Refines}
use Rattle.protocol.proofs.CallsKept.{call_kept}

-- every call of a list is one of the growth's own
abbrev pub AllOwn : {Block : Type 0} → List (Calls.Call Block) → Type 0
AllOwn [] = Unit {0}
AllOwn (x ∷ xs) = (Calls.is_own x ≡ true) × AllOwn xs

pub own_steps : {Block : Type 0} (xs : List (Step Block)) (ys : List (Calls.Call Block)) → AllOwn ys → AllOwn (map Calls.step xs ++ ys)
own_steps [] ys h = h
own_steps (x ∷ xs) ys h = (refl, own_steps xs ys h)

module _ (G : Growth) (L : Promises G) (M : Machine) (A : View G M) (R : Refines G M A) where
  open G use {Block}
  open A use {Fit, view, meaning, make}

  pub record Made (c : M.Contents) (s : World G) (x : Calls.Call Block) : Type 0 where
    pub sent : M.WasSent c (make x)
    pub fit : Fit (M.after c (make x))
    pub same : view (M.after c (make x)) ≡ Calls.after_call G s x
    pub told : M.answer c (make x) ≡ Calls.answer G s x
    pub close_same : is_done (M.answer c (make x)) ≡ true → M.is_close (make x) ≡ Calls.is_close x

  pub made : (c : M.Contents) (s : World G) (x : Calls.Call Block) → Fit c → view c ≡ s → Invariant G s → Calls.is_own x ≡ true
      → Calls.WasSent G s x → Made c s x
  made c s x f e I o h =
      let m = R.makes c x f (rw e I) o (rw e h) in
      let g = R.follows c (make x) f (rw e I) m.was_sent in
      record {
        sent = m.was_sent;
        fit = g.fit;
        same = g.view_after ∙ rw (e, m.means);
        told = g.answer_same ∙ rw (e, m.means);
        close_same = λ d. g.close_same d ∙ ap Calls.is_close m.means;
      }

  record MadeAll (c : M.Contents) (s : World G) (xs : List (Calls.Call Block)) : Type 0 where
    each_was_sent : EachWasSent M c (map make xs)
    none_refused : NoneRefused M c (map make xs)
    close_same : close_done M c (map make xs) ≡ close_done (world_machine G) s xs

  made_all : (xs : List (Calls.Call Block)) (c : M.Contents) (s : World G) → Fit c → view c ≡ s → Invariant G s → AllOwn xs
      → EachWasSent (world_machine G) s xs → NoneRefused (world_machine G) s xs → MadeAll c s xs
  unfolding EachWasSent NoneRefused close_done
  made_all [] c s f e I o h n = record { each_was_sent = tt; none_refused = tt; close_same = refl }
  made_all (x ∷ xs) c s f e I o h n =
      let m = made c s x f e I o.0 h.0 in
      let J = (call_kept G L s I x h.0).invariant in
      let r = made_all xs (M.after c (make x)) (Calls.after_call G s x) m.fit m.same J o.1 h.1 n.1 in
      record {
        each_was_sent = (m.sent, r.each_was_sent);
        none_refused = ((λ number q. n.0 number (sym m.told ∙ q)), r.none_refused);
        close_same =
            ap₂ ◌||◌ (and_same (is_done (M.answer c (make x))) _ _ m.close_same ∙ ap (λ a. is_done a && Calls.is_close x) m.told)
            r.close_same;
      }

  -- what goes through without bytes goes through on the machine
  pub through : (xs : List (Calls.Call Block)) (c : M.Contents) → Fit c → Invariant G (view c) → AllOwn xs
      → GoesThrough (world_machine G) (view c) xs → GoesThrough M c (map make xs)
  through xs c f I o h =
      let a = made_all xs c (view c) f refl I o h.each_was_sent h.none_refused in
      record { each_was_sent = a.each_was_sent; none_refused = a.none_refused; close_done_law = a.close_same ∙ h.close_done_law }
