-- Laws of histories: one list of calls after another. Assumes nothing.
use mathlib.Core.Path.{◌≡◌, refl, sym, ap, ◌∙◌}
use mathlib.Core.Bool.{◌&&◌, ◌||◌, or-true, or_assoc}
use mathlib.Core.List.{List, [], ◌∷◌, ◌++◌}
use Rattle.answer.specs.Answers.{is_done}
use Rattle.protocol.specs.Histories.{Machine, after_all, EachWasSent, close_done, NoneRefused, GoesThrough}

module _ (M : Machine) where
  pub after_both : (xs ys : List M.Call) (c : M.Contents) → after_all M c (xs ++ ys) ≡ after_all M (after_all M c xs) ys
  unfolding after_all
  after_both [] ys c = refl
  after_both (x ∷ xs) ys c = after_both xs ys (M.after c x)

  -- what each call is handed was sent, and none is refused
  pub record Passes (c : M.Contents) (ks : List M.Call) : Type 0 where
    pub each_was_sent : EachWasSent M c ks
    pub none_refused : NoneRefused M c ks

  -- no call at all
  pub passes_none : (c : M.Contents) → Passes c []
  unfolding EachWasSent NoneRefused
  passes_none c = record { each_was_sent = tt; none_refused = tt }

  pub each_both : (xs ys : List M.Call) (c : M.Contents) → EachWasSent M c xs → EachWasSent M (after_all M c xs) ys
      → EachWasSent M c (xs ++ ys)
  unfolding EachWasSent after_all
  each_both [] ys c h k = k
  each_both (x ∷ xs) ys c h k = (h.0, each_both xs ys (M.after c x) h.1 k)

  none_both : (xs ys : List M.Call) (c : M.Contents) → NoneRefused M c xs → NoneRefused M (after_all M c xs) ys
      → NoneRefused M c (xs ++ ys)
  unfolding NoneRefused after_all
  none_both [] ys c h k = k
  none_both (x ∷ xs) ys c h k = (h.0, none_both xs ys (M.after c x) h.1 k)

  pub passes_both : (xs ys : List M.Call) (c : M.Contents) → Passes c xs → Passes (after_all M c xs) ys → Passes c (xs ++ ys)
  passes_both xs ys c h k = record {
    each_was_sent = each_both xs ys c h.each_was_sent k.each_was_sent;
    none_refused = none_both xs ys c h.none_refused k.none_refused;
  }

  pub close_both : (xs ys : List M.Call) (c : M.Contents)
      → close_done M c (xs ++ ys) ≡ close_done M c xs || close_done M (after_all M c xs) ys
  unfolding close_done after_all
  close_both [] ys c = refl
  close_both (x ∷ xs) ys c = ap (λ b. (is_done (M.answer c x) && M.is_close x) || b) (close_both xs ys (M.after c x))
      ∙ sym (or_assoc (is_done (M.answer c x) && M.is_close x) (close_done M (M.after c x) xs)
      (close_done M (after_all M (M.after c x) xs) ys))

  -- calls that pass, and then calls that go through
  pub through_both : (xs ys : List M.Call) (c : M.Contents) → Passes c xs → GoesThrough M (after_all M c xs) ys
      → GoesThrough M c (xs ++ ys)
  through_both xs ys c h k = record {
    each_was_sent = each_both xs ys c h.each_was_sent k.each_was_sent;
    none_refused = none_both xs ys c h.none_refused k.none_refused;
    close_done_law = close_both xs ys c ∙ (ap (λ b. close_done M c xs || b) k.close_done_law ∙ or-true (close_done M c xs));
  }
