-- A list of single calls with one call more: what it leaves, and that each is handed what was sent. Assumes nothing.
use mathlib.Core.Path.{◌≡◌, refl}
use mathlib.Core.List.{List, [], ◌∷◌, ◌++◌, map}
use Rattle.protocol.specs.Histories.{Machine, after_all, EachWasSent}
use Rattle.history.specs.Contents.{Contents}
use Rattle.history.specs.Steps.{Step, after_step, after_steps}
use Rattle.history.specs.Link.{StepSent}
use Rattle.history.specs.Calls.{step, after, store}

pub after_more : (steps : List Step) (x : Step) (first : Contents)
    → after_steps first (steps ++ (x ∷ [])) ≡ after_step (after_steps first steps) x
unfolding after_steps
after_more [] x first = refl
after_more (y ∷ steps) x first = after_more steps x (after_step first y)

module _ (begun : Contents) where
  abbrev M : Machine
  M = store begun

  pub after_each : (steps : List Step) (first : Contents) → after_all M first (map step steps) ≡ after_steps first steps
  unfolding after_all after after_steps
  after_each [] first = refl
  after_each (x ∷ steps) first = after_each steps (after_step first x)

  pub none_sent : (first : Contents) → EachWasSent M first []
  unfolding EachWasSent
  none_sent first = tt

  pub sent_more : (steps : List Step) (x : Step) (first : Contents) → EachWasSent M first (map step steps)
      → StepSent (after_steps first steps) x → EachWasSent M first (map step (steps ++ (x ∷ [])))
  unfolding EachWasSent after_steps after
  sent_more [] x first h q = (q, tt)
  sent_more (y ∷ steps) x first h q = (h.0, sent_more steps x (after_step first y) h.1 q)
