-- What it is for a single call to follow the growth without bytes: it answers the same, leaves contents in order, and these are seen as
-- what the growth comes to. Assumes nothing.
use mathlib.Core.Path.{◌≡◌, refl}
use mathlib.Core.Bool.{false}
use mathlib.Core.List.{List}
use Prim.Native.Nat.{ℕ}
use Rattle.base.proofs.Tests.{clash}
use Rattle.answer.specs.Answers.{already, done, answer_for}
use Rattle.answer.proofs.Answers.{answered_already}
use Rattle.layout.specs.declared.Shape.{Shape}
use Rattle.protocol.specs.World.{World}
use Rattle.protocol.specs.Steps as P
use Rattle.protocol.proofs.Answered.{by_answer}
use Rattle.history.specs.Contents.{Contents}
use Rattle.history.specs.Steps.{Step, step_answer, after_step}
use Rattle.history.proofs.Growths.{growth_of, view_of, Fit}
use Rattle.history.proofs.StepLeaves.{refused_leaves}

-- ---- answers

-- a call that has no mark of its own is never a repeat
pub unmarked_not_already : (n : ℕ) → answer_for n false ≡ already → ⊥
unmarked_not_already n h = clash (answered_already n false h).1 refl

-- ---- following

module _ (z : Shape) (start : List ℕ) (number : ℕ) where
  -- contents that are in order, and are seen as this
  abbrev pub Leads : Contents → World (growth_of z start) → Type 0
  Leads c s = (view_of z start c ≡ s) × Fit z number c

  pub record Followed (c : Contents) (x : Step) (y : P.Step (List ℕ)) : Type 0 where
    pub told_same : step_answer c x ≡ P.step_answer (growth_of z start) (view_of z start c) y
    pub leads : Leads (after_step c x) (P.after_step (growth_of z start) (view_of z start c) y)

  -- by its answer; a refused call changes nothing
  pub followed : (c : Contents) → Fit z number c → (x : Step) (y : P.Step (List ℕ))
      → step_answer c x ≡ P.step_answer (growth_of z start) (view_of z start c) y
      → (step_answer c x ≡ already → Leads (after_step c x) (P.when_already (growth_of z start) (view_of z start c) y))
      → (step_answer c x ≡ done → Leads (after_step c x) (P.when_done (growth_of z start) (view_of z start c) y))
      → Followed c x y
  followed c f x y e a d = record {
    told_same = e;
    leads = by_answer (growth_of z start) (view_of z start c) y (λ b s. step_answer c x ≡ b → Leads (after_step c x) s)
        (λ n h. rw (refused_leaves c x n h) (refl, f)) (λ p. a) (λ p. d) e;
  }
