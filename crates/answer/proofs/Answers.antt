-- What an answer tells of the refusals and of the mark, and what it leaves. Assumes nothing.
use mathlib.Core.Path.{◌≡◌, refl, sym, ap, ◌∙◌}
use mathlib.Core.Bool.{Bool, true, false, false≢true}
use Prim.Native.Nat.{ℕ, zero, suc}
use native.Mathlib.Omega.{arith}
use Rattle.base.specs.Tests.{if}
use Rattle.answer.specs.Answers.{Answer, refused, already, done, spent, finished, refused_or, answer_for, is_refused, is_done, on_done}
use Rattle.answer.specs.Answers.{unless_refused}
use Rattle.answer.specs.Repeats.{is_already}

-- what holds where a refusal applies and where none does holds of the answer
pub refused_or_law : (Q : Answer → Type 0) (n : ℕ) (a : Answer) → ((n ≡ 0 → ⊥) → Q (refused n)) → (n ≡ 0 → Q a) → Q (refused_or n a)
refused_or_law Q zero a r p = p refl
refused_or_law Q (suc n) a r p = r (λ e. omega arith)

pub answered_cases : (Q : Answer → Type 0) (n : ℕ) (b : Bool) → ((n ≡ 0 → ⊥) → Q (refused n))
    → (n ≡ 0 → b ≡ true → Q already) → (n ≡ 0 → b ≡ false → Q done) → Q (answer_for n b)
answered_cases Q n true r a d = refused_or_law Q n already r (λ e. a e refl)
answered_cases Q n false r a d = refused_or_law Q n done r (λ e. d e refl)

pub answered_done : (n : ℕ) (b : Bool) → answer_for n b ≡ done → (n ≡ 0) × (b ≡ false)
answered_done zero true e = (refl, cc)
answered_done zero false e = (refl, refl)
answered_done (suc n) b e = (cc, cc)

pub answered_already : (n : ℕ) (b : Bool) → answer_for n b ≡ already → (n ≡ 0) × (b ≡ true)
answered_already zero true e = (refl, refl)
answered_already zero false e = (refl, cc)
answered_already (suc n) b e = (cc, cc)

-- the other way round: what a call answers
pub answered_refuses : (n : ℕ) (b : Bool) → (n ≡ 0 → ⊥) → answer_for n b ≡ refused n
answered_refuses zero b h = absurd (h refl)
answered_refuses (suc n) b h = refl

pub answered_repeats : (n : ℕ) (b : Bool) → n ≡ 0 → b ≡ true → answer_for n b ≡ already
answered_repeats n b e m = rw (e, m)

pub answered_acts : (n : ℕ) (b : Bool) → n ≡ 0 → b ≡ false → answer_for n b ≡ done
answered_acts n b e m = rw (e, m)

-- two answers are the same where their numbers are, and, if nothing refuses, their marks
pub answered_same : (n m : ℕ) (a b : Bool) → n ≡ m → (n ≡ 0 → a ≡ b) → answer_for n a ≡ answer_for m b
answered_same n m a b e h = rw (← e) (go n h)
  where
    go : (x : ℕ) → (x ≡ 0 → a ≡ b) → answer_for x a ≡ answer_for x b
    go zero k = ap (answer_for 0) (k refl)
    go (suc x) k = refl

-- where nothing refuses, and where something does
pub or_unrefused : (n : ℕ) (a : Answer) → is_refused (refused_or n a) ≡ false → n ≡ 0
or_unrefused zero a e = refl
or_unrefused (suc n) a e = absurd (false≢true (sym e))

pub or_refused : (n : ℕ) (a : Answer) → (n ≡ 0 → ⊥) → is_refused (refused_or n a) ≡ true
or_refused zero a h = absurd (h refl)
or_refused (suc n) a h = refl

pub answered_none : (n : ℕ) (b : Bool) → n ≡ 0 → answer_for n b ≡ if b already done
answered_none n b e = rw e

pub not_refused : (b : Bool) (a : Answer) → a ≡ if b already done → (number : ℕ) → a ≡ refused number → ⊥
not_refused true a e number h = false≢true (ap is_already (sym h ∙ e))
not_refused false a e number h = false≢true (ap is_done (sym h ∙ e))

pub done_not_already : done ≡ already → ⊥
done_not_already e = false≢true (ap is_already e)

pub already_not_refused : {number : ℕ} → already ≡ refused number → ⊥
already_not_refused e = false≢true (ap is_already (sym e))

pub already_not_spent : {x : ℕ} → already ≡ spent x → ⊥
already_not_spent e = false≢true (ap is_already (sym e))

pub already_not_finished : {x : ℕ} → already ≡ finished x → ⊥
already_not_finished e = false≢true (ap is_already (sym e))

pub done_not_refused : {number : ℕ} → done ≡ refused number → ⊥
done_not_refused e = false≢true (ap is_done (sym e))

pub spent_not_refused : {x number : ℕ} → spent x ≡ refused number → ⊥
spent_not_refused e = let z : ◌≡◌ {A = ℕ} 0 1 = cc in omega arith

pub finished_not_refused : {x number : ℕ} → finished x ≡ refused number → ⊥
finished_not_refused e = let z : ◌≡◌ {A = ℕ} 0 1 = cc in omega arith

-- ---- buffers

pub refused_leaves : {A : Type 0} (a : Answer) (x : ℕ) (new old : A) → a ≡ refused x → unless_refused a new old ≡ old
refused_leaves a x new old e = rw e

-- what holds of a buffer where the call is done, and of it as it was, holds of what the call leaves
pub done_cases : {A : Type 0} (Q : A → Type 0) (a : Answer) (new old : A) → (a ≡ done → Q new) → Q old → Q (on_done a new old)
done_cases Q (refused x) new old p q = q
done_cases Q already new old p q = q
done_cases Q done new old p q = p refl
done_cases Q (spent x) new old p q = q
done_cases Q (finished x) new old p q = q

-- the same of two calls with one answer
pub done_both : {A B : Type 0} (R : A → B → Type 0) (a b : Answer) (new old : A) (new' old' : B) → a ≡ b
    → (a ≡ done → R new new') → R old old' → R (on_done a new old) (on_done b new' old')
done_both R (refused x) b new old new' old' e p q = rw (sym e) q
done_both R already b new old new' old' e p q = rw (sym e) q
done_both R done b new old new' old' e p q = rw (sym e) (p refl)
done_both R (spent x) b new old new' old' e p q = rw (sym e) q
done_both R (finished x) b new old new' old' e p q = rw (sym e) q
