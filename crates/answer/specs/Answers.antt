-- FORMAT §12; document 01, "Calls" and "Who can cause a no": what calls answer, and what each answer lets them change. Assumes nothing.
use Rattle.std.specs.Prelude.{Bool, true, false, ◌&&◌, ℕ, zero, suc, ◌+◌}
use Rattle.base.specs.Tests.{if}
use Rattle.base.specs.Folds.{indicator}

pub data Answer : Type 0 where
  -- with its number alone
  refused : ℕ → Answer
  already done : Answer
  -- a drive's, with the number of transfers that it newly accepted
  spent finished : ℕ → Answer

-- the first refusal, if one applies; else the answer of a call that nothing refuses
abbrev pub refused_or : ℕ → Answer → Answer
refused_or zero answer = answer
refused_or (suc x) answer = refused (suc x)

-- where nothing refuses, already if the call's own mark is set, and done if it is not
abbrev pub answer_for : ℕ → Bool → Answer
answer_for refusal marked = refused_or refusal (if marked already done)

abbrev pub is_refused : Answer → Bool
is_refused (refused x) = true
is_refused already = false
is_refused done = false
is_refused (spent x) = false
is_refused (finished x) = false

-- neither refused nor answered already; a drive counts as the steps it takes, and is none itself
abbrev pub is_done : Answer → Bool
is_done (refused x) = false
is_done already = false
is_done done = true
is_done (spent x) = false
is_done (finished x) = false

-- the number that the answer of a drive carries
abbrev pub carried : Answer → ℕ
carried (refused x) = 0
carried already = 0
carried done = 0
carried (spent x) = x
carried (finished x) = x

-- what a call with this answer adds to the count: 1 for a deliver that was done, its number for a drive
abbrev pub newly_accepted : (is_deliver : Bool) → Answer → ℕ
newly_accepted is_deliver answer = indicator (is_done answer && is_deliver) + carried answer

-- ---- a buffer afterwards

-- one that only a done call changes
abbrev pub on_done : {A : Type 0} → Answer → A → A → A
on_done answer new old = if (is_done answer) new old

-- one that every call changes that is not refused, a repeat too
abbrev pub unless_refused : {A : Type 0} → Answer → A → A → A
unless_refused answer new old = if (is_refused answer) old new
