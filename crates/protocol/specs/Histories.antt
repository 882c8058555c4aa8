-- FORMAT §18; document 01, "Runs of calls": lists of calls of any machine that has such calls. Assumes nothing.
use Rattle.std.specs.Prelude.{◌≡◌, Bool, true, false, ◌&&◌, ◌||◌, List, [], ◌∷◌, ℕ, ◌+◌}
use Rattle.answer.specs.Answers.{Answer, refused, is_done, newly_accepted}

pub record Machine : Type 1 where
  -- what the calls work on, with all that they have written; a call with its arguments
  pub Contents : Type 0
  pub Call : Type 0
  -- what an accepting begin left
  pub begun : Contents
  -- each call gets the contents as the last one left them
  pub after : Contents → Call → Contents
  pub answer : Contents → Call → Answer
  -- what the call gets is a copy of what an earlier call wrote
  pub WasSent : Contents → Call → Type 0
  pub is_deliver : Call → Bool
  pub is_close : Call → Bool

module _ (M : Machine) where
  open M use {Contents, Call, after, answer, WasSent, is_deliver, is_close}

  unfoldable pub after_all : Contents → List Call → Contents
  after_all c [] = c
  after_all c (k ∷ ks) = after_all (after c k) ks

  -- what each call gets was sent: the link may lose, repeat and shuffle, and hand over at any node
  unfoldable pub EachWasSent : Contents → List Call → Type 0
  EachWasSent c [] = Unit {0}
  EachWasSent c (k ∷ ks) = WasSent c k × EachWasSent (after c k) ks

  -- the delivers done outside drives plus the numbers that the drives carried
  unfoldable pub all_accepted : Contents → List Call → ℕ
  all_accepted c [] = 0
  all_accepted c (k ∷ ks) = newly_accepted (is_deliver k) (answer c k) + all_accepted (after c k) ks

  -- a close was done
  unfoldable pub close_done : Contents → List Call → Bool
  close_done c [] = false
  close_done c (k ∷ ks) = (is_done (answer c k) && is_close k) || close_done (after c k) ks

  -- none of the calls is refused
  unfoldable pub NoneRefused : Contents → List Call → Type 0
  NoneRefused c [] = Unit {0}
  NoneRefused c (k ∷ ks) = ((x : ℕ) → answer c k ≡ refused x → ⊥) × NoneRefused (after c k) ks

-- calls that follow on a history: what each gets was sent, none is refused, and a close is done
pub record GoesThrough (M : Machine) (c : M.Contents) (ks : List M.Call) : Type 0 where
  pub each_was_sent : EachWasSent M c ks
  pub none_refused : NoneRefused M c ks
  pub close_done_law : close_done M c ks ≡ true
