-- What a node's answer tells, and what is written where it is done. Assumes nothing.
use mathlib.Core.Path.{◌≡◌, refl}
use mathlib.Core.Bool.{true, false≢true}
use Rattle.answer.specs.Answers.{Answer, refused, already, done, spent, finished, is_done, on_done}

pub is_done_law : (a : Answer) → is_done a ≡ true → a ≡ done
is_done_law (refused x) e = absurd (false≢true e)
is_done_law already e = absurd (false≢true e)
is_done_law done e = refl
is_done_law (spent x) e = absurd (false≢true e)
is_done_law (finished x) e = absurd (false≢true e)

-- what only a done call changes, handed on where the call is done
pub on_done_once : {A B : Type 0} (a : Answer) (f : A → B) (new old : A) (x : B) → on_done a (f (on_done a new old)) x ≡ on_done a (f new) x
on_done_once (refused y) f new old x = refl
on_done_once already f new old x = refl
on_done_once done f new old x = refl
on_done_once (spent y) f new old x = refl
on_done_once (finished y) f new old x = refl
