-- Laws of the choice. Assumes nothing.
use mathlib.Core.Path.{◌≡◌, refl}
use mathlib.Core.Bool.{Bool, true, false}
use Rattle.base.specs.Tests.{if}

module _ {A : Type 0} (t : Bool) (x y : A) where
  pub if_true : t ≡ true → if t x y ≡ x
  if_true e = rw e

  pub if_false : t ≡ false → if t x y ≡ y
  if_false e = rw e

-- what holds of both values, each where it is chosen, holds of the choice
pub if_cases : {A : Type 0} (Q : A → Type 0) (t : Bool) (x y : A) → (t ≡ true → Q x) → (t ≡ false → Q y) → Q (if t x y)
if_cases Q true x y p q = p refl
if_cases Q false x y p q = q refl

-- the same of two choices by one test
pub if_both : {A B : Type 0} (R : A → B → Type 0) (t : Bool) (x y : A) (u v : B) → (t ≡ true → R x u) → (t ≡ false → R y v)
    → R (if t x y) (if t u v)
if_both R true x y u v p q = p refl
if_both R false x y u v p q = q refl
