-- Laws of the lists of what was written and of what was done. Assumes nothing.
use mathlib.Core.Path.{◌≡◌, refl, ap}
use mathlib.Core.Bool.{Bool, true, false, not}
use mathlib.Core.List.{List, [], ◌∷◌, map}
use mathlib.Core.Logic.{inl, inr}
use Prim.Native.Nat.{ℕ}
use lib.Dec.{eqb}
use Rattle.base.specs.Folds.{indicator}
use Rattle.protocol.specs.Transfers.{Among}

-- what holds of what was written before and of what is written now holds of all
pub among_more : (Q : List ℕ → Type 0) (bytes : List ℕ) (list : List (List ℕ)) → Q bytes → ((x : List ℕ) → Among x list → Q x)
    → (x : List ℕ) → Among x (bytes ∷ list) → Q x
among_more Q bytes list q h x (inl e) = rw e q
among_more Q bytes list q h x (inr a) = h x a

pub among_map : {A : Type 0} (f : List ℕ → A) (x : List ℕ) (list : List (List ℕ)) → Among x list → Among (f x) (map f list)
among_map f x [] a = elim a [ ]
among_map f x (y ∷ list) (inl e) = inl (ap f e)
among_map f x (y ∷ list) (inr a) = inr (among_map f x list a)

pub map_among : {A : Type 0} (f : List ℕ → A) (a : A) (list : List (List ℕ)) → Among a (map f list) → (x : List ℕ) × Among x list
    × (a ≡ f x)
map_among f a [] h = elim h [ ]
map_among f a (y ∷ list) (inl e) = (y, inl refl, e)
map_among f a (y ∷ list) (inr h) = let (x, q, e) = map_among f a list h in (x, inr q, e)

-- what was done as often as its mark says was not done exactly if it is not marked
pub none_done : (n : ℕ) (mark : Bool) → n ≡ indicator mark → eqb n 0 ≡ not mark
none_done n true e = rw e
none_done n false e = rw e
