-- FORMAT §18. What stands in a list, and how often; a transfer by its stripe and its item. Assumes nothing.
use Rattle.std.specs.Prelude.{◌≡◌, List, [], ◌∷◌, ◌⊎◌, ℕ, suc}
use Rattle.base.specs.Tests.{if, same, same2}

-- x stands in the list
abbrev pub Among : {A : Type 0} → A → List A → Type 0
Among x [] = ⊥
Among x (y ∷ list) = (x ≡ y) ⊎ Among x list

-- how often the number w stands in the list
unfoldable pub times : ℕ → List ℕ → ℕ
times w [] = 0
times w (x ∷ list) = if (same w x) (suc (times w list)) (times w list)

-- one block over the link: document 01's item e of stripe w
pub record Transfer : Type 0 where
  pub stripe : ℕ
  pub item : ℕ

-- how often transfer e of w stands in a list
unfoldable pub occurrences : ℕ → ℕ → List Transfer → ℕ
occurrences w e [] = 0
occurrences w e (i ∷ list) = if (same2 w i.stripe e i.item) (suc (occurrences w e list)) (occurrences w e list)
