-- A function with one value changed. Assumes nothing.
use Rattle.std.specs.Prelude.{ℕ}
use Rattle.base.specs.Tests.{if, same, same2}

module _ {A : Type 0} where
  -- f, but v at w
  abbrev pub update : (ℕ → A) → ℕ → A → ℕ → A
  update f w v x = if (same x w) v (f x)

  -- f, but v at (w, e)
  abbrev pub update2 : (ℕ → ℕ → A) → ℕ → ℕ → A → ℕ → ℕ → A
  update2 f w e v x y = if (same2 x w y e) v (f x y)
