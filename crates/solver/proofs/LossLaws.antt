-- A block is lost where its loss byte is 1, and present where it is 0. Assumes nothing.
use mathlib.Core.Path.{◌≡◌}
use mathlib.Core.List.{List}
use mathlib.Core.Bool.{true, false}
use Prim.Native.Nat.{ℕ, ◌≤◌}
use native.Mathlib.Omega.{arith}
use lib.ListN.{get_or}
use borrow.Author.Tests.{eq-eqb, eqb-true, eqb-false}
use Rattle.code.specs.Agreement.{is_lost}

module _ (losses : List ℕ) (p : ℕ) where
  pub lost_byte : is_lost losses p ≡ true → get_or losses p 0 ≡ 1
  unfolding is_lost
  lost_byte e = eqb-true (get_or losses p 0) 1 e

  pub byte_lost : get_or losses p 0 ≡ 1 → is_lost losses p ≡ true
  unfolding is_lost
  byte_lost e = eq-eqb (get_or losses p 0) 1 e

  pub present_byte : get_or losses p 0 ≤ 1 → is_lost losses p ≡ false → get_or losses p 0 ≡ 0
  unfolding is_lost
  present_byte h e = let d = eqb-false (get_or losses p 0) 1 e in omega arith
