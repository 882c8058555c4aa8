-- Blocks that are multiples of their length apart are clear. Assumes nothing.
use mathlib.Core.Path.{◌≡◌}
use mathlib.Core.List.{List}
use mathlib.Core.Logic.{inl, inr}
use Prim.Native.Nat.{ℕ, ◌*◌, ◌≤◌, ◌<◌}
use native.Mathlib.Nat.{mul-le-mul_right}
use native.Mathlib.Decide.{dec_lt}
use native.Mathlib.Omega.{arith}
use lib.ListN.{get_or}
use Rattle.area.proofs.Slots.{room}
use Rattle.tiles.specs.Clear.{Clear}

after : (s p b : ℕ) → (s < p → ⊥) → p * b ≤ s * b
after s p b h = mul-le-mul_right b (omega arith)

pub multiples_clear : (at : List ℕ) (n p b : ℕ) (slot : ℕ → ℕ) → ((c : ℕ) → c < n → get_or at c 0 ≡ slot c * b) → Clear at n (p * b) b
multiples_clear at n p b slot e =
    record {
      each = λ c l. rw (e c l)
          (elim (dec_lt (slot c) p) [
            | yes h ↦ inr (omega (arith, room (slot c) p b h))
            | no h ↦ inl (omega (arith, after (slot c) p b h))
          ]);
    }
