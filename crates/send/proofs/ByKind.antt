-- What the kind of a transfer tells of its number. Assumes nothing.
use mathlib.Core.Path.{◌≡◌, refl}
use mathlib.Core.Bool.{Bool, true, false, ◌&&◌}
use Prim.Native.Nat.{ℕ, ◌-◌, ◌≤◌, ◌<◌}
use native.Mathlib.Decide.{dec_lt}
use native.Mathlib.Omega.{arith}
use lib.Dec.{eqb}
use borrow.Author.Tests.{lt-ltb, le-ltb}
use Rattle.base.specs.Tests.{if}
use Rattle.layout.specs.declared.Shape.{Shape}
use Rattle.layout.specs.Ranges.{rows, InRanges}
use Rattle.layout.specs.Counts.{transfers}
use Rattle.layout.specs.Closed.{swapped, swap_index}
use Rattle.layout.specs.Transfers.{new_node_of, transfer_kind}
use Rattle.places.specs.declared.kinds.Kind.{Kind}
use Rattle.places.specs.declared.kinds.Kind.TheVariants as It
use Rattle.places.specs.Kinds.{kind_number}

-- by the kind's number
pub no_delta : (x : Kind) {n : ℕ} → kind_number x ≡ n → (x ≡ It.Delta → ⊥) → n ≡ 1 → ⊥
no_delta It.Delta e h q = h refl
no_delta It.NewBlock e h q = omega arith
no_delta It.ParityRow e h q = omega arith
no_delta It.Receipt e h q = omega arith

pub no_row : (x : Kind) {n : ℕ} → kind_number x ≡ n → (x ≡ It.ParityRow → ⊥) → n ≡ 3 → ⊥
no_row It.Delta e h q = omega arith
no_row It.NewBlock e h q = omega arith
no_row It.ParityRow e h q = h refl
no_row It.Receipt e h q = omega arith

module _ (z : Shape) (w e : ℕ) where
  pub delta_kind : transfer_kind z w e ≡ 1 → e < rows z - 1
  unfolding transfer_kind
  delta_kind k =
      elim (dec_lt e (rows z - 1)) [
        | yes l ↦ l
        | no l ↦ absurd
            (block (swapped z w && eqb (new_node_of z e) (swap_index z w)) (rw (le-ltb e (rows z - 1) (omega arith)) at k))
      ]
    where
      block : (t : Bool) → ◌≡◌ {A = ℕ} (if t 3 2) 1 → ⊥
      block true q = omega arith
      block false q = omega arith

  pub other_kind : (transfer_kind z w e ≡ 1 → ⊥) → rows z - 1 ≤ e
  unfolding transfer_kind
  other_kind k = elim (dec_lt e (rows z - 1)) [ yes l ↦ absurd (k (rw (lt-ltb e (rows z - 1) l))) | no l ↦ omega arith ]

  -- the new node of a transfer that is no delta
  pub new_node_lt : InRanges z → e < transfers z → new_node_of z e < z.s
  unfolding transfers
  new_node_lt ok l = omega (arith, ok.some_new, ok.some_rows)
