-- The layout keeps what the growth without bytes asks of it. Assumes nothing.
use mathlib.Core.Path.{◌≡◌, sym, ap}
use mathlib.Core.Bool.{true, false, ◌&&◌}
use mathlib.Core.List.{List}
use Prim.Native.Nat.{ℕ, ◌+◌, ◌-◌, ◌<◌}
use native.Mathlib.Nat.{add-sub_cancel_left}
use native.Mathlib.Omega.{arith}
use lib.Dec.{eqb}
use borrow.Author.Tests.{le-ltb, eqb-true}
use Rattle.base.specs.Tests.{if}
use Rattle.base.proofs.Tests.{and_left, and_right}
use Rattle.layout.specs.declared.Shape.{Shape}
use Rattle.layout.specs.Ranges.{rows, InRanges}
use Rattle.layout.specs.Counts.{transfers}
use Rattle.layout.specs.Closed.{swapped, swap_index}
use Rattle.layout.specs.Transfers.{is_delta, transfer_kind}
use Rattle.layout.proofs.TransferLaws.{brings}
use Rattle.protocol.specs.Parts.{Brought, Promises}
use Rattle.growth.specs.Send.{payload_from}
use Rattle.growth.proofs.LocalCells.{sender_there}
use Rattle.history.proofs.Growths.{growth_of}

module _ (z : Shape) (ok : InRanges z) where
  -- the new block whose turn it is moves into row 0's cell
  move_brings : (w t : ℕ) (news : ℕ → List ℕ) (row0 : List ℕ) → swapped z w && eqb t (swap_index z w) ≡ true
      → if (swapped z w) (news (swap_index z w)) row0 ≡ news t
  move_brings w t news row0 e =
      rw (and_left (swapped z w) (eqb t (swap_index z w)) e)
      (ap news (sym (eqb-true t (swap_index z w) (and_right (swapped z w) (eqb t (swap_index z w)) e))))

  carrier_stores : (t : ℕ) → is_delta z (rows z - 1 + t) ≡ false
  carrier_stores t = le-ltb (rows z - 1 + t) (rows z - 1) (omega arith)

  -- the transfer to node n + t takes any other new block t
  carrier_takes : (w t : ℕ) → swapped z w && eqb t (swap_index z w) ≡ false → (news : ℕ → List ℕ) (row0 : List ℕ)
      → payload_from z w (rows z - 1 + t) news row0 ≡ news t
  unfolding payload_from transfer_kind
  carrier_takes w t e news row0 = rw (carrier_stores t, add-sub_cancel_left (rows z - 1) t, e)

  carried : (start : List ℕ) (w t : ℕ) → t < z.s → swapped z w && eqb t (swap_index z w) ≡ false → Brought (growth_of z start) w t
  unfolding transfers
  carried start w t h e = record { carrier_lt = omega (arith, ok.some_rows); stored = carrier_stores t; block = carrier_takes w t e }

  pub layout_promises : (start : List ℕ) → Promises (growth_of z start)
  layout_promises start = record {
    sender_lt = λ w l. sender_there z ok w l;
    receiver_lt = λ w e l h. (brings z ok w e h).node;
    moved = λ w t l h e news row0. move_brings w t news row0 e;
    brought = λ w t l h e. carried start w t h e;
  }
