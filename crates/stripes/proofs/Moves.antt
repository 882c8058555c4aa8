-- Offsets that are moved on one after the other. Assumes nothing.
use mathlib.Core.Path.{◌≡◌, ap, ◌∙◌}
use mathlib.Core.List.{List}
use Prim.Native.Nat.{ℕ, ◌+◌, ◌≤◌, ◌<◌}
use native.Mathlib.Nat.{add_assoc}
use native.Mathlib.Omega.{arith}
use lib.ListN.{length, get_or, set}
use lib.Seq.{get_or-set_other}
use Rattle.base.proofs.Tables.{entry_more}
use Rattle.combine.specs.Columns.{Inside}
use Rattle.stripes.specs.Stripes.{Moved, Movable}

-- one more has moved
pub moved_more : (first at : List ℕ) (p x : ℕ) → ((q : ℕ) → q < p → get_or at q 0 ≡ get_or first q 0 + x)
    → ((q : ℕ) → p ≤ q → get_or at q 0 ≡ get_or first q 0)
    → p < length at → (q : ℕ) → q < p + 1 → get_or (set at p (get_or at p 0 + x)) q 0 ≡ get_or first q 0 + x
moved_more first at p x moved kept room =
    entry_more (λ q. get_or first q 0 + x) p at moved room (ap (λ (y : ℕ). y + x) (kept p (omega arith)))

-- those behind it have not
pub kept_more : (first at : List ℕ) (p x : ℕ) → ((q : ℕ) → p ≤ q → get_or at q 0 ≡ get_or first q 0)
    → (q : ℕ) → p + 1 ≤ q → get_or (set at p x) q 0 ≡ get_or first q 0
kept_more first at p x kept q l = get_or-set_other at p q x 0 (omega arith) ∙ kept q (omega arith)

-- ---- all of them

pub moved_then : {at there after : List ℕ} {n x y : ℕ} → Moved at there n x → Moved there after n y → Moved at after n (x + y)
moved_then {at} {there} {after} {n} {x} {y} first then =
    record { each = λ p l. then.each p l ∙ rw (first.each p l) (add_assoc (get_or at p 0) x y) }

-- where blocks of b bytes fit, the offsets of their pieces can be moved on up to b
pub movable : {at there area : List ℕ} {n b x y : ℕ} → Inside at n b area → length area < 18446744073709551616
    → Moved at there n x → x + y ≤ b
    → Movable there n y
movable s short moved room = record { each = λ p l. rw (moved.each p l) (omega (arith, s.fits p l)) }
