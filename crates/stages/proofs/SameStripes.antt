-- The cells of a stripe depend on its own marks alone. Assumes nothing.
use mathlib.Core.Path.{◌≡◌, refl, sym, ◌∙◌}
use mathlib.Core.Bool.{true}
use mathlib.Core.List.{List}
use Prim.Native.Nat.{ℕ, zero, suc, ◌+◌, ◌-◌, ◌<◌}
use native.Mathlib.Omega.{arith}
use lib.Dec.{ltb}
use Rattle.base.proofs.Tests.{second_lt}
use Rattle.layout.specs.declared.Shape.{Shape}
use Rattle.layout.specs.Ranges.{rows, InRanges}
use Rattle.layout.specs.Counts.{kept, transfers}
use Rattle.layout.specs.Addresses.{node_slots}
use Rattle.layout.specs.Roles.{Role, kept_data, kept_row, source, dissolved_row, new_cell, role_exists, role_slot, role_at}
use Rattle.layout.proofs.RoleLaws.{cell_role}
use Rattle.layout.proofs.SourceLaws.{taken}
use Rattle.layout.proofs.AddressLaws.{kept_slots}
use Rattle.growth.specs.Cells.{cell, new_block}
use Rattle.history.proofs.RoleNames.{source_exists, source_kept, source_below, dissolved_from}
use Rattle.stages.specs.Cells.{held_by}
use Rattle.stages.specs.Journals.{SameStage}
use Rattle.stages.specs.Claims.{AnyPoint, SameStripe}

module _ (z : Shape) (old a b : List ℕ) (w : ℕ) (ok : InRanges z) (l : w < kept z) (same : SameStage z a b w) where
  -- in slot w there are columns, rows and new blocks of w, and nothing of dissolved stripes
  held_same : (r : Role) → role_exists z r ≡ true → role_slot z r ≡ w → held_by z old a r ≡ held_by z old b r
  unfolding held_by transfers
  held_same (kept_data u d) e s = refl
  held_same (kept_row u zero) e s = rw (s, same.computed, same.released)
  held_same (kept_row u (suc j)) e s =
      let m = second_lt (ltb u (kept z)) (suc j) (rows z) e in
      rw (s, same.accepted j (omega (arith, ok.some_new)))
  held_same (new_cell u t) e s =
      let m = second_lt (ltb u (kept z)) t z.s e in
      rw (s, same.accepted (rows z - 1 + t) (omega (arith, ok.some_rows)))
  held_same (source u t) e s = absurd (omega (arith, (taken z ok u t (source_kept z u t e) (source_below z u t e)).from))
  held_same (dissolved_row g j) e s = absurd (omega (arith, dissolved_from z g j e))

module _ (z : Shape) (old : List ℕ) (number : ℕ) (x y a b : List ℕ) (p : AnyPoint z old number x a) (q : AnyPoint z old number y b)
    (w : ℕ) (l : w < kept z) (same : SameStage z a b w) where
  abbrev ok : InRanges z
  ok = p.begun.in_ranges

  same_slot : (v : ℕ) → v < z.n + z.s → cell z x v w ≡ cell z y v w
  same_slot v m =
      let there : w < node_slots z v = omega (arith, kept_slots z v) in
      let r = cell_role z ok v w m there in
      p.cells v w m there ∙ held_same z old a b w ok l same (role_at z v w) r.there r.slot ∙ sym (q.cells v w m there)

  same_source : (t : ℕ) → t < z.s → new_block z x w t ≡ new_block z y w t
  unfolding new_block held_by
  same_source t m =
      let there = source_exists z w t l m in
      p.roles (source w t) there ∙ rw same.released (sym (q.roles (source w t) there))

  pub same_stripe : SameStripe z x y w
  same_stripe = record { slot = same_slot; sources = same_source }
