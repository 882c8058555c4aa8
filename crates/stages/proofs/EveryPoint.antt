-- What every cell holds after every history. Assumes nothing.
use mathlib.Core.Path.{◌≡◌, sym, ap₂, ◌∙◌}
use mathlib.Core.Bool.{true}
use mathlib.Core.List.{List}
use Prim.Native.Nat.{ℕ, ◌+◌, ◌<◌}
use Rattle.layout.specs.declared.Shape.{Shape}
use Rattle.layout.specs.Addresses.{node_slots}
use Rattle.layout.specs.Roles.{Role, role_exists, role_node, role_slot, role_at}
use Rattle.layout.proofs.RoleLaws.{cell_role}
use Rattle.growth.specs.Cells.{cell}
use Rattle.history.specs.Contents.{Contents}
use Rattle.history.specs.Begun.{Begun}
use Rattle.history.specs.Calls.{Call}
use Rattle.history.specs.Claims.{now, IsHistory}
use Rattle.history.proofs.Growths.{Fit}
use Rattle.history.proofs.EveryHistory.{in_order, invariant}
use Rattle.stages.specs.Cells.{held_by, cell_now}
use Rattle.stages.specs.Claims.{AnyPoint}
use Rattle.stages.proofs.RolesHeld.{roles_held}

module _ (z : Shape) (area : List ℕ) (number : ℕ) (b : Begun z area number) (history : List Call)
    (sent : IsHistory z area number history) where
  abbrev c : Contents
  c = now z area number history

  fit : Fit z number c
  fit = in_order z area number b history sent

  held : (a : Role) → role_exists z a ≡ true → cell z c.area (role_node z a) (role_slot z a) ≡ held_by z area c.journal a
  held = roles_held z area number b c (invariant z area number b history sent)

  -- a cell holds what its role's cell holds
  cells_held : (v g : ℕ) → v < z.n + z.s → g < node_slots z v → cell z c.area v g ≡ cell_now z area c.journal v g
  cells_held v g lv lg =
      let r = cell_role z b.in_ranges v g lv lg in
      ap₂ (cell z c.area) (sym r.node) (sym r.slot) ∙ held (role_at z v g) r.there

  pub every_history : AnyPoint z area number c.area c.journal
  every_history = record {
    begun = b;
    area_long = fit.area_long;
    journal_good = record {
      long = fit.journal_long;
      whole = fit.whole;
      growth = fit.number_is;
    };
    cells = cells_held;
    roles = held;
  }
