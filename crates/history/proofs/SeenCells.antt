-- Laws of the cells by role: what is put in the cell of one role is there, and no other role's cell changes. Assumes nothing.
use mathlib.Core.Path.{◌≡◌, refl, sym, ap₂, ◌∙◌}
use mathlib.Core.Bool.{Bool, true, false}
use mathlib.Core.List.{List}
use Prim.Native.Nat.{ℕ}
use lib.ListN.{length}
use Rattle.base.proofs.Choice.{if_true, if_false}
use Rattle.area.specs.Area.{zeros}
use Rattle.layout.specs.declared.Shape.{Shape}
use Rattle.layout.specs.Ranges.{InRanges}
use Rattle.layout.specs.Addresses.{area_length}
use Rattle.layout.specs.Roles.{Role, role_exists, role_node, role_slot, role_at}
use Rattle.layout.proofs.RoleLaws.{role_cell}
use Rattle.growth.specs.Cells.{cell, put_cell}
use Rattle.growth.proofs.CellLaws.{cell_same, cell_other}
use Rattle.history.proofs.Growths.{seen}

-- ---- what is seen

module _ (z : Shape) (area : List ℕ) (a : Role) where
  pub seen_there : role_exists z a ≡ true → seen z area a ≡ cell z area (role_node z a) (role_slot z a)
  unfolding seen
  seen_there e = if_true (role_exists z a) _ _ e

  seen_none : role_exists z a ≡ false → seen z area a ≡ zeros z.b
  unfolding seen
  seen_none e = if_false (role_exists z a) _ _ e

-- two areas with the same block in the role's cell, if there is such a role
pub seen_same : (z : Shape) (area left : List ℕ) (a : Role)
    → (role_exists z a ≡ true → cell z left (role_node z a) (role_slot z a) ≡ cell z area (role_node z a) (role_slot z a))
    → seen z left a ≡ seen z area a
seen_same z area left a h = go (role_exists z a) refl
  where
    go : (t : Bool) → role_exists z a ≡ t → seen z left a ≡ seen z area a
    go true e = seen_there z left a e ∙ (h e ∙ sym (seen_there z area a e))
    go false e = seen_none z left a e ∙ sym (seen_none z area a e)

-- the role's cell is zeroed, or there is no such role
pub seen_zeros : (z : Shape) (area : List ℕ) (a : Role)
    → (role_exists z a ≡ true → cell z area (role_node z a) (role_slot z a) ≡ zeros z.b) → seen z area a ≡ zeros z.b
seen_zeros z area a h = go (role_exists z a) refl
  where
    go : (t : Bool) → role_exists z a ≡ t → seen z area a ≡ zeros z.b
    go true e = seen_there z area a e ∙ h e
    go false e = seen_none z area a e

module _ (z : Shape) (ok : InRanges z) where
  -- roles with the same cell are the same
  pub one_role : (a c : Role) → role_exists z a ≡ true → role_exists z c ≡ true → role_node z a ≡ role_node z c
      → role_slot z a ≡ role_slot z c
      → a ≡ c
  one_role a c p q v g = sym (role_cell z ok a p).role ∙ (ap₂ (role_at z) v g ∙ (role_cell z ok c q).role)

  -- ---- a block put in the cell of a role
  module _ (area : List ℕ) (a : Role) (block : List ℕ) (there : role_exists z a ≡ true) (long : length block ≡ z.b) where
    pub put_there : length area ≡ area_length z → seen z (put_cell z area (role_node z a) (role_slot z a) block) a ≡ block
    put_there l = let c = role_cell z ok a there in
        seen_there z (put_cell z area (role_node z a) (role_slot z a) block) a there
        ∙ cell_same z area (role_node z a) (role_slot z a) block l c.node c.slot long

    pub put_others : (c : Role) → (a ≡ c → ⊥) → seen z (put_cell z area (role_node z a) (role_slot z a) block) c ≡ seen z area c
    put_others c differ = seen_same z area (put_cell z area (role_node z a) (role_slot z a) block) c
        (λ e. cell_other z area (role_node z a) (role_slot z a) (role_node z c) (role_slot z c) block (role_cell z ok a there).slot
        (role_cell z ok c e).slot long (λ v g. differ (one_role a c there e v g)))
