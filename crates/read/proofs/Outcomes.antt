-- What locate tells and what read hands back, from the refusal and the offset. Assumes nothing.
use mathlib.Core.Path.{◌≡◌, refl, sym, ap}
use mathlib.Core.List.{List, []}
use Prim.Native.Nat.{ℕ, zero, suc, ◌+◌, ◌-◌, ◌≤◌}
use native.Mathlib.Nat.{add-sub_cancel_left}
use lib.ListN.{length, take, drop}
use Rattle.area.proofs.Parts.{part_block}
use Rattle.answer.specs.declared.Refusal.{Refusal}
use Rattle.answer.specs.Located.{At, Refused}
use Rattle.answer.specs.Numbers.{number}
use Rattle.answer.proofs.Exits.{number_some}
use Rattle.layout.specs.declared.Shape.{Shape}
use Rattle.growth.specs.Read.{read_refusal, offset_of, at_or, locate, stretch_at, read}
use Rattle.growth.proofs.Allowed.{ReadAllowed, read_allowed}
use Rattle.read.proofs.Stands.{inside}

refused_at : (n offset : ℕ) → (n ≡ 0 → ⊥) → at_or n offset ≡ Refused n
refused_at zero offset h = absurd (h refl)
refused_at (suc n) offset h = refl

found_at : (n offset start : ℕ) → At start ≡ at_or n offset → (n ≡ 0) × (start ≡ offset)
found_at zero offset start e = (refl, cc)
found_at (suc n) offset start e = (cc, cc)

module _ (z : Shape) (area_bytes : ℕ) (journal : List ℕ) (g d : ℕ) where
  pub allowed : 0 ≡ read_refusal z area_bytes journal g d → ReadAllowed z area_bytes journal g d
  allowed none = read_allowed z area_bytes journal g d (sym none)

  pub locate_refuses : (x : Refusal) → number x ≡ read_refusal z area_bytes journal g d
      → Refused (number x) ≡ locate z area_bytes journal g d
  unfolding locate
  locate_refuses x e = rw (← e) (sym (refused_at (number x) (offset_of z journal g d) (number_some x)))

  pub locate_finds : (start : ℕ) → 0 ≡ read_refusal z area_bytes journal g d → start ≡ offset_of z journal g d
      → At start ≡ locate z area_bytes journal g d
  unfolding locate
  locate_finds start none p = rw (← none) (ap At p)

module _ (z : Shape) (area journal : List ℕ) (g d : ℕ) where
  -- a block that locate finds stands in the area
  pub stands : (start : ℕ) → At start ≡ locate z (length area) journal g d → start + z.b ≤ length area
  unfolding locate
  stands start e =
      let f = found_at (read_refusal z (length area) journal g d) (offset_of z journal g d) start e in
      let a = read_allowed z (length area) journal g d f.0 in
      rw (f.1, a.area_long) (inside z a.ok journal g d a.stripe a.column)

  pub read_refuses : (x : ℕ) → Refused x ≡ locate z (length area) journal g d → [] ≡ read z area journal g d
  unfolding read
  read_refuses x e = ap (stretch_at z area) e

  pub read_finds : (start : ℕ) → At start ≡ locate z (length area) journal g d
      → take (start + z.b - start) (drop start area) ≡ read z area journal g d
  unfolding read
  read_finds start e = rw (add-sub_cancel_left start z.b, part_block area start z.b (stands start e)) (ap (stretch_at z area) e)
