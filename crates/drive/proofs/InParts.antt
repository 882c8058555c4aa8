-- The refusals of drive in three parts: shape and lengths, the space, the whole journal. Assumes nothing.
use mathlib.Core.Path.{◌≡◌, sym, ◌∙◌}
use mathlib.Core.List.{List, ◌∷◌}
use Prim.Native.Nat.{ℕ, ◌+◌}
use native.Mathlib.Omega.{arith}
use lib.ListN.{length}
use borrow.Author.Tests.{eq-eqb, ne_eqb}
use Rattle.base.specs.Refusals.{Refusal, first, or_else}
use Rattle.base.proofs.Refusals.{in_parts, or_else_stop, or_else_pass}
use Rattle.layout.specs.declared.Shape.{Shape}
use Rattle.layout.specs.Ranges.{shape_refusal}
use Rattle.growth.specs.Shared.{wrong_length, store_refusals, whole_refusals}
use Rattle.growth.specs.Send.{message_length}
use Rattle.growth.specs.Deliver.{receipt_length}
use Rattle.growth.specs.Drive.{drive_refusal}
use Rattle.lent.specs.Checks.{store_refusal, whole_refusal}

module _ (z : Shape) (area_bytes : ℕ) (journal : List ℕ) (spaceBytes : ℕ) where
  -- the list after shape and lengths of area and journal
  abbrev others : List Refusal
  others = wrong_length spaceBytes (message_length z + receipt_length) ∷ whole_refusals z journal

  rest : ℕ
  rest = first others

  parts : or_else (store_refusal z area_bytes (length journal)) rest ≡ drive_refusal z area_bytes journal spaceBytes
  unfolding store_refusal drive_refusal rest
  parts = in_parts (shape_refusal z) (store_refusals z area_bytes (length journal)) others (tt, (tt, tt))

  pub shape_stops : {refusal : ℕ} → refusal ≡ store_refusal z area_bytes (length journal) → (refusal ≡ 0 → ⊥)
      → refusal ≡ drive_refusal z area_bytes journal spaceBytes
  shape_stops {refusal} e h = e ∙ (sym (or_else_stop _ rest (λ q. h (e ∙ q))) ∙ parts)

  module _ (lent : store_refusal z area_bytes (length journal) ≡ 0) where
    left : drive_refusal z area_bytes journal spaceBytes ≡ rest
    left = sym parts ∙ or_else_pass _ rest lent

    pub space_stops : (spaceBytes ≡ 32 + z.b → ⊥) → 3 ≡ drive_refusal z area_bytes journal spaceBytes
    unfolding rest
    space_stops h = rw (left, ne_eqb spaceBytes (message_length z + receipt_length) (λ e. h (omega arith)))

    pub whole_decides : spaceBytes ≡ 32 + z.b → whole_refusal z journal ≡ drive_refusal z area_bytes journal spaceBytes
    unfolding rest whole_refusal
    whole_decides e = rw (left, eq-eqb spaceBytes (message_length z + receipt_length) (omega arith))
