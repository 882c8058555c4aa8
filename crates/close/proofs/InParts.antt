-- Close's refusals in three parts: the lengths, the whole journal, the stripes that are not released. Assumes nothing.
use mathlib.Core.Path.{◌≡◌, sym, ap, ◌∙◌}
use mathlib.Core.Bool.{Bool, not}
use mathlib.Core.List.{List, [], ◌∷◌, ◌++◌}
use Prim.Native.Nat.{ℕ}
use lib.ListN.{length}
use Rattle.base.specs.Tests.{every}
use Rattle.base.specs.Refusals.{Refusal, refuse, first, or_else}
use Rattle.base.proofs.Refusals.{or_else_pass, first_then, in_parts}
use Rattle.answer.specs.declared.Refusal as Why
use Rattle.answer.specs.Numbers.{number}
use Rattle.answer.proofs.Exits.{stops}
use Rattle.layout.specs.declared.Shape.{Shape}
use Rattle.layout.specs.Ranges.{shape_refusal}
use Rattle.layout.specs.Counts.{kept}
use Rattle.journal.specs.States.{ended_refusal}
use Rattle.growth.specs.Close.{close_refusal}
use Rattle.growth.specs.Read.{released_by}
use Rattle.growth.specs.Shared.{store_refusals, whole_refusals}
use Rattle.lent.specs.Checks.{store_refusal, whole_refusal}

abbrev unreleased : Shape → List ℕ → List Refusal
unreleased z journal = refuse (not (every (kept z) (released_by journal))) 8 ∷ []

module _ (z : Shape) (area_bytes : ℕ) (journal : List ℕ) where
  in_three : or_else (store_refusal z area_bytes (length journal)) (or_else (whole_refusal z journal) (first (unreleased z journal)))
      ≡ close_refusal z area_bytes journal
  unfolding close_refusal store_refusal whole_refusal ended_refusal
  in_three =
      ap (or_else (store_refusal z area_bytes (length journal)))
      (first_then (whole_refusals z journal) (unreleased z journal) (tt, (tt, tt)))
      ∙ in_parts (shape_refusal z) (store_refusals z area_bytes (length journal)) (whole_refusals z journal ++ unreleased z journal)
      (tt, (tt, tt))

  pub stops_first : (x : Why.Refusal) → number x ≡ store_refusal z area_bytes (length journal)
      → number x ≡ close_refusal z area_bytes journal
  stops_first x e = stops x _ _ e ∙ in_three

  module _ (right : 0 ≡ store_refusal z area_bytes (length journal)) where
    pub stops_later : (x : Why.Refusal) → number x ≡ whole_refusal z journal → number x ≡ close_refusal z area_bytes journal
    stops_later x e = stops x _ _ e ∙ sym (or_else_pass _ _ (sym right)) ∙ in_three

    -- the pass over the journal tells of the stripes besides, where the journal is good
    pub passes : 0 ≡ whole_refusal z journal → (r : Bool) → r ≡ every (kept z) (released_by journal)
        → close_refusal z area_bytes journal ≡ first (refuse (not r) 8 ∷ [])
    passes good r p = sym in_three ∙ or_else_pass _ _ (sym right) ∙ or_else_pass _ _ (sym good) ∙ rw p
