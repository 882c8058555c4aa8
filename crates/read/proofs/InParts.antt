-- Read's refusals in two parts: the lengths, as every call on the whole store tests them, then the block. Assumes nothing.
use mathlib.Core.Path.{◌≡◌, refl, sym, ◌∙◌}
use mathlib.Core.Bool.{Bool, true, false, not, ◌&&◌}
use mathlib.Core.List.{List, [], ◌∷◌}
use Prim.Native.Nat.{ℕ}
use lib.Dec.{leb, ltb}
use lib.ListN.{length}
use Rattle.base.specs.Tests.{if, only_if}
use Rattle.base.specs.Refusals.{Refusal, refuse, first, or_else}
use Rattle.base.proofs.Refusals.{or_else_pass, in_parts}
use Rattle.answer.specs.declared.Refusal as Why
use Rattle.answer.specs.Numbers.{number}
use Rattle.answer.proofs.Exits.{stops, tested_false}
use Rattle.layout.specs.declared.Shape.{Shape}
use Rattle.layout.specs.Ranges.{shape_refusal}
use Rattle.layout.specs.Counts.{kept, stripes}
use Rattle.layout.specs.Columns.{new_stripe}
use Rattle.records.specs.Conditions.{progress_ok}
use Rattle.journal.specs.Journal.{header_of, header_ok, record_at}
use Rattle.growth.specs.Shared.{damaged_header, damaged_word, out_of_range, store_refusals}
use Rattle.growth.specs.Read.{touches_word, read_refusal}
use Rattle.lent.specs.Checks.{store_refusal}

unfoldable pub block_refusals : Shape → List ℕ → ℕ → ℕ → List Refusal
block_refusals z journal g d =
    damaged_header z (header_of journal)
    ∷ damaged_word (touches_word z g d) (progress_ok z (record_at journal (new_stripe z g d)).progress)
    ∷ out_of_range g (stripes z)
    ∷ out_of_range d z.k
    ∷ []

-- ---- of a block: whether it is of a dissolved stripe, whether stripe and column are in range, whether the word is right

tests : (dissolved stripe column word : Bool) → List Refusal
tests dissolved stripe column word =
    damaged_word (dissolved && (stripe && column)) word ∷ refuse (not stripe) 5 ∷ refuse (not column) 5 ∷ []

out : (a s t w : Bool) → s && t ≡ false → first (tests a s t w) ≡ 5
unfolding tests
out true true true w e = cc
out true true false w e = refl
out true false t w e = refl
out false true true w e = cc
out false true false w e = refl
out false false t w e = refl

damaged : (a s t w : Bool) → s && t ≡ true → only_if a w ≡ false → first (tests a s t w) ≡ 4
unfolding tests
damaged true true true true e f = cc
damaged true true true false e f = refl
damaged true true false w e f = cc
damaged true false t w e f = cc
damaged false s t w e f = cc

right : (a s t w : Bool) → s && t ≡ true → only_if a w ≡ true → first (tests a s t w) ≡ 0
unfolding tests
right true true true true e f = refl
right true true true false e f = cc
right true true false w e f = cc
right true false t w e f = cc
right false true true w e f = refl
right false true false w e f = cc
right false false t w e f = cc

header_right : (t : Bool) → ◌≡◌ {A = ℕ} 0 (if t 0 4) → t ≡ true
header_right true e = refl
header_right false e = cc

module _ (z : Shape) (area_bytes : ℕ) (journal : List ℕ) (g d : ℕ) where
  abbrev the_tests : List Refusal
  the_tests =
      tests (leb (kept z) g) (ltb g (stripes z)) (ltb d z.k) (progress_ok z (record_at journal (new_stripe z g d)).progress)

  in_two : or_else (store_refusal z area_bytes (length journal)) (first (block_refusals z journal g d))
      ≡ read_refusal z area_bytes journal g d
  unfolding block_refusals read_refusal store_refusal
  in_two = in_parts (shape_refusal z) (store_refusals z area_bytes (length journal)) (block_refusals z journal g d) (tt, (tt, tt))

  pub stops_first : (x : Why.Refusal) → number x ≡ store_refusal z area_bytes (length journal)
      → number x ≡ read_refusal z area_bytes journal g d
  stops_first x e = stops x _ _ e ∙ in_two

  module _ (lengths : 0 ≡ store_refusal z area_bytes (length journal)) where
    passes : if (not (header_ok z (header_of journal))) 4 (first the_tests) ≡ read_refusal z area_bytes journal g d
    unfolding block_refusals tests
    passes = sym (or_else_pass _ _ (sym lengths)) ∙ in_two

    pub header_stops : (x : Why.Refusal) → number x ≡ if (header_ok z (header_of journal)) 0 4
        → number x ≡ read_refusal z area_bytes journal g d
    header_stops x e = let f = tested_false x (header_ok z (header_of journal)) 4 e in f.1 ∙ (rw f.0 at passes)

    module _ (header : ◌≡◌ {A = ℕ} 0 (if (header_ok z (header_of journal)) 0 4)) where
      tests_pass : first the_tests ≡ read_refusal z area_bytes journal g d
      tests_pass = rw (header_right _ header) at passes

      pub range_stops : ltb g (stripes z) && ltb d z.k ≡ false → 5 ≡ read_refusal z area_bytes journal g d
      range_stops there = sym (out _ _ _ _ there) ∙ tests_pass

      module _ (there : ltb g (stripes z) && ltb d z.k ≡ true) where
        pub word_stops : only_if (leb (kept z) g) (progress_ok z (record_at journal (new_stripe z g d)).progress) ≡ false
            → 4 ≡ read_refusal z area_bytes journal g d
        word_stops e = sym (damaged _ _ _ _ there e) ∙ tests_pass

        pub nothing_stops : only_if (leb (kept z) g) (progress_ok z (record_at journal (new_stripe z g d)).progress) ≡ true
            → 0 ≡ read_refusal z area_bytes journal g d
        nothing_stops e = sym (right _ _ _ _ there e) ∙ tests_pass
