-- FORMAT §11; document 01, "Who can cause a no": the conditions on a stripe's pair of words. Assumes nothing.
use Rattle.std.specs.Prelude.{Bool, not, ◌||◌, [], ◌∷◌, ℕ, eqb, ltb}
use Rattle.base.specs.Tests.{only_if, every, all}
use Rattle.layout.specs.declared.Shape.{Shape}
use Rattle.layout.specs.Counts.{transfers}
use Rattle.wire.specs.Words.{field, word, rest_of, bit}
use Rattle.records.specs.declared.StripeRecord.{StripeRecord}
use Rattle.records.specs.Records.{is_accepted, is_receipted, is_computed, is_released}

-- ---- of one word

-- the bits of kind 10, and those of kind 11, that have a name
abbrev pub accepted_names : Shape → ℕ → Bool
accepted_names z e = ltb e (transfers z)

abbrev pub progress_names : Shape → ℕ → Bool
progress_names z e = ltb e (transfers z) || (eqb e 26 || eqb e 27)

-- the unnamed ones of bits 27 to 0 are zero
unfoldable pub only_named : (ℕ → Bool) → ℕ → Bool
only_named named x = every 28 (λ e. named e || not (bit x e))

-- no wrong kind: it is the word of that kind and of its own bits 27 to 0
abbrev pub of_kind : ℕ → ℕ → Bool
of_kind kind x = eqb x (word kind (field 28 (rest_of x) ∷ []))

-- no wrong kind, no unnamed bit
abbrev pub word_ok : ℕ → (ℕ → Bool) → ℕ → Bool
word_ok kind named x = all (of_kind kind x ∷ only_named named x ∷ [])

unfoldable pub accepted_ok : Shape → ℕ → Bool
accepted_ok z x = word_ok 10 (accepted_names z) x

unfoldable pub progress_ok : Shape → ℕ → Bool
progress_ok z x = word_ok 11 (progress_names z) x

-- ---- of both

-- receipted within accepted, accepted only if computed, released only if all receipted
unfoldable pub record_ok : Shape → StripeRecord → Bool
record_ok z r =
    all
    (accepted_ok z r.accepted ∷
    progress_ok z r.progress ∷
    every (transfers z) (λ e. only_if (is_receipted r e) (is_accepted r e)) ∷
    every (transfers z) (λ e. only_if (is_accepted r e) (is_computed r)) ∷
    only_if (is_released r) (every (transfers z) (is_receipted r)) ∷
    [])
