-- Encode writes all old parity cells and nothing else, and begin right after it accepts. Assumes nothing.
use mathlib.Core.Path.{◌≡◌, ◌∙◌}
use mathlib.Core.Bool.{true}
use mathlib.Core.List.{List}
use Prim.Native.Nat.{ℕ, ◌^◌, ◌<◌}
use lib.ListN.{length}
use borrow.Author.Tests.{lt-ltb, eq-eqb}
use Rattle.base.specs.Tests.{every}
use Rattle.base.proofs.Tests.{every_intro}
use Rattle.area.proofs.Blocks.{same_bytes_refl}
use Rattle.answer.specs.Answers.{done}
use Rattle.layout.specs.declared.Shape.{Shape}
use Rattle.layout.specs.Ranges.{rows, InRanges}
use Rattle.layout.specs.Counts.{stripes}
use Rattle.layout.specs.Addresses.{area_length}
use Rattle.layout.proofs.RangeLaws.{accepted}
use Rattle.journal.specs.Journal.{journal_length}
use Rattle.growth.specs.Cells.{parity_of}
use Rattle.growth.specs.Encode.{encode_refusal, encoded_area, encode}
use Rattle.growth.specs.Begin.{stripe_holds, begin_refusal, begin}
use Rattle.growth.specs.Claims.{EncodeCells}
use Rattle.growth.proofs.EncodeLaws.{parity_of_same, length_encoded, encoded_row, encoded_other, encoded_column}

module _ (z : Shape) (ok : InRanges z) where
  -- each row is what the lent columns give, and the columns are still the lent ones
  encoded_holds : (area : List ℕ) → length area ≡ area_length z → (g : ℕ) → g < stripes z → stripe_holds z (encoded_area z area) g ≡ true
  unfolding stripe_holds
  encoded_holds area long g lg =
      every_intro (rows z) _ (λ j lj.
      rw (
        encoded_row z ok area long g j lg lj,
        parity_of_same z (encoded_area z area) area g j (λ d ld. encoded_column z ok area g d lg ld),
      )
      (same_bytes_refl (parity_of z area g j)))

  -- nothing refuses the encode of an area of the exact length
  encode_refusal_law : (area : List ℕ) → length area ≡ area_length z → encode_refusal z (length area) ≡ 0
  unfolding encode_refusal
  encode_refusal_law area long = rw (accepted z ok, eq-eqb (length area) (area_length z) long)

  encode_area : (area : List ℕ) → length area ≡ area_length z → (encode z area).area ≡ encoded_area z area
  unfolding encode
  encode_area area long = rw (encode_refusal_law area long)

  -- nothing refuses the begin of such an area whose stripes all hold
  pub begin_refusal_law : (area : List ℕ) (journalWords number : ℕ) → length area ≡ area_length z → journalWords ≡ journal_length z
      → number < 2 ^ 28
      → every (stripes z) (stripe_holds z area) ≡ true → begin_refusal z area journalWords number ≡ 0
  unfolding begin_refusal
  begin_refusal_law area journalWords number long words small holds =
      rw (
        accepted z ok,
        eq-eqb (length area) (area_length z) long,
        eq-eqb journalWords (journal_length z) words,
        lt-ltb number (2 ^ 28) small,
        holds,
      )

  pub begin_done : (area journal : List ℕ) (number : ℕ) → begin_refusal z area (length journal) number ≡ 0
      → (begin z area journal number).answer ≡ done
  unfolding begin
  begin_done area journal number e = rw e

  encoded_accepted : (area : List ℕ) → length area ≡ area_length z → (journal : List ℕ) (number : ℕ) → length journal ≡ journal_length z
      → number < 2 ^ 28 → (begin z (encode z area).area journal number).answer ≡ done
  encoded_accepted area long journal number words small =
      rw (encode_area area long)
      (begin_done (encoded_area z area) journal number
      (begin_refusal_law (encoded_area z area) (length journal) number (length_encoded z area ∙ long) words small
      (every_intro (stripes z) _ (encoded_holds area long))))

pub encode_cells : (z : Shape) → InRanges z → (area : List ℕ) → length area ≡ area_length z → EncodeCells z area
encode_cells z ok area long =
    record { parity = encoded_row z ok area long; others = encoded_other z ok area; accepted = encoded_accepted z ok area long }
