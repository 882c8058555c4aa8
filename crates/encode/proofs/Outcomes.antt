-- What encode may rely on where nothing refuses it, and what it answers. Assumes nothing.
use mathlib.Core.Path.{◌≡◌, sym}
use mathlib.Core.List.{List}
use Prim.Native.Nat.{ℕ}
use lib.ListN.{length}
use borrow.Author.Tests.{eqb-true, not-false}
use Rattle.base.specs.Refusals.{first}
use Rattle.base.proofs.Refusals.{first_zero, or_else_zero}
use Rattle.answer.specs.declared.Refusal.{Refusal}
use Rattle.answer.specs.Answers.{refused, done}
use Rattle.answer.specs.Numbers.{number}
use Rattle.answer.proofs.Answers.{answered_refuses}
use Rattle.answer.proofs.Exits.{number_some}
use Rattle.layout.specs.declared.Shape.{Shape}
use Rattle.layout.specs.Ranges.{shape_refusal}
use Rattle.layout.specs.Addresses.{area_length}
use Rattle.growth.specs.Encode.{EncodeOutcome, encode_refusals, encode_refusal, encoded_area, encode}

module _ (z : Shape) (area : List ℕ) where
  pub area_long : 0 ≡ encode_refusal z (length area) → length area ≡ area_length z
  unfolding encode_refusal
  area_long none =
      let f = or_else_zero (shape_refusal z) (first (encode_refusals z (length area))) (sym none) in
      let p = first_zero (encode_refusals z (length area)) (tt, tt) f.1 in
      eqb-true (length area) (area_length z) (not-false _ p.0)

  pub refuses : (x : Refusal) → number x ≡ encode_refusal z (length area)
      → ◌≡◌ {A = EncodeOutcome} (record { answer = refused (number x); area = area }) (encode z area)
  unfolding encode
  refuses x refusal = rw (← refusal, answered_refuses (number x) _ (number_some x))

  pub acts : {after : List ℕ} → 0 ≡ encode_refusal z (length area) → after ≡ encoded_area z area
      → ◌≡◌ {A = EncodeOutcome} (record { answer = done; area = after }) (encode z area)
  unfolding encode
  acts none writes = rw (writes, ← none)
