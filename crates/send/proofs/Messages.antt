-- A space that a block is written into from place 16 on, and then four words before it, holds the message. Assumes nothing.
use mathlib.Core.Path.{◌≡◌, sym, ap, ◌∙◌}
use mathlib.Core.List.{List, ◌++◌}
use Prim.Native.Nat.{ℕ, ◌+◌, ◌-◌, ◌≤◌, ◌<◌}
use native.Mathlib.Nat.{zero-add}
use native.Mathlib.Decide.{dec_lt}
use native.Mathlib.Omega.{arith}
use lib.ListN.{length, get_or, length-append, get_or-append}
use lib.Seq.{ext_get_or, get_or-append-add}
use Rattle.area.specs.Area.{put}
use Rattle.area.proofs.Blocks.{length_put, put_in, put_above}
use Rattle.layout.specs.declared.Shape.{Shape}
use Rattle.wire.specs.declared.Header.{Header}
use Rattle.wire.specs.Headers.{message_header, header_bytes, message}
use Rattle.wire.proofs.ByteLaws.{length_header}

module _ (space block words : List ℕ) (four : length words ≡ 16) (long : length space ≡ 16 + length block) where
  abbrev written : List ℕ
  written = put (put space 16 block) 0 words

  length_written : length written ≡ 16 + length block
  length_written = length_put (put space 16 block) 0 words ∙ length_put space 16 block ∙ long

  length_both : length (words ++ block) ≡ 16 + length block
  length_both = length-append words block ∙ ap (λ x. x + length block) four

  in_words : (i : ℕ) → i < 16 → get_or written i 0 ≡ get_or (words ++ block) i 0
  in_words i l =
      let room : 0 + length words ≤ length (put space 16 block) = rw (length_put space 16 block) (omega arith) in
      ap (λ x. get_or written x 0) (sym (zero-add i)) ∙ put_in (put space 16 block) 0 words i (omega arith) room
      ∙ sym (get_or-append words block 0 i (omega arith))

  in_block : (j : ℕ) → j < length block → get_or written (16 + j) 0 ≡ get_or (words ++ block) (16 + j) 0
  in_block j l =
      put_above (put space 16 block) 0 words (16 + j) (omega arith) ∙ put_in space 16 block j l (omega arith)
      ∙ sym (ap (λ x. get_or (words ++ block) (x + j) 0) (sym four) ∙ get_or-append-add words block j 0)

  both_parts : written ≡ words ++ block
  both_parts = ext_get_or 0 written (words ++ block) (length_written ∙ sym length_both) (λ i l. go i (rw length_written at l) (dec_lt i 16))
    where
      go : (i : ℕ) → i < 16 + length block → Dec (i < 16) → get_or written i 0 ≡ get_or (words ++ block) i 0
      go i l (yes m) = in_words i m
      go i l (no m) = let e : 16 + (i - 16) ≡ i = omega arith in rw e at (in_block (i - 16) (omega arith))

-- the code's two writes
pub wrote_message_law : (z : Shape) (w e number : ℕ) (space block : List ℕ) → length block ≡ z.b → length space ≡ 16 + z.b
    → {filled out : List ℕ} {h : Header}
    → filled ≡ put space 16 block → h ≡ message_header z w e number → out ≡ put filled 0 (header_bytes h) → out ≡ message z w e number block
unfolding message
wrote_message_law z w e number space block size long {filled} {out} {h} f header o =
    o ∙ rw (f, header) (both_parts space block (header_bytes (message_header z w e number)) (length_header (message_header z w e number))
    (long ∙ ap (λ x. 16 + x) (sym size)))
