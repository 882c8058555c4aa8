-- FORMAT §9 and §10; document 01, "Words and messages": the table of the 32-bit words, and a word's bytes. Assumes nothing.
use Rattle.std.specs.Prelude.{Bool, List, [], ◌∷◌, ℕ, ◌+◌, ◌*◌, ◌/◌, ◌%◌, ◌^◌, eqb, get_or}
use Rattle.layout.specs.declared.Shape.{Shape}

-- fields stand from the highest bit down, each with its width
pub record Field : Type 0 where
  pub width : ℕ
  pub value : ℕ

abbrev pub field : ℕ → ℕ → Field
field width value = record { width = width; value = value }

abbrev widths : List Field → ℕ
widths [] = 0
widths (f ∷ fs) = f.width + widths fs

abbrev pub packed : List Field → ℕ
packed [] = 0
packed (f ∷ fs) = f.value * 2 ^ widths fs + packed fs

-- bits 31 to 28 are the kind
abbrev pub word : ℕ → List Field → ℕ
word kind fields = packed (field 4 kind ∷ fields)

-- kinds 1 change, 2 data, 3 parity, 4 receipt: w
unfoldable pub stripe_word : ℕ → ℕ → ℕ
stripe_word kind w = word kind (field 28 w ∷ [])

-- kind 5: sender 8, receiver 8, item 8, zero 4
unfoldable pub route_word : ℕ → ℕ → ℕ → ℕ
route_word sender receiver item = word 5 (field 8 sender ∷ field 8 receiver ∷ field 8 item ∷ field 4 0 ∷ [])

-- kind 7: state 4, n 8, k 8, s 8
unfoldable pub state_word : ℕ → Shape → ℕ
state_word state z = word 7 (field 4 state ∷ field 8 z.n ∷ field 8 z.k ∷ field 8 z.s ∷ [])

-- kind 8: B; the one definition of this word, for the journal and for messages
unfoldable pub size_word : Shape → ℕ
size_word z = word 8 (field 28 z.b ∷ [])

-- kind 9: the growth number
unfoldable pub growth_word : ℕ → ℕ
growth_word number = word 9 (field 28 number ∷ [])

-- kind 10: bit e for each accepted transfer e
unfoldable pub accepted_word : ℕ → ℕ
accepted_word accepted = word 10 (field 28 accepted ∷ [])

-- kind 11: bit 27 released, bit 26 computed, and below them bit e for each receipted transfer e
unfoldable pub progress_word : ℕ → ℕ → ℕ → ℕ
progress_word released computed receipted = word 11 (field 1 released ∷ field 1 computed ∷ field 26 receipted ∷ [])

-- kind 12: transfers accepted so far
unfoldable pub count_word : ℕ → ℕ
count_word count = word 12 (field 28 count ∷ [])

-- ---- reading

-- the field of a width whose lowest bit is `low`
abbrev pub field_at : ℕ → ℕ → ℕ → ℕ
field_at low width x = x / 2 ^ low % 2 ^ width

abbrev pub kind_of : ℕ → ℕ
kind_of x = field_at 28 4 x

-- bits 27 to 0
abbrev pub rest_of : ℕ → ℕ
rest_of x = field_at 0 28 x

-- bit e is set
unfoldable pub bit : ℕ → ℕ → Bool
bit x e = eqb (field_at e 1 x) 1

-- ---- in messages, little-endian

-- the four bytes of a word, the lowest first
abbrev pub bytes_of : ℕ → List ℕ
bytes_of x = x % 256 ∷ x / 256 % 256 ∷ x / 65536 % 256 ∷ x / 16777216 % 256 ∷ []

-- the word whose lowest byte is at a place
unfoldable pub word_at : List ℕ → ℕ → ℕ
word_at bytes at = get_or bytes at 0 + get_or bytes (at + 1) 0 * 256 + get_or bytes (at + 2) 0 * 65536 + get_or bytes (at + 3) 0 * 16777216
