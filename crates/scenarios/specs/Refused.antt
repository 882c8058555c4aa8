-- What the lines of the refusal tables lend: shapes outside their ranges, damaged books, messages and receipts of the small store.
-- Assumes nothing.
use Rattle.std.specs.Prelude.{List, [], ◌∷◌, ℕ, replicate, set}
use Rattle.layout.specs.declared.Shape.{Shape}
use Rattle.scenarios.specs.Small.{fresh_words, part_words, part_message, part_receipt, closed_words}

-- k = n; s (r - 1) = 6 > n
abbrev pub no_parity : Shape
no_parity = record { n = 2; k = 2; s = 1; b = 1 }

abbrev pub many_new : Shape
many_new = record { n = 4; k = 1; s = 3; b = 1 }

-- spaces of the right lengths for a message, a receipt and drive
abbrev pub message_space : List ℕ
message_space = replicate 17 0

abbrev pub receipt_space : List ℕ
receipt_space = replicate 16 0

abbrev pub drive_space : List ℕ
drive_space = replicate 33 0

-- ---- books

-- a header with a block size of 2; with kind 6 for kind 7; with state 3; with s = 2; closed, with a block size of 2
abbrev pub other_size : List ℕ
other_size = set fresh_words 1 0x80000002

abbrev pub wrong_kind : List ℕ
wrong_kind = set fresh_words 0 0x61020101

abbrev pub unlisted_state : List ℕ
unlisted_state = set fresh_words 0 0x73020101

abbrev pub other_shape : List ℕ
other_shape = set fresh_words 0 0x71020102

abbrev pub closed_other_size : List ℕ
closed_other_size = set closed_words 1 0x80000002

-- of stripe 1, part of the way: bit 1 set, where only item 0 has a name, in the word of kind 10, or of kind 11
abbrev pub accepted_unnamed : List ℕ
accepted_unnamed = set part_words 6 0xA0000003

abbrev pub progress_unnamed : List ℕ
progress_unnamed = set part_words 7 0xB4000002

-- the count is at its total, and no mark is there
abbrev pub count_full : List ℕ
count_full = set fresh_words 3 0xC0000006

-- stripe 2 is released and not computed
abbrev pub released_uncomputed : List ℕ
released_uncomputed = set part_words 9 0xB8000001

-- ---- messages and receipts

-- kind 1 for kind 2; one of the four zero bits set; w = 6; growth number 6; the first and the last of these
abbrev pub change_kind : List ℕ
change_kind = set part_message 3 0x10

abbrev pub zero_bit_set : List ℕ
zero_bit_set = set part_message 4 0x01

abbrev pub stripe_six : List ℕ
stripe_six = set part_message 0 0x06

abbrev pub other_growth : List ℕ
other_growth = set part_message 8 0x06

abbrev pub change_other_growth : List ℕ
change_other_growth = set change_kind 8 0x06

-- kind 2 for kind 4; growth number 6
abbrev pub data_kind_receipt : List ℕ
data_kind_receipt = set part_receipt 3 0x20

abbrev pub other_growth_receipt : List ℕ
other_growth_receipt = set part_receipt 8 0x06

-- of stripe 2, from node 0 to node 2; and of another growth
abbrev pub early_receipt : List ℕ
early_receipt =
    0x02 ∷ 0x00 ∷ 0x00 ∷ 0x40
    ∷ 0x00 ∷ 0x20 ∷ 0x00 ∷ 0x50
    ∷ 0x05 ∷ 0x00 ∷ 0x00 ∷ 0x90
    ∷ 0x01 ∷ 0x00 ∷ 0x00 ∷ 0x80 ∷ []

abbrev pub early_other_growth : List ℕ
early_other_growth = set early_receipt 8 0x06
