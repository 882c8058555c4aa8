-- Document 01, "Checked examples", drive: with limit 0 and with enough on a fresh book, and on an all-receipted one. Assumes nothing.
use Rattle.std.specs.Prelude.{◌≡◌, true, List, [], ◌∷◌, ◌++◌, ℕ, replicate, set}
use Rattle.answer.specs.Answers.{done, spent, finished}
use Rattle.layout.specs.Nodes.{row_node}
use Rattle.wire.specs.Words.{bit}
use Rattle.journal.specs.Journal.{record_at}
use Rattle.growth.specs.Cells.{put_cell}
use Rattle.growth.specs.Close.{close}
use Rattle.growth.specs.Drive.{drive}
use Rattle.scenarios.specs.Small.{small, begun_bytes, fresh_words, moved_bytes, receipted_words, accepted_words, last_message}
use Rattle.scenarios.specs.Small.{last_receipt, released_bytes, released_words, closed_bytes, closed_words}

-- a message space of B + 32 bytes
abbrev pub space : List ℕ
space = replicate 33 0xEE

-- the begun area with row 0 of stripe 0 computed, 65 + 42, and the fresh book with its bit 26 set
abbrev pub computed_bytes : List ℕ
computed_bytes = set begun_bytes 0 0x27

abbrev pub computed_words : List ℕ
computed_words = set fresh_words 5 0xB4000000

-- the areas and books that `SmallGrowth` and `SmallStages` reach call by call
pub record SmallDrives : Type 0 where
  -- b = 0 on a fresh book: spent, 0 accepted, stripe 0 computed; the space is untouched, since none was sent
  pub none : drive small begun_bytes fresh_words space 0
      ≡ record { answer = spent 0; area = computed_bytes; journal = computed_words; space = space }
  pub computed_row : put_cell small begun_bytes (row_node small 0 0) 0 (0x27 ∷ []) ≡ computed_bytes
  pub computed_bit : bit (record_at computed_words 0).progress 26 ≡ true
  -- enough: finished, 6 accepted; the last message sent and, in the last 16 bytes, its receipt
  pub enough : drive small begun_bytes fresh_words space 6
      ≡ record { answer = finished 6; area = released_bytes; journal = released_words; space = last_message ++ last_receipt }
  -- one less: a further unaccepted item stops it
  pub one_less : (drive small begun_bytes fresh_words space 5).answer ≡ spent 5
  -- an all-receipted book: finished
  pub receipted : drive small moved_bytes receipted_words space 0
      ≡ record { answer = finished 0; area = released_bytes; journal = released_words; space = space }
  -- all accepted, none receipted: each is passed on again, and none is newly accepted
  pub accepted : drive small moved_bytes accepted_words space 0
      ≡ record { answer = finished 0; area = released_bytes; journal = released_words; space = last_message ++ last_receipt }
  -- it doesn't close; close after it is done, and leaves the area that the calls one by one end with
  pub closes : close small released_bytes released_words ≡ record { answer = done; area = closed_bytes; journal = closed_words }
