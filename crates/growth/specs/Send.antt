-- FORMAT §13; document 01, "Calls": send w, e writes the message. Assumes nothing.
use Rattle.std.specs.Prelude.{false, not, List, [], ◌∷◌, ◌++◌, ℕ, ◌+◌, eqb, length}
use Rattle.base.specs.Tests.{if}
use Rattle.base.specs.Refusals.{Refusal, refuse, first, or_else}
use Rattle.answer.specs.Answers.{Answer, answer_for, on_done}
use Rattle.layout.specs.declared.Shape.{Shape}
use Rattle.layout.specs.Ranges.{shape_refusal}
use Rattle.layout.specs.Counts.{transfers}
use Rattle.layout.specs.Transfers.{new_node_of, transfer_kind}
use Rattle.wire.specs.Headers.{message}
use Rattle.records.specs.Records.{computed_in, released_in}
use Rattle.journal.specs.declared.headers.JournalHeader.{JournalHeader}
use Rattle.journal.specs.Journal.{header_of, number_of, record_at}
use Rattle.growth.specs.Cells.{row, new_block, delta_of}
use Rattle.growth.specs.Shared.{wrong_length, out_of_range, store_refusals, kept_refusals}

-- a message is 16 bytes and a block
abbrev pub message_length : Shape → ℕ
message_length z = 16 + z.b

-- ---- the answer, from the lengths, the header and the touched word, kind 11 of w

-- 5 the transfer, 6 not computed, 7 released
abbrev pub transfer_refusals : Shape → (word e : ℕ) → List Refusal
transfer_refusals z word e = out_of_range e (transfers z) ∷ refuse (not (computed_in word)) 6 ∷ refuse (released_in word) 7 ∷ []

abbrev pub send_refusals : Shape → (area_bytes journalWords spaceBytes : ℕ) → JournalHeader → (word : ℕ) → ℕ → ℕ → List Refusal
send_refusals z area_bytes journalWords spaceBytes h word w e =
    store_refusals z area_bytes journalWords
    ++ (wrong_length spaceBytes (message_length z) ∷ (kept_refusals z h word w ++ transfer_refusals z word e))

unfoldable pub send_refusal : Shape → (area_bytes journalWords spaceBytes : ℕ) → JournalHeader → (word : ℕ) → ℕ → ℕ → ℕ
send_refusal z area_bytes journalWords spaceBytes h word w e =
    or_else (shape_refusal z) (first (send_refusals z area_bytes journalWords spaceBytes h word w e))

-- ---- the message

-- the block of transfer e of w, by its kind, from the new blocks of w and its row 0: 1 the delta of row e + 1, 3 row 0, 2 the new block
unfoldable pub payload_from : Shape → ℕ → ℕ → (ℕ → List ℕ) → List ℕ → List ℕ
payload_from z w e news row0 =
    if (eqb (transfer_kind z w e) 1) (delta_of z (e + 1) news)
    (if (eqb (transfer_kind z w e) 3) row0 (news (new_node_of z e)))

unfoldable pub payload : Shape → List ℕ → ℕ → ℕ → List ℕ
payload z area w e = payload_from z w e (new_block z area w) (row z area w 0)

pub record SendOutcome : Type 0 where
  pub answer : Answer
  -- the space that the message was written to, afterwards
  pub space : List ℕ

-- what a done send has sent, of the space that it wrote to: all of it
abbrev pub sent_in : List ℕ → List ℕ
sent_in space = space

unfoldable pub send : Shape → List ℕ → List ℕ → ℕ → ℕ → List ℕ → SendOutcome
send z area journal w e space =
    let h = header_of journal in
    let a = answer_for (send_refusal z (length area) (length journal) (length space) h (record_at journal w).progress w e) false in
    record { answer = a; space = on_done a (message z w e (number_of h) (payload z area w e)) space }
