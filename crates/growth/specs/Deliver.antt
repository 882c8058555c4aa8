-- FORMAT §13; document 01, "Calls": deliver at a node adds the change to, or stores the block in, slot w, sets the item's bit, adds 1 to
-- the count, writes the receipt. A repeat only writes the receipt. Assumes nothing.
use Rattle.std.specs.Prelude.{Bool, not, ◌&&◌, List, [], ◌∷◌, ◌++◌, ℕ, ◌+◌, ltb, length}
use Rattle.base.specs.Tests.{if, only_if}
use Rattle.base.specs.Refusals.{Refusal, refuse, first, or_else}
use Rattle.answer.specs.Answers.{Answer, answer_for, on_done, unless_refused}
use Rattle.area.specs.Area.{block, xor_blocks}
use Rattle.layout.specs.declared.Shape.{Shape}
use Rattle.layout.specs.Ranges.{shape_refusal}
use Rattle.layout.specs.Counts.{all_transfers}
use Rattle.layout.specs.Transfers.{is_delta}
use Rattle.wire.specs.declared.Header.{Header}
use Rattle.wire.specs.Words.{count_word, bit}
use Rattle.wire.specs.Headers.{header_bytes, header_at, stripe_of, transfer_of, receipt_of}
use Rattle.wire.specs.Forms.{is_message, for_another_node, of_another_growth}
use Rattle.records.specs.Records as Records
use Rattle.records.specs.Conditions.{accepted_ok}
use Rattle.journal.specs.declared.headers.JournalHeader.{JournalHeader}
use Rattle.journal.specs.Journal.{header_of, put_header, number_of, count_of, record_at, put_record}
use Rattle.growth.specs.Cells.{cell, put_cell}
use Rattle.growth.specs.Shared.{wrong_length, damaged_header, damaged_word, not_open, out_of_range, store_refusals}
use Rattle.growth.specs.Send.{message_length}

abbrev pub receipt_length : ℕ
receipt_length = 16

-- ---- the answer, from the lengths, the header, the touched word, kind 10 of w, the node and the message's four words

-- the word is as it should be, and the count is below its total if the item's mark is missing
unfoldable pub room_for : Shape → JournalHeader → (word : ℕ) → ℕ → Bool
room_for z h word e = accepted_ok z word && only_if (not (bit word e)) (ltb (count_of h) (all_transfers z))

-- a message of the right length: 9 malformed, 9 for another node, 10 another growth number
abbrev pub arrival_refusals : Shape → JournalHeader → (word node : ℕ) → Header → List Refusal
arrival_refusals z h word node m =
    damaged_header z h
    ∷ damaged_word (is_message z m) (room_for z h word (transfer_of m))
    ∷ not_open h
    ∷ out_of_range node (z.n + z.s)
    ∷ refuse (not (is_message z m)) 9
    ∷ refuse (for_another_node z node m) 9
    ∷ refuse (of_another_growth (number_of h) m) 10
    ∷ []

-- any message, and the space for its receipt
abbrev pub message_refusals : Shape → (messageBytes spaceBytes : ℕ) → JournalHeader → (word node : ℕ) → Header → List Refusal
message_refusals z messageBytes spaceBytes h word node m =
    wrong_length messageBytes (message_length z) ∷ wrong_length spaceBytes receipt_length ∷ arrival_refusals z h word node m

abbrev pub deliver_refusals : Shape → (area_bytes journalWords messageBytes spaceBytes : ℕ) → JournalHeader → (word : ℕ) → ℕ → Header
    → List Refusal
deliver_refusals z area_bytes journalWords messageBytes spaceBytes h word node m =
    store_refusals z area_bytes journalWords ++ message_refusals z messageBytes spaceBytes h word node m

unfoldable pub deliver_refusal : Shape → (area_bytes journalWords messageBytes spaceBytes : ℕ) → JournalHeader → (word : ℕ) → ℕ → Header → ℕ
deliver_refusal z area_bytes journalWords messageBytes spaceBytes h word node m =
    or_else (shape_refusal z) (first (deliver_refusals z area_bytes journalWords messageBytes spaceBytes h word node m))

-- ---- the area, the journal and the receipt

-- a cell after transfer e came in: a delta is added, any other block is stored
unfoldable pub received : Shape → ℕ → List ℕ → List ℕ → List ℕ
received z e old new = if (is_delta z e) (xor_blocks z.b old new) new

-- in slot w of the node, the B bytes after the four words
unfoldable pub delivered_area : Shape → List ℕ → ℕ → ℕ → ℕ → List ℕ → List ℕ
delivered_area z area node w e message = put_cell z area node w (received z e (cell z area node w) (block message 16 z.b))

unfoldable pub counted_up : JournalHeader → JournalHeader
counted_up h = record { state = h.state; size = h.size; growth = h.growth; count = count_word (count_of h + 1) }

unfoldable pub delivered_journal : List ℕ → ℕ → ℕ → List ℕ
delivered_journal journal w e = put_header (put_record journal w (Records.accept (record_at journal w) e)) (counted_up (header_of journal))

pub record DeliverOutcome : Type 0 where
  pub answer : Answer
  pub area : List ℕ
  pub journal : List ℕ
  pub receipt : List ℕ

unfoldable pub deliver : Shape → List ℕ → List ℕ → ℕ → List ℕ → List ℕ → DeliverOutcome
deliver z area journal node message space =
    let m = header_at message 0 in
    let w = stripe_of m in
    let e = transfer_of m in
    let word = (record_at journal w).accepted in
    let a =
    answer_for (deliver_refusal z (length area) (length journal) (length message) (length space) (header_of journal) word node m)
    (bit word e) in
    record {
      answer = a;
      area = on_done a (delivered_area z area node w e message) area;
      journal = on_done a (delivered_journal journal w e) journal;
      receipt = unless_refused a (header_bytes (receipt_of m)) space;
    }
