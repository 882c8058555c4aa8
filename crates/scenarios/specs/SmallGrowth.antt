-- The small store's whole growth: encode, begin, every call of every stripe, close. Assumes nothing.
use Rattle.std.specs.Prelude.{◌≡◌, List, [], ◌∷◌, map, ℕ, replicate}
use Rattle.base.specs.Folds.{run}
use Rattle.answer.specs.Answers.{already, done}
use Rattle.answer.specs.Located.{At}
use Rattle.layout.specs.Ranges.{rows}
use Rattle.layout.specs.Counts.{kept, dissolved, stripes, transfers}
use Rattle.layout.specs.Addresses.{area_length}
use Rattle.journal.specs.Journal.{journal_length}
use Rattle.journal.specs.Status.{status}
use Rattle.journal.specs.StatusAnswer.{State}
use Rattle.growth.specs.Deliver.{deliver}
use Rattle.growth.specs.Read.{locate, read}
use Rattle.growth.specs.ClosedArea.{closed_area}
use Rattle.scenarios.specs.Walks.{Walk, computes, sends, delivers, moves, grows, begun, grown, closed}
use Rattle.scenarios.specs.Small.{small, lent_bytes, begun_bytes, fresh_words, part_bytes, part_words, part_message, part_receipt}
use Rattle.scenarios.specs.Small.{moved_bytes, receipted_words, accepted_words, last_message, last_receipt, released_bytes, released_words}
use Rattle.scenarios.specs.Small.{closed_bytes, closed_words}

-- P, the dissolved stripes, G, bytes of the area, words of the journal, r, transfers of a stripe
pub record SmallSizes : Type 0 where
  pub kept_stripes : kept small ≡ 6
  pub dissolved_stripes : dissolved small ≡ 6
  pub all_stripes : stripes small ≡ 12
  pub area_bytes : area_length small ≡ 30
  pub journal_words : journal_length small ≡ 16
  pub parity_rows : rows small ≡ 1
  pub stripe_transfers : transfers small ≡ 1

-- ---- from encode to close

pub record SmallGrowth : Type 0 where
  -- encode and begin
  pub begins : begun small lent_bytes
      ≡ record { area = begun_bytes; journal = fresh_words; message = replicate 17 0; receipt = replicate 16 0; answers = replicate 2 done }
  -- compute, send, deliver, receipt and release of each of the six stripes, by rising w
  pub grows : grown small lent_bytes
      ≡ record {
        area = released_bytes;
        journal = released_words;
        message = last_message;
        receipt = last_receipt;
        answers = replicate 32 done;
      }
  -- and close: every call answered done
  pub closes : closed small lent_bytes
      ≡ record { area = closed_bytes; journal = closed_words; message = last_message; receipt = last_receipt; answers = replicate 33 done }
  -- the area is the closed layout of the one that begin left
  pub layout : (closed small lent_bytes).area ≡ closed_area small (begun small lent_bytes).area
  -- status tells state 2 and count 6
  pub tells : status small (closed small lent_bytes).journal ≡ State 2 6

-- ---- on the way

-- stripe 0 is released; of stripe 1 the one transfer is accepted and not yet receipted
unfoldable pub partly : Walk
partly = delivers small 1 0 (sends small 1 0 (computes small 1 (grows small 0 (begun small lent_bytes))))

-- all calls of all stripes but release
unfoldable pub all_receipted : Walk
all_receipted = run (moves small) 0 6 (begun small lent_bytes)

-- but receipt and release
unfoldable pub all_accepted : Walk
all_accepted = run (λ w c. delivers small w 0 (sends small w 0 (computes small w c))) 0 6 (begun small lent_bytes)

pub record SmallStages : Type 0 where
  pub part : partly
      ≡ record { area = part_bytes; journal = part_words; message = part_message; receipt = part_receipt; answers = replicate 10 done }
  pub receipted : all_receipted
      ≡ record {
        area = moved_bytes;
        journal = receipted_words;
        message = last_message;
        receipt = last_receipt;
        answers = replicate 26 done;
      }
  pub accepted : all_accepted
      ≡ record { area = moved_bytes; journal = accepted_words; message = last_message; receipt = last_receipt; answers = replicate 20 done }
  -- the receipt was lost, and the message comes in again, at node 2: a repeat only writes the receipt
  pub repeat : deliver small part_bytes part_words 2 part_message (replicate 16 0)
      ≡ record { answer = already; area = part_bytes; journal = part_words; receipt = part_receipt }

-- ---- reading

-- what read hands back for column 0 of each of the twelve stripes
abbrev pub blocks_read : (area journal : List ℕ) → List (List ℕ)
blocks_read area journal = map (λ g. read small area journal g 0) (0 ∷ 1 ∷ 2 ∷ 3 ∷ 4 ∷ 5 ∷ 6 ∷ 7 ∷ 8 ∷ 9 ∷ 10 ∷ 11 ∷ [])

-- the data blocks of one byte, as they were before, by rising stripe
abbrev pub data_blocks : List (List ℕ)
data_blocks = map (λ x. x ∷ []) (0x65 ∷ 0x18 ∷ 0x73 ∷ 0x26 ∷ 0x81 ∷ 0x34 ∷ 0x8F ∷ 0x42 ∷ 0x9D ∷ 0x50 ∷ 0xAB ∷ 0x5E ∷ [])

pub record SmallReads : Type 0 where
  -- block (7, 0) becomes new block 0 of stripe 0: it is in its new place once that is released
  pub unreleased : locate small 30 fresh_words 7 0 ≡ At 7
  pub released : locate small 30 part_words 7 0 ≡ At 24
  -- block (11, 0) is that of the swapped stripe 4: it moves on its own node into slot 4
  pub moved : locate small 30 closed_words 11 0 ≡ At 4
  -- every block is read back, wherever it now is
  pub at_first : blocks_read begun_bytes fresh_words ≡ data_blocks
  pub meanwhile : blocks_read part_bytes part_words ≡ data_blocks
  pub at_last : blocks_read closed_bytes closed_words ≡ data_blocks
