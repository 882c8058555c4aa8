-- FORMAT §13; document 01, "Who can cause a no": the refusals that several calls share, and what calls leave. Assumes nothing.
use Rattle.std.specs.Prelude.{Bool, not, ◌&&◌, List, [], ◌∷◌, ℕ, eqb, ltb}
use Rattle.base.specs.Refusals.{Refusal, refuse}
use Rattle.answer.specs.Answers.{Answer}
use Rattle.layout.specs.declared.Shape.{Shape}
use Rattle.layout.specs.Counts.{kept}
use Rattle.layout.specs.Addresses.{area_length}
use Rattle.records.specs.Conditions.{progress_ok}
use Rattle.journal.specs.declared.headers.JournalHeader.{JournalHeader}
use Rattle.journal.specs.States.{counts_as_open, ended_refusal}
use Rattle.journal.specs.Journal.{header_of, state_of, header_ok, journal_length}
use Rattle.journal.specs.Whole.{whole_ok}

-- 3: a lent length
abbrev pub wrong_length : ℕ → ℕ → Refusal
wrong_length lent exact = refuse (not (eqb lent exact)) 3

-- 4: the header has a wrong kind, unlisted state, unnamed bit, other shape or B
abbrev pub damaged_header : Shape → JournalHeader → Refusal
damaged_header z h = refuse (not (header_ok z h)) 4

-- 4: the touched word has a wrong kind or an unnamed bit, where there is such a word
abbrev pub damaged_word : (isThere isOk : Bool) → Refusal
damaged_word isThere isOk = refuse (isThere && not isOk) 4

-- 13: already closed
abbrev pub not_open : JournalHeader → Refusal
not_open h = refuse (not (counts_as_open (state_of h))) (ended_refusal (state_of h))

-- 5: a number, node, stripe, column or transfer out of range
abbrev pub out_of_range : ℕ → ℕ → Refusal
out_of_range x bound = refuse (not (ltb x bound)) 5

-- ---- parts of the calls' lists

-- a call on area and journal: 3
abbrev pub store_refusals : Shape → (area_bytes journalWords : ℕ) → List Refusal
store_refusals z area_bytes journalWords = wrong_length area_bytes (area_length z) ∷ wrong_length journalWords (journal_length z) ∷ []

-- a call on kept stripe w that touches its word of kind 11: 4, 13, 5
abbrev pub kept_refusals : Shape → JournalHeader → (word w : ℕ) → List Refusal
kept_refusals z h word w =
    damaged_header z h ∷ damaged_word (ltb w (kept z)) (progress_ok z word) ∷ not_open h ∷ out_of_range w (kept z) ∷ []

-- a call that tests the whole book: 4 by what the test found, 13 by the state
abbrev pub tested_refusals : Bool → JournalHeader → List Refusal
tested_refusals ok h = refuse (not ok) 4 ∷ not_open h ∷ []

abbrev pub whole_refusals : Shape → List ℕ → List Refusal
whole_refusals z journal = tested_refusals (whole_ok z journal) (header_of journal)

-- what a call on area and journal leaves
pub record Outcome : Type 0 where
  pub answer : Answer
  pub area : List ℕ
  pub journal : List ℕ
