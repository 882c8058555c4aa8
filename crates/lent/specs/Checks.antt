-- Parts of the calls' lists of refusals (growth/specs), as the code tests them; and what a node tests that has its own cells alone.
-- Assumes nothing.
use Rattle.std.specs.Prelude.{Bool, not, List, [], ◌∷◌, ◌++◌, ℕ, ◌*◌, eqb}
use Rattle.base.specs.Refusals.{Refusal, refuse, first, or_else}
use Rattle.layout.specs.declared.Shape.{Shape}
use Rattle.layout.specs.Ranges.{shape_refusal}
use Rattle.layout.specs.Counts.{stripes}
use Rattle.layout.specs.Transfers.{sender}
use Rattle.journal.specs.declared.headers.JournalHeader.{JournalHeader}
use Rattle.growth.specs.Shared.{wrong_length, store_refusals, kept_refusals, tested_refusals, whole_refusals}

-- a call on area and journal: the shape, 3
unfoldable pub store_refusal : Shape → (area_bytes journalWords : ℕ) → ℕ
store_refusal z area_bytes journalWords = or_else (shape_refusal z) (first (store_refusals z area_bytes journalWords))

-- a sender that has its own cells alone: 3; it is an old node, so its part has G slots
abbrev pub sender_refusals : Shape → (ownBytes : ℕ) → List Refusal
sender_refusals z ownBytes = wrong_length ownBytes (stripes z * z.b) ∷ []

unfoldable pub sender_refusal : Shape → (ownBytes : ℕ) → ℕ
sender_refusal z ownBytes = or_else (shape_refusal z) (first (sender_refusals z ownBytes))

-- a node that is not the sender of stripe w: 5
abbrev pub not_its_own : Shape → (node w : ℕ) → Refusal
not_its_own z node w = refuse (not (eqb node (sender z w))) 5

-- a call on kept stripe w at a node: 4, 13, 5 the stripe, 5 the node
abbrev pub stripe_refusals : Shape → JournalHeader → (word node w : ℕ) → List Refusal
stripe_refusals z h word node w = kept_refusals z h word w ++ (not_its_own z node w ∷ [])

unfoldable pub stripe_refusal : Shape → JournalHeader → (word node w : ℕ) → ℕ
stripe_refusal z h word node w = first (stripe_refusals z h word node w)

-- a call that tests the whole journal: by what the test found, and with the test
unfoldable pub tested_refusal : Bool → JournalHeader → ℕ
tested_refusal ok h = first (tested_refusals ok h)

unfoldable pub whole_refusal : Shape → List ℕ → ℕ
whole_refusal z journal = first (whole_refusals z journal)
