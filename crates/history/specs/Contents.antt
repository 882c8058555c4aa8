-- FORMAT §18; document 01, "Runs of calls": what the calls of a history work on, and what they have written and done so far. Assumes
-- nothing.
use Rattle.std.specs.Prelude.{List, [], ◌∷◌, ℕ}
use Rattle.protocol.specs.Transfers.{Transfer}

-- a call wrote this message or this receipt, byte by byte; or a call was done, a compute or release of this stripe, a deliver or receipt of
-- this transfer
pub data Event : Type 0 where
  wrote_message wrote_receipt : (bytes : List ℕ) → Event
  computed released : (w : ℕ) → Event
  accepted receipted : Transfer → Event

-- newest first; a drive's steps are calls too
abbrev pub Trace : Type 0
Trace = List Event

pub record Contents : Type 0 where
  pub area : List ℕ
  pub journal : List ℕ
  pub trace : Trace

-- ---- what the done calls of one kind were for

abbrev pub computed_of : Trace → List ℕ
computed_of [] = []
computed_of (wrote_message bytes ∷ t) = computed_of t
computed_of (wrote_receipt bytes ∷ t) = computed_of t
computed_of (computed w ∷ t) = w ∷ computed_of t
computed_of (released w ∷ t) = computed_of t
computed_of (accepted i ∷ t) = computed_of t
computed_of (receipted i ∷ t) = computed_of t

abbrev pub released_of : Trace → List ℕ
released_of [] = []
released_of (wrote_message bytes ∷ t) = released_of t
released_of (wrote_receipt bytes ∷ t) = released_of t
released_of (computed w ∷ t) = released_of t
released_of (released w ∷ t) = w ∷ released_of t
released_of (accepted i ∷ t) = released_of t
released_of (receipted i ∷ t) = released_of t

abbrev pub accepted_of : Trace → List Transfer
accepted_of [] = []
accepted_of (wrote_message bytes ∷ t) = accepted_of t
accepted_of (wrote_receipt bytes ∷ t) = accepted_of t
accepted_of (computed w ∷ t) = accepted_of t
accepted_of (released w ∷ t) = accepted_of t
accepted_of (accepted i ∷ t) = i ∷ accepted_of t
accepted_of (receipted i ∷ t) = accepted_of t

abbrev pub receipted_of : Trace → List Transfer
receipted_of [] = []
receipted_of (wrote_message bytes ∷ t) = receipted_of t
receipted_of (wrote_receipt bytes ∷ t) = receipted_of t
receipted_of (computed w ∷ t) = receipted_of t
receipted_of (released w ∷ t) = receipted_of t
receipted_of (accepted i ∷ t) = receipted_of t
receipted_of (receipted i ∷ t) = i ∷ receipted_of t
