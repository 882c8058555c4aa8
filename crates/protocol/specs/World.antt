-- What the growth's own calls work on: the cells, the journal (the paper's book), and what has been written to the link so far.
-- Assumes nothing.
use Rattle.std.specs.Prelude.{Bool, true, false, List, [], ◌∷◌, ℕ, suc, ◌+◌}
use Rattle.base.specs.Updates.{update, update2}
use Rattle.protocol.specs.Parts.{Cells, Message, Growth}
use Rattle.protocol.specs.Transfers.{Transfer}

-- a state by its class: the growth's own calls act in an open one; any other refuses them with its number, and may be the closed one
pub data State : Type 0 where
  opened : State
  -- one less than its number, which is so never 0
  ended : (closed : Bool) (less_one : ℕ) → State

abbrev pub counts_as_open : State → Bool
counts_as_open opened = true
counts_as_open (ended closed less_one) = false

abbrev pub is_closed : State → Bool
is_closed opened = false
is_closed (ended closed less_one) = closed

-- what refuses a call in a state that does not count as open; an open one refuses none
abbrev pub ended_refusal : State → ℕ
ended_refusal opened = 1
ended_refusal (ended closed less_one) = suc less_one

pub record Journal : Type 0 where
  pub computed : (w : ℕ) → Bool
  pub released : (w : ℕ) → Bool
  pub accepted : (w e : ℕ) → Bool
  pub receipted : (w e : ℕ) → Bool
  pub state : State
  pub count : ℕ

-- what the calls wrote, newest first: messages, receipts; and the transfers that done delivers accepted
pub record Trace (Block : Type 0) : Type 0 where
  pub messages : List (Message Block)
  pub receipts : List Transfer
  pub deliveries : List Transfer

-- ---- a journal with one thing changed
abbrev pub set_computed : Journal → ℕ → Journal
set_computed j w = record {
  computed = update j.computed w true;
  released = j.released;
  accepted = j.accepted;
  receipted = j.receipted;
  state = j.state;
  count = j.count;
}

abbrev pub set_released : Journal → ℕ → Journal
set_released j w = record {
  computed = j.computed;
  released = update j.released w true;
  accepted = j.accepted;
  receipted = j.receipted;
  state = j.state;
  count = j.count;
}

-- document 01: a deliver sets the item's bit and adds 1 to the count
abbrev pub set_accepted : Journal → ℕ → ℕ → Journal
set_accepted j w e = record {
  computed = j.computed;
  released = j.released;
  accepted = update2 j.accepted w e true;
  receipted = j.receipted;
  state = j.state;
  count = j.count + 1;
}

abbrev pub set_receipted : Journal → ℕ → ℕ → Journal
set_receipted j w e = record {
  computed = j.computed;
  released = j.released;
  accepted = j.accepted;
  receipted = update2 j.receipted w e true;
  state = j.state;
  count = j.count;
}

abbrev pub set_state : Journal → State → Journal
set_state j state = record {
  computed = j.computed;
  released = j.released;
  accepted = j.accepted;
  receipted = j.receipted;
  state = state;
  count = j.count;
}

-- ---- cells with something changed
module _ {Block : Type 0} where
  abbrev pub set_row0 : Cells Block → ℕ → Block → Cells Block
  set_row0 c w block = record
      { column = c.column; row0 = update c.row0 w block; target = c.target; source = c.source; dissolved_row = c.dissolved_row }

  abbrev pub set_target : Cells Block → ℕ → ℕ → Block → Cells Block
  set_target c w e block = record
      { column = c.column; row0 = c.row0; target = update2 c.target w e block; source = c.source; dissolved_row = c.dissolved_row }

  -- all sources of stripe w
  abbrev pub set_sources : Cells Block → ℕ → Block → Cells Block
  set_sources c w block = record
      { column = c.column; row0 = c.row0; target = c.target; source = update c.source w (λ t. block); dissolved_row = c.dissolved_row }

  -- all cells of dissolved stripes
  abbrev pub set_dissolved : Cells Block → Block → Cells Block
  set_dissolved c block = record
      { column = c.column; row0 = c.row0; target = c.target; source = λ w t. block; dissolved_row = λ g j. block }

  -- ---- a trace with something more
  abbrev pub add_message : Trace Block → Message Block → Trace Block
  add_message t m = record { messages = m ∷ t.messages; receipts = t.receipts; deliveries = t.deliveries }

  abbrev pub add_receipt : Trace Block → Transfer → Trace Block
  add_receipt t i = record { messages = t.messages; receipts = i ∷ t.receipts; deliveries = t.deliveries }

  abbrev pub add_delivery : Trace Block → Transfer → Trace Block
  add_delivery t i = record { messages = t.messages; receipts = t.receipts; deliveries = i ∷ t.deliveries }

module _ (G : Growth) where
  pub record World : Type 0 where
    pub cells : Cells G.Block
    pub journal : Journal
    pub trace : Trace G.Block

  -- what an accepting begin left: a fresh journal, and nothing written to the link
  unfoldable pub begun_world : World
  begun_world = record {
    cells = G.start;
    journal = record
        { computed = λ w. false; released = λ w. false; accepted = λ w e. false; receipted = λ w e. false; state = opened; count = 0 };
    trace = record { messages = []; receipts = []; deliveries = [] };
  }
