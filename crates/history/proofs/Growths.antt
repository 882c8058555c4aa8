-- How the growth without bytes is seen in the store: its cells in the area, its marks in the journal, its messages in what was written.
-- Assumes nothing.
use mathlib.Core.Path.{◌≡◌}
use mathlib.Core.Bool.{true, ◌&&◌}
use mathlib.Core.List.{List, map}
use Prim.Native.Nat.{ℕ, ◌+◌, ◌-◌, ◌<◌}
use lib.Dec.{eqb, ltb}
use lib.ListN.{length}
use Rattle.base.specs.Tests.{if}
use Rattle.base.specs.Folds.{indicator}
use Rattle.area.specs.Area.{block, zeros, xor_blocks}
use Rattle.layout.specs.declared.Shape.{Shape}
use Rattle.layout.specs.Ranges.{rows}
use Rattle.layout.specs.Counts.{kept, transfers}
use Rattle.layout.specs.Addresses.{area_length}
use Rattle.layout.specs.Closed.{swapped, swap_index}
use Rattle.layout.specs.Transfers.{is_delta, new_node_of, sender, receiver}
use Rattle.layout.specs.Roles.{Role, kept_data, kept_row, source, dissolved_row, new_cell, role_exists, role_node, role_slot}
use Rattle.wire.specs.Headers.{header_for, header_bytes, message}
use Rattle.records.specs.Records.{is_accepted, is_receipted, is_computed, is_released}
use Rattle.journal.specs.States.{closed_state, counts_as_open, is_closed, ended_refusal}
use Rattle.journal.specs.Journal.{header_of, state_of, number_of, count_of, journal_length, record_at}
use Rattle.journal.specs.Whole.{whole_ok}
use Rattle.protocol.specs.Transfers.{Among, times, occurrences}
use Rattle.protocol.specs.Parts.{Cells, Message, Growth}
use Rattle.protocol.specs.World as World
use Rattle.protocol.specs.World.{State, opened, ended}
use Rattle.growth.specs.Cells.{cell, delta_of}
use Rattle.growth.specs.Send.{payload_from}
use Rattle.history.specs.Contents.{Trace, Contents, computed_of, released_of, accepted_of, receipted_of}
use Rattle.history.specs.Steps.{transfer_in}
use Rattle.history.proofs.Traces.{messages_of, receipts_of}

module _ (z : Shape) where
  -- ---- cells

  -- the block that a role's cell holds; zeros where there is no such role
  unfoldable pub seen : List ℕ → Role → List ℕ
  seen area a = if (role_exists z a) (cell z area (role_node z a) (role_slot z a)) (zeros z.b)

  -- the cell that transfer e of w is for
  unfoldable pub target_role : ℕ → ℕ → Role
  target_role w e = if (is_delta z e) (kept_row w (e + 1)) (new_cell w (new_node_of z e))

  abbrev pub cells_of : List ℕ → Cells (List ℕ)
  cells_of area = record {
    column = λ w d. seen area (kept_data w d);
    row0 = λ w. seen area (kept_row w 0);
    target = λ w e. seen area (target_role w e);
    source = λ w t. seen area (source w t);
    dissolved_row = λ g j. seen area (dissolved_row g j);
  }

  -- the growth of a store that begin left with this area
  abbrev pub growth_of : List ℕ → Growth
  growth_of start = record {
    Block = List ℕ;
    zero_block = zeros z.b;
    plus = xor_blocks z.b;
    stripes = kept z;
    transfers = transfers z;
    new_blocks = z.s;
    nodes = z.n + z.s;
    sender = sender z;
    receiver = receiver z;
    is_delta = λ e. is_delta z e;
    delta0 = λ w news. delta_of z 0 news;
    payload_from = payload_from z;
    local_move = λ w news row0. if (swapped z w) (news (swap_index z w)) row0;
    ends_in_row0 = λ w t. swapped z w && eqb t (swap_index z w);
    carrier = λ t. rows z - 1 + t;
    closed_less_one = ended_refusal closed_state - 1;
    start = cells_of start;
  }

  -- ---- marks; those of no stripe and of no transfer are not set

  -- a state is seen as its class
  abbrev pub state_seen : ℕ → State
  state_seen state = if (counts_as_open state) opened (ended (is_closed state) (ended_refusal state - 1))

  abbrev pub journal_of : List ℕ → World.Journal
  journal_of journal = record {
    computed = λ w. ltb w (kept z) && is_computed (record_at journal w);
    released = λ w. ltb w (kept z) && is_released (record_at journal w);
    accepted = λ w e. ltb w (kept z) && (ltb e (transfers z) && is_accepted (record_at journal w) e);
    receipted = λ w e. ltb w (kept z) && (ltb e (transfers z) && is_receipted (record_at journal w) e);
    state = state_seen (state_of (header_of journal));
    count = count_of (header_of journal);
  }

  -- ---- what was written

  abbrev pub message_seen : List ℕ → Message (List ℕ)
  message_seen bytes = record { transfer = transfer_in bytes; payload = block bytes 16 z.b }

  abbrev pub trace_of : Trace → World.Trace (List ℕ)
  trace_of t = record {
    messages = map message_seen (messages_of t);
    receipts = map transfer_in (receipts_of t);
    deliveries = accepted_of t;
  }

  module _ (start : List ℕ) where
    abbrev pub view_of : Contents → World.World (growth_of start)
    view_of c = record { cells = cells_of c.area; journal = journal_of c.journal; trace = trace_of c.trace }

  -- ---- contents that are in order, of the growth of a number

  pub record MessageOf (number : ℕ) (bytes : List ℕ) : Type 0 where
    pub stripe : ℕ
    pub transfer : ℕ
    pub payload : List ℕ
    pub stripe_lt : stripe < kept z
    pub transfer_lt : transfer < transfers z
    pub payload_long : length payload ≡ z.b
    pub is : bytes ≡ message z stripe transfer number payload

  pub record ReceiptOf (number : ℕ) (bytes : List ℕ) : Type 0 where
    pub stripe : ℕ
    pub transfer : ℕ
    pub stripe_lt : stripe < kept z
    pub transfer_lt : transfer < transfers z
    pub is : bytes ≡ header_bytes (header_for z 4 stripe transfer number)

  -- each mark of stripe w was made by one done call; of accepted transfers the protocol tells it
  pub record MarkedOnce (journal : List ℕ) (t : Trace) (w : ℕ) : Type 0 where
    pub computed : times w (computed_of t) ≡ indicator (is_computed (record_at journal w))
    pub receipted : (e : ℕ) → e < transfers z → occurrences w e (receipted_of t) ≡ indicator (is_receipted (record_at journal w) e)
    pub released : times w (released_of t) ≡ indicator (is_released (record_at journal w))

  pub record Fit (number : ℕ) (c : Contents) : Type 0 where
    pub area_long : length c.area ≡ area_length z
    pub journal_long : length c.journal ≡ journal_length z
    pub whole : whole_ok z c.journal ≡ true
    pub number_is : number_of (header_of c.journal) ≡ number
    pub marked : (w : ℕ) → w < kept z → MarkedOnce c.journal c.trace w
    pub messages : (bytes : List ℕ) → Among bytes (messages_of c.trace) → MessageOf number bytes
    pub receipts : (bytes : List ℕ) → Among bytes (receipts_of c.trace) → ReceiptOf number bytes
