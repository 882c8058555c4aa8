-- Document 01, "Calls" and "Who can cause a no": compute, send, deliver, receipt, release and close, without bytes. Assumes nothing.
use Rattle.std.specs.Prelude.{Bool, true, false, not, List, [], ◌∷◌, ℕ}
use Rattle.base.specs.Tests.{if, same, below, every}
use Rattle.base.specs.Refusals.{Refusal, refuse, first}
use Rattle.protocol.specs.Transfers.{Among, Transfer}
use Rattle.answer.specs.Answers.{Answer, answer_for, is_done}
use Rattle.answer.specs.Repeats.{is_already}
use Rattle.protocol.specs.Parts.{Cells, Message, Growth}
use Rattle.protocol.specs.World.{ended, counts_as_open, ended_refusal, Journal, World, set_computed, set_released, set_accepted}
use Rattle.protocol.specs.World.{set_receipted, set_state, set_row0, set_target, set_sources, set_dissolved, add_message, add_receipt}
use Rattle.protocol.specs.World.{add_delivery}

pub data Step (Block : Type 0) : Type 0 where
  compute : (w : ℕ) → Step Block
  send : (w e : ℕ) → Step Block
  deliver : (node : ℕ) → Message Block → Step Block
  receipt : (node : ℕ) → Transfer → Step Block
  release : (w : ℕ) → Step Block
  close : Step Block

-- already closed; 1 to 4, which come before it, are of shapes, lengths and words
abbrev pub not_open : Journal → Refusal
not_open j = refuse (not (counts_as_open j.state)) (ended_refusal j.state)

module _ (G : Growth) where
  open G use {
    Block,
    zero_block,
    plus,
    stripes,
    transfers,
    nodes,
    sender,
    receiver,
    is_delta,
    delta0,
    payload_from,
    local_move,
    closed_less_one,
  }

  -- ---- what a step answers; the lists to be believed are those of growth/specs, and `history` shows that these agree with them
  -- 5 out of range, 9 for another node or sender, 6 not computed, 7 released, 8 transfers unreceipted or stripes unreleased
  abbrev pub refusals : Journal → Step Block → List Refusal
  refusals j (compute w) = not_open j ∷ refuse (not (below w stripes)) 5 ∷ []
  refusals j (send w e) =
      not_open j ∷ refuse (not (below w stripes)) 5 ∷ refuse (not (below e transfers)) 5
      ∷ refuse (not (j.computed w)) 6 ∷ refuse (j.released w) 7 ∷ []
  refusals j (deliver node m) = let i = m.transfer in
      not_open j ∷ refuse (not (below node nodes)) 5 ∷ refuse (not (same node (receiver i.stripe i.item))) 9 ∷ []
  refusals j (receipt node i) =
      not_open j ∷ refuse (not (below node nodes)) 5 ∷ refuse (not (same node (sender i.stripe))) 9
      ∷ refuse (not (j.computed i.stripe)) 6 ∷ []
  refusals j (release w) =
      not_open j ∷ refuse (not (below w stripes)) 5 ∷ refuse (not (j.computed w)) 6
      ∷ refuse (not (every transfers (j.receipted w))) 8 ∷ []
  refusals j close = not_open j ∷ refuse (not (every stripes j.released)) 8 ∷ []

  -- the step's own bit is set; send and close have none
  abbrev pub marked : Journal → Step Block → Bool
  marked j (compute w) = j.computed w
  marked j (send w e) = false
  marked j (deliver node m) = j.accepted m.transfer.stripe m.transfer.item
  marked j (receipt node i) = j.receipted i.stripe i.item
  marked j (release w) = j.released w
  marked j close = false

  unfoldable pub step_answer : World G → Step Block → Answer
  step_answer s x = answer_for (first (refusals s.journal x)) (marked s.journal x)

  -- ---- what a step does
  -- the message that send writes
  abbrev pub message_from : Cells Block → ℕ → ℕ → Message Block
  message_from c w e = record
      { transfer = record { stripe = w; item = e }; payload = payload_from w e (c.source w) (c.row0 w) }

  -- a cell after a transfer came in: a delta is added, a block is stored
  abbrev pub received : ℕ → Block → Block → Block
  received e cell payload = if (is_delta e) (plus cell payload) payload

  -- a step that is done
  unfoldable pub when_done : World G → Step Block → World G
  when_done s (compute w) = let c = s.cells in record {
    cells = set_row0 c w (plus (c.row0 w) (delta0 w (c.source w)));
    journal = set_computed s.journal w;
    trace = s.trace;
  }
  when_done s (send w e) = record {
    cells = s.cells;
    journal = s.journal;
    trace = add_message s.trace (message_from s.cells w e);
  }
  when_done s (deliver node m) = let c = s.cells in let w = m.transfer.stripe in let e = m.transfer.item in record {
    cells = set_target c w e (received e (c.target w e) m.payload);
    journal = set_accepted s.journal w e;
    trace = add_delivery (add_receipt s.trace m.transfer) m.transfer;
  }
  when_done s (receipt node i) = record {
    cells = s.cells;
    journal = set_receipted s.journal i.stripe i.item;
    trace = s.trace;
  }
  when_done s (release w) = let c = s.cells in record {
    cells = set_sources (set_row0 c w (local_move w (c.source w) (c.row0 w))) w zero_block;
    journal = set_released s.journal w;
    trace = s.trace;
  }
  when_done s close = record {
    cells = set_dissolved s.cells zero_block;
    journal = set_state s.journal (ended true closed_less_one);
    trace = s.trace;
  }

  -- a step whose own bit is set: a repeated deliver only writes the receipt, any other nothing
  unfoldable pub when_already : World G → Step Block → World G
  when_already s (compute w) = s
  when_already s (send w e) = s
  when_already s (deliver node m) = record { cells = s.cells; journal = s.journal; trace = add_receipt s.trace m.transfer }
  when_already s (receipt node i) = s
  when_already s (release w) = s
  when_already s close = s

  -- a refused step changes nothing
  abbrev pub after_answer : World G → Step Block → Answer → World G
  after_answer s x answer = if (is_done answer) (when_done s x) (if (is_already answer) (when_already s x) s)

  unfoldable pub after_step : World G → Step Block → World G
  after_step s x = after_answer s x (step_answer s x)

  -- ---- the link
  -- what deliver or receipt gets is a copy of a message or receipt that was written: any one, any number of times, at any node
  abbrev pub StepSent : World G → Step Block → Type 0
  StepSent s (compute w) = Unit {0}
  StepSent s (send w e) = Unit {0}
  StepSent s (deliver node m) = Among m s.trace.messages
  StepSent s (receipt node i) = Among i s.trace.receipts
  StepSent s (release w) = Unit {0}
  StepSent s close = Unit {0}
