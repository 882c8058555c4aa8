-- What a growth is made of, without bytes: its cells by what they are for, its transfers, and what the layout and the code say of
-- them. Assumes nothing.
use Rattle.std.specs.Prelude.{◌≡◌, Bool, true, false, ℕ, ◌<◌}
use Rattle.protocol.specs.Transfers.{Transfer}

-- the area, by what each cell is for
pub record Cells (Block : Type 0) : Type 0 where
  -- column d of kept stripe w
  pub column : (w d : ℕ) → Block
  -- parity row 0 of kept stripe w, on the node that has the stripe's new blocks
  pub row0 : (w : ℕ) → Block
  -- the cell that transfer e of w is for
  pub target : (w e : ℕ) → Block
  -- the first place of new block t of w, in a dissolved stripe
  pub source : (w t : ℕ) → Block
  -- parity row j of dissolved stripe g
  pub dissolved_row : (g j : ℕ) → Block

-- a message names its transfer and carries a block; a receipt is the name alone
pub record Message (Block : Type 0) : Type 0 where
  pub transfer : Transfer
  pub payload : Block

pub record Growth : Type 1 where
  -- a block; one of zeros; the sum of two
  pub Block : Type 0
  pub zero_block : Block
  pub plus : Block → Block → Block
  -- how many there are: kept stripes; transfers and new blocks of each; nodes, old and new
  pub stripes : ℕ
  pub transfers : ℕ
  pub new_blocks : ℕ
  pub nodes : ℕ
  -- the node that sends the transfers of w, and the one that transfer e of w is for
  pub sender : (w : ℕ) → ℕ
  pub receiver : (w e : ℕ) → ℕ
  -- transfer e is a delta, which is added to its cell; any other block is stored there
  pub is_delta : (e : ℕ) → Bool
  -- of stripe w, from its new blocks: the delta of row 0
  pub delta0 : (w : ℕ) → (ℕ → Block) → Block
  -- from its new blocks and row 0: the payload of transfer e, and what row 0's cell holds after the swap's local move
  pub payload_from : (w e : ℕ) → (ℕ → Block) → Block → Block
  pub local_move : (w : ℕ) → (ℕ → Block) → Block → Block
  -- new block t of w ends in row 0's cell; where it does not, transfer `carrier t` takes it to its end
  pub ends_in_row0 : (w t : ℕ) → Bool
  pub carrier : (t : ℕ) → ℕ
  -- one less than the number that refuses the calls of a closed growth
  pub closed_less_one : ℕ
  -- the cells that an accepting begin left
  pub start : Cells Block

-- transfer `carrier t` takes new block t of w to its end
pub record Brought (G : Growth) (w t : ℕ) : Type 0 where
  pub carrier_lt : G.carrier t < G.transfers
  pub stored : G.is_delta (G.carrier t) ≡ false
  pub block : (news : ℕ → G.Block) (row0 : G.Block) → G.payload_from w (G.carrier t) news row0 ≡ news t

-- what the layout promises of these
pub record Promises (G : Growth) : Type 0 where
  pub sender_lt : (w : ℕ) → w < G.stripes → G.sender w < G.nodes
  pub receiver_lt : (w e : ℕ) → w < G.stripes → e < G.transfers → G.receiver w e < G.nodes
  pub moved : (w t : ℕ) → w < G.stripes → t < G.new_blocks → G.ends_in_row0 w t ≡ true
      → (news : ℕ → G.Block) (row0 : G.Block) → G.local_move w news row0 ≡ news t
  pub brought : (w t : ℕ) → w < G.stripes → t < G.new_blocks → G.ends_in_row0 w t ≡ false → Brought G w t
