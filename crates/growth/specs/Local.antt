-- FORMAT §13; document 01, "Calls": compute, send, deliver, receipt and release read only the header, their node's cells, its bits and the
-- message. No such call tells two stores apart that are the same there, and none changes anything elsewhere. Assumes nothing.
use Rattle.std.specs.Prelude.{◌≡◌, ◌≢◌, List, ℕ, ◌*◌, ◌<◌, length}
use Rattle.area.specs.Area.{block}
use Rattle.layout.specs.declared.Shape.{Shape}
use Rattle.layout.specs.Ranges.{InRanges}
use Rattle.layout.specs.Addresses.{node_slots, node_start}
use Rattle.layout.specs.Transfers.{sender}
use Rattle.wire.specs.Headers.{header_at, stripe_of}
use Rattle.journal.specs.Journal.{header_of, record_at}
use Rattle.growth.specs.Cells.{cell}
use Rattle.growth.specs.Compute.{compute}
use Rattle.growth.specs.Send.{send}
use Rattle.growth.specs.Deliver.{deliver}
use Rattle.growth.specs.Receipt.{receipt}
use Rattle.growth.specs.Release.{release}

-- ---- the same, as seen from one place

-- two areas are of the same length and have the same cells of node v
pub record SameCells (z : Shape) (v : ℕ) (a b : List ℕ) : Type 0 where
  pub long : length a ≡ length b
  pub cells : (g : ℕ) → g < node_slots z v → cell z a v g ≡ cell z b v g

-- which is to have the same part of the area there: a node's cells are one stretch of it
unfoldable pub node_part : Shape → List ℕ → ℕ → List ℕ
node_part z area v = block area (node_start z v * z.b) (node_slots z v * z.b)

pub record PartIsCells (z : Shape) (v : ℕ) (a b : List ℕ) : Type 0 where
  pub part : SameCells z v a b → node_part z a v ≡ node_part z b v
  pub cells : length a ≡ length b → node_part z a v ≡ node_part z b v → SameCells z v a b

-- two journals are of the same length and have the same header, and of stripe w the same word of kind 11, or of kind 10
pub record SameProgress (w : ℕ) (i j : List ℕ) : Type 0 where
  pub long : length i ≡ length j
  pub header : header_of i ≡ header_of j
  pub word : (record_at i w).progress ≡ (record_at j w).progress

pub record SameAccepted (w : ℕ) (i j : List ℕ) : Type 0 where
  pub long : length i ≡ length j
  pub header : header_of i ≡ header_of j
  pub word : (record_at i w).accepted ≡ (record_at j w).accepted

-- ---- no change elsewhere

-- the cells of every node but v are as they were
pub record OnlyCells (z : Shape) (v : ℕ) (before after : List ℕ) : Type 0 where
  pub long : length after ≡ length before
  pub others : (u g : ℕ) → u ≢ v → g < node_slots z u → cell z after u g ≡ cell z before u g

-- every word is as it was, but for kind 11 of w; but for kind 10 of w and, in the header, the count
pub record OnlyProgress (w : ℕ) (before after : List ℕ) : Type 0 where
  pub long : length after ≡ length before
  pub header : header_of after ≡ header_of before
  pub accepted : (record_at after w).accepted ≡ (record_at before w).accepted
  pub others : (x : ℕ) → x ≢ w → record_at after x ≡ record_at before x

pub record OnlyAccepted (w : ℕ) (before after : List ℕ) : Type 0 where
  pub long : length after ≡ length before
  pub state : (header_of after).state ≡ (header_of before).state
  pub size : (header_of after).size ≡ (header_of before).size
  pub growth : (header_of after).growth ≡ (header_of before).growth
  pub progress : (record_at after w).progress ≡ (record_at before w).progress
  pub others : (x : ℕ) → x ≢ w → record_at after x ≡ record_at before x

-- ---- the calls, in any shape and with any arguments

-- compute w and release w are at the node of w's row 0 and new blocks, which is also the sender of its transfers
pub record ComputeLocal (z : Shape) (w : ℕ) : Type 0 where
  pub answer : (a b i j : List ℕ) → SameCells z (sender z w) a b → SameProgress w i j → (compute z a i w).answer ≡ (compute z b j w).answer
  pub area : (a b i j : List ℕ) → SameCells z (sender z w) a b → SameProgress w i j
      → SameCells z (sender z w) (compute z a i w).area (compute z b j w).area
  pub journal : (a b i j : List ℕ) → SameCells z (sender z w) a b → SameProgress w i j
      → SameProgress w (compute z a i w).journal (compute z b j w).journal
  pub only_cells : (a i : List ℕ) → OnlyCells z (sender z w) a (compute z a i w).area
  pub only_word : (a i : List ℕ) → OnlyProgress w i (compute z a i w).journal

pub record SendLocal (z : Shape) (w e : ℕ) (lent : List ℕ) : Type 0 where
  pub answer : (a b i j : List ℕ) → SameCells z (sender z w) a b → SameProgress w i j
      → (send z a i w e lent).answer ≡ (send z b j w e lent).answer
  pub space : (a b i j : List ℕ) → SameCells z (sender z w) a b → SameProgress w i j
      → (send z a i w e lent).space ≡ (send z b j w e lent).space

-- the touched word is kind 10 of the stripe that the message names
pub record DeliverLocal (z : Shape) (node : ℕ) (message space : List ℕ) : Type 0 where
  pub answer : (a b i j : List ℕ) → SameCells z node a b → SameAccepted (stripe_of (header_at message 0)) i j
      → (deliver z a i node message space).answer ≡ (deliver z b j node message space).answer
  pub area : (a b i j : List ℕ) → SameCells z node a b → SameAccepted (stripe_of (header_at message 0)) i j
      → SameCells z node (deliver z a i node message space).area (deliver z b j node message space).area
  pub journal : (a b i j : List ℕ) → SameCells z node a b → SameAccepted (stripe_of (header_at message 0)) i j
      → SameAccepted (stripe_of (header_at message 0)) (deliver z a i node message space).journal (deliver z b j node message space).journal
  pub receipt : (a b i j : List ℕ) → SameCells z node a b → SameAccepted (stripe_of (header_at message 0)) i j
      → (deliver z a i node message space).receipt ≡ (deliver z b j node message space).receipt
  pub only_cells : (a i : List ℕ) → OnlyCells z node a (deliver z a i node message space).area
  pub only_word : (a i : List ℕ) → OnlyAccepted (stripe_of (header_at message 0)) i (deliver z a i node message space).journal

-- the touched word is kind 11 of the stripe that the receipt names
pub record ReceiptLocal (z : Shape) (node : ℕ) (bytes : List ℕ) : Type 0 where
  pub answer : (i j : List ℕ) → SameProgress (stripe_of (header_at bytes 0)) i j
      → (receipt z i node bytes).answer ≡ (receipt z j node bytes).answer
  pub journal : (i j : List ℕ) → SameProgress (stripe_of (header_at bytes 0)) i j
      → SameProgress (stripe_of (header_at bytes 0)) (receipt z i node bytes).journal (receipt z j node bytes).journal
  pub only_word : (i : List ℕ) → OnlyProgress (stripe_of (header_at bytes 0)) i (receipt z i node bytes).journal

pub record ReleaseLocal (z : Shape) (w : ℕ) : Type 0 where
  pub answer : (a b i j : List ℕ) → SameCells z (sender z w) a b → SameProgress w i j → (release z a i w).answer ≡ (release z b j w).answer
  pub area : (a b i j : List ℕ) → SameCells z (sender z w) a b → SameProgress w i j
      → SameCells z (sender z w) (release z a i w).area (release z b j w).area
  pub journal : (a b i j : List ℕ) → SameCells z (sender z w) a b → SameProgress w i j
      → SameProgress w (release z a i w).journal (release z b j w).journal
  pub only_cells : (a i : List ℕ) → OnlyCells z (sender z w) a (release z a i w).area
  pub only_word : (a i : List ℕ) → OnlyProgress w i (release z a i w).journal

pub record Locality (z : Shape) : Type 0 where
  pub parts : InRanges z → (v : ℕ) (a b : List ℕ) → PartIsCells z v a b
  pub computes : (w : ℕ) → ComputeLocal z w
  pub sends : (w e : ℕ) (space : List ℕ) → SendLocal z w e space
  pub delivers : (node : ℕ) (message space : List ℕ) → DeliverLocal z node message space
  pub receipts : (node : ℕ) (bytes : List ℕ) → ReceiptLocal z node bytes
  pub releases : (w : ℕ) → ReleaseLocal z w
