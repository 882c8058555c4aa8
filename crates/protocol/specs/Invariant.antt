-- Document 01, "Runs of calls": what holds at every point of a history. Assumes nothing.
use Rattle.std.specs.Prelude.{◌≡◌, Bool, true, ℕ, ◌<◌, length}
use Rattle.base.specs.Folds.{indicator, total}
use Rattle.protocol.specs.Transfers.{Among, Transfer, occurrences}
use Rattle.protocol.specs.Parts.{Message, Growth}
use Rattle.protocol.specs.World.{is_closed, World}
use Rattle.protocol.specs.Image.{payload_of, cells_for}

module _ (G : Growth) where
  open G use {Block, stripes, transfers}

  -- the order of the marks
  pub record Ordered (computed released : ℕ → Bool) (accepted receipted : ℕ → ℕ → Bool) : Type 0 where
    pub accepted_computed : (w e : ℕ) → accepted w e ≡ true → computed w ≡ true
    pub receipted_accepted : (w e : ℕ) → receipted w e ≡ true → accepted w e ≡ true
    pub released_receipted : (w : ℕ) → released w ≡ true → (e : ℕ) → e < transfers → receipted w e ≡ true
    pub released_computed : (w : ℕ) → released w ≡ true → computed w ≡ true

  -- a message that was written: its stripe is computed, and its payload is the one of its transfer
  pub record WrittenMessage (is_computed : ℕ → Bool) (m : Message Block) : Type 0 where
    pub stripe_lt : m.transfer.stripe < stripes
    pub item_lt : m.transfer.item < transfers
    pub computed : is_computed m.transfer.stripe ≡ true
    pub payload : m.payload ≡ payload_of G m.transfer.stripe m.transfer.item

  -- a receipt that was written: its transfer is accepted
  pub record WrittenReceipt (is_accepted : ℕ → ℕ → Bool) (i : Transfer) : Type 0 where
    pub stripe_lt : i.stripe < stripes
    pub item_lt : i.item < transfers
    pub accepted : is_accepted i.stripe i.item ≡ true

  pub record Invariant (s : World G) : Type 0 where
    -- the cells are a function of what begin left and of the marks alone
    pub cells_are : s.cells ≡ cells_for G s.journal
    pub ordered : Ordered s.journal.computed s.journal.released s.journal.accepted s.journal.receipted
    pub closed_released : is_closed s.journal.state ≡ true → (w : ℕ) → w < stripes → s.journal.released w ≡ true
    pub messages : (m : Message Block) → Among m s.trace.messages → WrittenMessage s.journal.computed m
    pub receipts : (i : Transfer) → Among i s.trace.receipts → WrittenReceipt s.journal.accepted i
    -- a transfer was accepted by one done deliver if it is marked, and else by none
    pub delivered : (w e : ℕ) → occurrences w e s.trace.deliveries ≡ indicator (s.journal.accepted w e)
    -- and nothing else was accepted: the list is as long as the count
    pub nothing_else : length s.trace.deliveries ≡ s.journal.count
    -- the count is the number of marks
    pub marks : s.journal.count ≡ total stripes transfers s.journal.accepted
