-- Document 01, "Runs of calls": what is claimed after every history. Assumes nothing.
use Rattle.std.specs.Prelude.{◌≡◌, true, false, not, List, ◌∷◌, ◌++◌, map, ℕ, ◌≤◌, ◌<◌}
use Rattle.base.specs.Folds.{total}
use Rattle.answer.specs.Answers.{Answer, refused, spent, finished}
use Rattle.protocol.specs.Parts.{Cells, Growth}
use Rattle.protocol.specs.Transfers.{occurrences}
use Rattle.protocol.specs.World.{counts_as_open, is_closed, ended_refusal, Journal, World}
use Rattle.protocol.specs.Calls.{Call, drive, is_own, WasSent}
use Rattle.protocol.specs.Histories.{Machine, after_all, all_accepted, close_done, GoesThrough}
use Rattle.protocol.specs.Image.{moved_row0, new_target}
use Rattle.protocol.specs.Invariant.{Invariant}
use Rattle.protocol.specs.Reading.{OldBlock, Exists, end_of, reads, held}
use Rattle.protocol.specs.Completions.{Order, Completes, completion, closing}

module _ (G : Growth) where
  open G use {Block, zero_block, stripes, transfers, new_blocks, start}

  -- ---- once a close was done
  pub record ClosedCells (c : Cells Block) : Type 0 where
    pub columns : (w d : ℕ) → c.column w d ≡ start.column w d
    pub rows0 : (w : ℕ) → w < stripes → c.row0 w ≡ moved_row0 G w
    pub targets : (w e : ℕ) → w < stripes → e < transfers → c.target w e ≡ new_target G w e
    pub sources : (w t : ℕ) → c.source w t ≡ zero_block
    pub dissolved_rows : (g j : ℕ) → c.dissolved_row g j ≡ zero_block
    -- each new block is where it ends
    pub new_blocks_end : (w t : ℕ) → w < stripes → t < new_blocks → end_of G c w t ≡ start.source w t

  pub record Closed (s : World G) : Type 0 where
    pub cells_are : ClosedCells s.cells
    -- each transfer was accepted by exactly one done deliver
    pub once_each : (w e : ℕ) → w < stripes → e < transfers → occurrences w e s.trace.deliveries ≡ 1

  -- ---- of a drive that nothing refuses
  -- the transfers that are not accepted
  abbrev pub unaccepted : Journal → ℕ
  unaccepted j = total stripes transfers (λ w e. not (j.accepted w e))

  pub data DriveAnswers (limit : ℕ) (before after : Journal) : Answer → Type 0 where
    -- it accepted all that was left, and every stripe is released
    all_released : unaccepted before ≤ limit → ((w : ℕ) → w < stripes → after.released w ≡ true)
        → DriveAnswers limit before after (finished (unaccepted before))
    -- it accepted as many as its limit, and a transfer is left
    one_left : (w e : ℕ) → w < stripes → e < transfers → after.accepted w e ≡ false → DriveAnswers limit before after (spent limit)

  -- ---- of a machine, of which `view` shows the growth without bytes; `make` gives its call for one of the growth's own
  module _ (M : Machine) (view : M.Contents → World G) (make : Call Block → M.Call) where
    abbrev pub reached : List M.Call → M.Contents
    reached history = after_all M M.begun history

    pub record HistoryClaims (history : List M.Call) : Type 0 where
      pub invariant : Invariant G (view (reached history))
      -- the delivers done outside drives plus the numbers that the drives carried
      pub counted : (view (reached history)).journal.count ≡ all_accepted M M.begun history
      -- an old block has the bytes it had when begin accepted
      pub reading : (b : OldBlock) → Exists G b → reads G (view (reached history)) b ≡ held G b
      -- a refused call changes nothing
      pub unchanged : (k : M.Call) → M.WasSent (reached history) k → (x : ℕ) → M.answer (reached history) k ≡ refused x
          → view (M.after (reached history) k) ≡ view (reached history)
      -- the growth is open as long as no close was done, and closed once one was
      pub opened : counts_as_open (view (reached history)).journal.state ≡ not (close_done M M.begun history)
      pub state : is_closed (view (reached history)).journal.state ≡ close_done M M.begun history
      pub closed : close_done M M.begun history ≡ true → Closed (view (reached history))
      -- and then refuses every call
      pub after_close : close_done M M.begun history ≡ true → (x : Call Block) → is_own x ≡ true → WasSent G (view (reached history)) x
          → M.answer (reached history) (make x) ≡ refused (ended_refusal (view (reached history)).journal.state)
      -- not stranded: none of a completion's calls is refused, and close then succeeds
      pub completable : close_done M M.begun history ≡ false → (o : Order G) → Completes G (view (reached history)).journal o
          → GoesThrough M (reached history) (map make (completion G o ++ closing G))
      -- and there is a completion
      pub some_completion : (o : Order G) × Completes G (view (reached history)).journal o
      pub drives : close_done M M.begun history ≡ false → (limit : ℕ)
          → DriveAnswers limit (view (reached history)).journal (view (M.after (reached history) (make (drive limit)))).journal
          (M.answer (reached history) (make (drive limit)))
      -- a drive with a limit of at least the unaccepted transfers finishes, and close then succeeds
      pub drive_finishes : close_done M M.begun history ≡ false → (limit : ℕ) → unaccepted (view (reached history)).journal ≤ limit
          → (M.answer (reached history) (make (drive limit)) ≡ finished (unaccepted (view (reached history)).journal))
          × GoesThrough M (reached history) (map make (drive limit ∷ closing G))
