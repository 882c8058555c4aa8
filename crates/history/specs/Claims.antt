-- FORMAT §18. Demand 3, and document 01's "Runs of calls": what is claimed after every history. Assumes nothing.
use Rattle.std.specs.Prelude.{◌≡◌, Bool, true, false, List, ◌∷◌, ◌++◌, map, ℕ, ◌+◌, ◌^◌, ◌≤◌, ◌<◌, eqb, length, get_or}
use Rattle.base.specs.Folds.{total}
use Rattle.answer.specs.Answers.{done, finished, is_refused}
use Rattle.answer.specs.Located.{At}
use Rattle.area.specs.Area.{block}
use Rattle.layout.specs.declared.Shape.{Shape}
use Rattle.layout.specs.Ranges.{InRanges}
use Rattle.layout.specs.Counts.{kept, stripes, transfers}
use Rattle.layout.specs.Addresses.{area_length}
use Rattle.protocol.specs.Transfers.{occurrences}
use Rattle.protocol.specs.Histories.{Machine, after_all, EachWasSent, all_accepted, close_done, GoesThrough}
use Rattle.journal.specs.Journal.{header_of, number_of, count_of, journal_length}
use Rattle.journal.specs.Whole.{whole_ok}
use Rattle.growth.specs.Cells.{column}
use Rattle.growth.specs.Encode.{encode}
use Rattle.growth.specs.Begin.{begin}
use Rattle.growth.specs.Send.{message_length}
use Rattle.growth.specs.Deliver.{receipt_length}
use Rattle.growth.specs.Read.{locate, read}
use Rattle.history.specs.Contents.{Trace, Contents, accepted_of}
use Rattle.history.specs.Begun.{Begun, begun_contents, Begins}
use Rattle.history.specs.DriveSteps.{drive_steps}
use Rattle.history.specs.Calls.{Call, step, drive, shape_of, answer, after, store}
use Rattle.history.specs.Written.{Marks, OneEach}
use Rattle.history.specs.Grown.{Grown}
use Rattle.history.specs.Lost.{Losses, Gathered, Rebuilt}
use Rattle.history.specs.Completions.{Order, Completes, Spaces, completion, closing}
use Rattle.history.specs.Hypotheses.{AnyCall, AnyHistory, AnyOrder, AnySpaces}

-- ---- at every point

-- locate is done, and the block that it names holds what (g, d) held when begin accepted; read hands it back
pub record Readable (z : Shape) (old area journal : List ℕ) (g d : ℕ) : Type 0 where
  pub offset : ℕ
  pub located : locate z (length area) journal g d ≡ At offset
  pub bytes : block area offset z.b ≡ column z old g d
  pub read_back : read z area journal g d ≡ column z old g d

-- how many transfers no done deliver has accepted
abbrev pub unaccepted : Shape → Trace → ℕ
unaccepted z t = total (kept z) (transfers z) (λ w e. eqb (occurrences w e (accepted_of t)) 0)

-- ---- all of it, of a history of the growth of this number that starts from this area

module _ (z : Shape) (area : List ℕ) (number : ℕ) where
  -- the store as an accepting begin left it
  abbrev pub begun_store : Machine
  begun_store = store (begun_contents z area number)

  -- each of the calls gets what was sent
  abbrev pub IsHistory : List Call → Type 0
  IsHistory history = EachWasSent begun_store begun_store.begun history

  -- what the calls of a history have made of the store
  abbrev pub now : List Call → Contents
  now history = after_all begun_store begun_store.begun history

  abbrev pub close_succeeded : List Call → Bool
  close_succeeded history = close_done begun_store begun_store.begun history

  pub record Demand3 (history : List Call) : Type 0 where
    -- the count law: the delivers done outside drives plus the numbers that the drives carried
    pub counted : count_of (header_of (now history).journal) ≡ all_accepted begun_store begun_store.begun history
    -- and nothing else was accepted: the list of accepted transfers is as long as the count
    pub nothing_else : length (accepted_of (now history).trace) ≡ count_of (header_of (now history).journal)
    -- once close has succeeded
    pub grown : close_succeeded history ≡ true → Grown z area (now history).area (now history).trace
    -- not stranded: none of a completion's calls is refused, and close then succeeds
    pub completable : close_succeeded history ≡ false → (o : Order) → Completes z (now history).trace o → (spaces : Spaces z)
        → GoesThrough begun_store (now history) (completion z area number spaces o ++ closing z)
    -- and there is a completion
    pub some_completion : (o : Order) × Completes z (now history).trace o
    -- ---- with it
    pub readable : (g d : ℕ) → g < stripes z → d < z.k → Readable z area (now history).area (now history).journal g d
    pub rebuilt : close_succeeded history ≡ true → ((i : ℕ) → get_or area i 0 < 256) → (w : ℕ) → w < kept z
        → (losses stripe : List ℕ) → Losses z losses → Gathered z (now history).area w losses stripe
        → Rebuilt z (now history).area w losses stripe
    -- a drive with a limit of at least the unaccepted transfers finishes, and close then succeeds
    pub finishes : close_succeeded history ≡ false → (space : List ℕ) → length space ≡ message_length z + receipt_length
        → (limit : ℕ) → unaccepted z (now history).trace ≤ limit
        → (answer (now history) (drive z space limit) ≡ finished (unaccepted z (now history).trace))
        × GoesThrough begun_store (now history) (drive z space limit ∷ closing z)
    -- a call with another shape is refused, whatever the lengths, and after close every call
    pub others_refused : (k : Call) → (shape_of k ≡ z → ⊥) → is_refused (answer (now history) k) ≡ true
    pub after_close : close_succeeded history ≡ true → (k : Call) → is_refused (answer (now history) k) ≡ true
    -- a drive counts as the steps it takes: each of them gets what was sent, and together they leave, as single calls, what it leaves
    pub drive_is_its_steps : (space : List ℕ) (limit : ℕ) → is_refused (answer (now history) (drive z space limit)) ≡ false
        → let steps = map step (drive_steps z (now history) space limit) in
        EachWasSent begun_store (now history) steps
        × (after (now history) (drive z space limit) ≡ after_all begun_store (now history) steps)
    -- ---- what the rest leans on
    pub whole : whole_ok z (now history).journal ≡ true
    pub same_growth : number_of (header_of (now history).journal) ≡ number
    pub marks : (w : ℕ) → w < kept z → Marks z (now history).journal (now history).trace w
    pub one_each : OneEach z area number (now history)

  -- a history in which close succeeded
  pub record Ends (history : List Call) : Type 0 where
    pub is_history : IsHistory history
    pub close_succeeded_law : close_succeeded history ≡ true
    pub store_grown : Grown z area (now history).area (now history).trace

  -- a history, a completion and close, one after the other, are a history in which close succeeded, and the store is grown
  abbrev pub EndToEnd : Type 0
  EndToEnd = (history : List Call) → IsHistory history → close_succeeded history ≡ false
      → (o : Order) → Completes z (now history).trace o → (spaces : Spaces z)
      → Ends (history ++ (completion z area number spaces o ++ closing z))

-- begin right after encode accepts any data and any number below 2^28
abbrev pub NotEmpty : Shape → Type 0
NotEmpty z = (area journal : List ℕ) (number : ℕ) → length area ≡ area_length z → length journal ≡ journal_length z
    → number < 2 ^ 28 → (begin z (encode z area).area journal number).answer ≡ done

-- ---- demand 3

-- for every list of calls of a growth that has begun
pub record Demand3Holds : Type 0 where
  pub every_history : (z : Shape) (area : List ℕ) (number : ℕ) → Begun z area number
      → (history : List Call) → IsHistory z area number history → Demand3 z area number history
  -- which it has after an accepting begin, and after no other
  pub begins : (z : Shape) (area journal : List ℕ) (number : ℕ) → Begins z area journal number
  pub end_to_end : (z : Shape) (area : List ℕ) (number : ℕ) → Begun z area number → EndToEnd z area number
  -- nothing is asked of the calls but that they get what was sent, and nothing of a completion but what it names
  pub any_call : (c : Contents) → AnyCall c
  pub any_history : (z : Shape) (area : List ℕ) (number : ℕ) → AnyHistory (begun_contents z area number) (IsHistory z area number)
  pub any_order : (z : Shape) (t : Trace) → AnyOrder z t
  pub any_spaces : (z : Shape) → AnySpaces z
  -- and there are histories
  pub not_empty : (z : Shape) → InRanges z → NotEmpty z
