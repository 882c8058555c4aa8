-- What is claimed of the calls that needs no history. Assumes nothing.
use Rattle.std.specs.Prelude.{◌≡◌, true, false, List, [], ◌∷◌, ◌++◌, map, ◌⊎◌, ℕ, ◌+◌, ◌-◌, ◌^◌, ◌≤◌, ◌<◌, length}
use Rattle.answer.specs.Answers.{Answer, refused, already, done, spent, finished, is_refused, carried}
use Rattle.answer.specs.Located.{Refused}
use Rattle.area.specs.Area.{zeros}
use Rattle.layout.specs.declared.Shape.{Shape}
use Rattle.layout.specs.Ranges.{rows, InRanges}
use Rattle.layout.specs.Counts.{kept, stripes, transfers}
use Rattle.layout.specs.Addresses.{node_slots, area_length}
use Rattle.layout.specs.Nodes.{row_node}
use Rattle.layout.specs.Sources.{source_node, source_slot}
use Rattle.layout.specs.Closed.{swapped, swap_index, new_node}
use Rattle.layout.specs.Columns.{standing_node, standing_slot}
use Rattle.wire.specs.Headers.{header_for, header_bytes, message}
use Rattle.records.specs.Records.{is_accepted, is_receipted, is_released}
use Rattle.journal.specs.Journal.{header_of, number_of, header_ok, journal_length, record_at}
use Rattle.journal.specs.Whole.{marks, whole_ok}
use Rattle.journal.specs.Status as Status
use Rattle.journal.specs.StatusAnswer as Tell
use Rattle.protocol.specs.Drive.{goes_on, step_on, drive_transfers, drive_stripes}
use Rattle.growth.specs.Cells.{cell, row, parity_of, new_block}
use Rattle.growth.specs.Encode.{encoded_area, encode}
use Rattle.growth.specs.Begin.{stripe_holds, begun_area, begin}
use Rattle.growth.specs.Compute.{computed_area, compute}
use Rattle.growth.specs.Send.{payload, send}
use Rattle.growth.specs.Deliver.{received, deliver}
use Rattle.growth.specs.Receipt.{receipt}
use Rattle.growth.specs.Release.{released_area, release}
use Rattle.growth.specs.Close.{cleared_area, close}
use Rattle.growth.specs.Read.{read_refusal, released_by, offset_of, locate, read}
use Rattle.growth.specs.Drive.{Store, compute_on, store_drive, lent_store, drive_refusal, drive}
use Rattle.growth.specs.ClosedArea.{new_stripe_row, new_stripe_block, closed_area}
use Rattle.growth.specs.Local.{Locality}

-- ---- what a call leaves in its buffers, with any arguments

abbrev pub lengths : List (List ℕ) → List ℕ
lengths buffers = map (λ buffer. length buffer) buffers

-- lengths never change; a refused call changes nothing, nor does one that answers already
pub record Leaves (answer : Answer) (lent left : List (List ℕ)) : Type 0 where
  pub long : lengths left ≡ lengths lent
  pub refusal : (x : ℕ) → answer ≡ refused x → left ≡ lent
  pub repeat : answer ≡ already → left ≡ lent

-- a repeated deliver writes its receipt
pub record LeavesReceipt (answer : Answer) (lent left : List ℕ) : Type 0 where
  pub long : length left ≡ length lent
  pub refusal : (x : ℕ) → answer ≡ refused x → left ≡ lent

pub record Buffers (z : Shape) : Type 0 where
  pub encodes : (area : List ℕ) → let o = encode z area in Leaves o.answer (area ∷ []) (o.area ∷ [])
  pub begins : (area journal : List ℕ) (number : ℕ) → let o = begin z area journal number in
      Leaves o.answer (area ∷ journal ∷ []) (o.area ∷ o.journal ∷ [])
  pub computes : (area journal : List ℕ) (w : ℕ) → let o = compute z area journal w in
      Leaves o.answer (area ∷ journal ∷ []) (o.area ∷ o.journal ∷ [])
  pub sends : (area journal : List ℕ) (w e : ℕ) (space : List ℕ) → let o = send z area journal w e space in
      Leaves o.answer (space ∷ []) (o.space ∷ [])
  pub delivers : (area journal : List ℕ) (node : ℕ) (message space : List ℕ) → let o = deliver z area journal node message space in
      Leaves o.answer (area ∷ journal ∷ []) (o.area ∷ o.journal ∷ []) × LeavesReceipt o.answer space o.receipt
  pub receipts : (journal : List ℕ) (node : ℕ) (bytes : List ℕ) → let o = receipt z journal node bytes in
      Leaves o.answer (journal ∷ []) (o.journal ∷ [])
  pub releases : (area journal : List ℕ) (w : ℕ) → let o = release z area journal w in
      Leaves o.answer (area ∷ journal ∷ []) (o.area ∷ o.journal ∷ [])
  pub closes : (area journal : List ℕ) → let o = close z area journal in
      Leaves o.answer (area ∷ journal ∷ []) (o.area ∷ o.journal ∷ [])
  pub drives : (area journal space : List ℕ) (limit : ℕ) → let o = drive z area journal space limit in
      Leaves o.answer (area ∷ journal ∷ space ∷ []) (o.area ∷ o.journal ∷ o.space ∷ [])

-- ---- a call with a shape other than the header's is refused, whatever the lengths

pub record RefusesAll (z : Shape) (journal : List ℕ) : Type 0 where
  pub computes : (area : List ℕ) (w : ℕ) → is_refused (compute z area journal w).answer ≡ true
  pub sends : (area : List ℕ) (w e : ℕ) (space : List ℕ) → is_refused (send z area journal w e space).answer ≡ true
  pub delivers : (area : List ℕ) (node : ℕ) (message space : List ℕ) → is_refused (deliver z area journal node message space).answer ≡ true
  pub receipts : (node : ℕ) (bytes : List ℕ) → is_refused (receipt z journal node bytes).answer ≡ true
  pub releases : (area : List ℕ) (w : ℕ) → is_refused (release z area journal w).answer ≡ true
  pub closes : (area : List ℕ) → is_refused (close z area journal).answer ≡ true
  pub drives : (area space : List ℕ) (limit : ℕ) → is_refused (drive z area journal space limit).answer ≡ true
  pub locates : (area_bytes g d : ℕ) → (x : ℕ) × (locate z area_bytes journal g d ≡ Refused x)
  pub tells : (x : ℕ) × (Status.status z journal ≡ Tell.Refused x)

-- where the header is of shape y
abbrev pub OtherShape : Shape → Type 0
OtherShape y = (z : Shape) (journal : List ℕ) → header_ok y (header_of journal) ≡ true → (z ≡ y → ⊥) → RefusesAll z journal

-- ---- cells, of an area of the shape's length

-- encode writes all old parity cells and nothing else
pub record EncodeCells (z : Shape) (area : List ℕ) : Type 0 where
  pub parity : (g j : ℕ) → g < stripes z → j < rows z → row z (encoded_area z area) g j ≡ parity_of z area g j
  pub others : (v g : ℕ) → g < node_slots z v → ((j : ℕ) → j < rows z → row_node z g j ≡ v → ⊥)
      → cell z (encoded_area z area) v g ≡ cell z area v g
  -- begin right after it accepts
  pub accepted : (journal : List ℕ) (number : ℕ) → length journal ≡ journal_length z → number < 2 ^ 28
      → (begin z (encode z area).area journal number).answer ≡ done

-- begin zeroes new nodes
pub record BeginCells (z : Shape) (area : List ℕ) : Type 0 where
  pub new : (v g : ℕ) → z.n ≤ v → v < z.n + z.s → g < kept z → cell z (begun_area z area) v g ≡ zeros z.b
  pub old : (v g : ℕ) → v < z.n → g < stripes z → cell z (begun_area z area) v g ≡ cell z area v g

-- of a kept stripe whose parity rows are what its columns give: compute makes row 0 the fresh row over the k + s columns, and so does the
-- delta that send writes for transfer e, once it is delivered, with row e + 1
pub record FreshRows (z : Shape) (area : List ℕ) (w : ℕ) : Type 0 where
  pub computed : row z (computed_area z area w) w 0 ≡ new_stripe_row z area w 0
  pub delivered : (e : ℕ) → e < rows z - 1 → received z e (row z area w (e + 1)) (payload z area w e) ≡ new_stripe_row z area w (e + 1)

-- release w performs the swap's local move and zeroes the dissolved cells that w's new blocks came from
pub record ReleaseCells (z : Shape) (area : List ℕ) (w : ℕ) : Type 0 where
  pub sources : (t : ℕ) → t < z.s → cell z (released_area z area w) (source_node z w) (source_slot z w t) ≡ zeros z.b
  pub swap : swapped z w ≡ true → cell z (released_area z area w) (source_node z w) w ≡ new_block z area w (swap_index z w)
  pub others : (v g : ℕ) → g < node_slots z v → ((t : ℕ) → t < z.s → source_node z w ≡ v → source_slot z w t ≡ g → ⊥)
      → (swapped z w ≡ true → source_node z w ≡ v → w ≡ g → ⊥) → cell z (released_area z area w) v g ≡ cell z area v g

-- close zeroes all dissolved cells
pub record CloseCells (z : Shape) (area : List ℕ) : Type 0 where
  pub dissolved : (v g : ℕ) → v < z.n → kept z ≤ g → g < stripes z → cell z (cleared_area z area) v g ≡ zeros z.b
  pub others : (v g : ℕ) → v < z.n + z.s → g < kept z → cell z (cleared_area z area) v g ≡ cell z area v g

-- in slots below P the blocks of the new stripes, from the area that begin accepted; all other cells zero
pub record ClosedCells (z : Shape) (begun area : List ℕ) : Type 0 where
  pub long : length area ≡ area_length z
  pub stripe : (w e : ℕ) → w < kept z → e < z.n + z.s → cell z area (new_node z w e) w ≡ new_stripe_block z begun w e
  pub others : (v g : ℕ) → v < z.n → kept z ≤ g → g < stripes z → cell z area v g ≡ zeros z.b

-- read, where nothing refuses it: the stretch lies inside the area, and is the cell in which the block now stands
pub record ReadCells (z : Shape) (area journal : List ℕ) (g d : ℕ) : Type 0 where
  pub inside : offset_of z journal g d + z.b ≤ length area
  pub stretch : read z area journal g d ≡ cell z area (standing_node z (released_by journal) g d)
      (standing_slot z (released_by journal) g d)

-- ---- drive, of every area and journal that it accepts

-- some transfer is not accepted
abbrev pub Left : Shape → List ℕ → Type 0
Left z journal = (w : ℕ) × (e : ℕ) × (w < kept z) × (e < transfers z) × (is_accepted (record_at journal w) e ≡ false)

-- between two journals a drive sent transfer e of w: it is receipted after it and was not before
abbrev pub SentBetween : (before after : List ℕ) (w e : ℕ) → Type 0
SentBetween before after w e = (is_receipted (record_at before w) e ≡ false) × (is_receipted (record_at after w) e ≡ true)

-- drive's order, stripes by rising w and transfers by rising e: (v, f) comes no later than (w, e)
abbrev pub NoLater : (v f w e : ℕ) → Type 0
NoLater v f w e = (v < w) ⊎ ((v ≡ w) × (f ≤ e))

-- the area as a drive from c has it when it comes to transfer e of w
abbrev pub area_at : Shape → (limit : ℕ) → Store → (w e : ℕ) → List ℕ
area_at z limit c w e =
    let before = drive_stripes (store_drive z) limit (transfers z) w (goes_on c 0) in
    (drive_transfers (store_drive z) limit w e (step_on (compute_on z w) before)).contents.area

-- a message, and its receipt after it
abbrev pub with_receipt : Shape → (w e growth : ℕ) → List ℕ → List ℕ
with_receipt z w e growth block = message z w e growth block ++ header_bytes (header_for z 4 w e growth)

-- the space of a drive from c to the journal `after`: untouched if none was sent, else the message of the last transfer sent and, in the
-- last 16 bytes, its receipt
pub data LastSent (z : Shape) (limit : ℕ) (c : Store) (after lent : List ℕ) : List ℕ → Type 0 where
  none_sent : ((w e : ℕ) → w < kept z → e < transfers z → SentBetween c.journal after w e → ⊥) → LastSent z limit c after lent lent
  last_sent : (w e : ℕ) → w < kept z → e < transfers z → SentBetween c.journal after w e
      → ((v f : ℕ) → v < kept z → f < transfers z → SentBetween c.journal after v f → NoLater v f w e)
      → LastSent z limit c after lent (with_receipt z w e (number_of (header_of c.journal)) (payload z (area_at z limit c w e) w e))

pub record DriveClaims (z : Shape) (area journal space : List ℕ) (limit : ℕ) : Type 0 where
  -- its number is the marks after it less the marks before it
  pub marks_added : marks z (drive z area journal space limit).journal
      ≡ marks z journal + carried (drive z area journal space limit).answer
  pub within : carried (drive z area journal space limit).answer ≤ limit
  -- spent means that it accepted as many as its limit and a further transfer is left
  pub all_spent : (x : ℕ) → (drive z area journal space limit).answer ≡ spent x
      → (x ≡ limit) × Left z (drive z area journal space limit).journal
  -- finished means that every stripe is released
  pub all_released : (x : ℕ) → (drive z area journal space limit).answer ≡ finished x
      → (w : ℕ) → w < kept z → is_released (record_at (drive z area journal space limit).journal w) ≡ true
  pub spaces : LastSent z limit (lent_store z area journal space) (drive z area journal space limit).journal space
      (drive z area journal space limit).space
  -- it leaves a journal that passes the test of the whole journal
  pub whole : whole_ok z (drive z area journal space limit).journal ≡ true

-- ---- all of it

pub record GrowthClaims (z : Shape) : Type 0 where
  pub locality : Locality z
  pub buffers : Buffers z
  pub other_shape_law : InRanges z → OtherShape z
  pub encode_cells : InRanges z → (area : List ℕ) → length area ≡ area_length z → EncodeCells z area
  pub begin_cells : InRanges z → (area : List ℕ) → length area ≡ area_length z → BeginCells z area
  pub fresh_rows : InRanges z → (area : List ℕ) → length area ≡ area_length z → (w : ℕ) → w < kept z → stripe_holds z area w ≡ true
      → FreshRows z area w
  pub release_cells : InRanges z → (area : List ℕ) → length area ≡ area_length z → (w : ℕ) → w < kept z → ReleaseCells z area w
  pub close_cells : InRanges z → (area : List ℕ) → length area ≡ area_length z → CloseCells z area
  -- the closed area has its cells, and no other area has
  pub closed_cells : InRanges z → (begun : List ℕ) → ClosedCells z begun (closed_area z begun)
  pub closed_only : InRanges z → (begun area : List ℕ) → ClosedCells z begun area → area ≡ closed_area z begun
  pub read_cells : (area journal : List ℕ) (g d : ℕ) → read_refusal z (length area) journal g d ≡ 0 → ReadCells z area journal g d
  pub drives : (area journal space : List ℕ) (limit : ℕ) → drive_refusal z (length area) journal (length space) ≡ 0
      → DriveClaims z area journal space limit
