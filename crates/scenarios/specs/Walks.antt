-- A store on its walk through a growth: each call gets what the last one left, and every answer is kept. Assumes nothing.
use Rattle.std.specs.Prelude.{List, [], ◌∷◌, ◌++◌, ℕ, replicate}
use Rattle.base.specs.Folds.{run}
use Rattle.answer.specs.Answers.{Answer}
use Rattle.layout.specs.declared.Shape.{Shape}
use Rattle.layout.specs.Counts.{kept, transfers}
use Rattle.layout.specs.Transfers.{sender, receiver}
use Rattle.journal.specs.Journal.{journal_length}
use Rattle.growth.specs.Encode.{encode}
use Rattle.growth.specs.Begin.{begin}
use Rattle.growth.specs.Compute.{compute}
use Rattle.growth.specs.Send.{message_length, send}
use Rattle.growth.specs.Deliver.{receipt_length, deliver}
use Rattle.growth.specs.Receipt.{receipt}
use Rattle.growth.specs.Release.{release}
use Rattle.growth.specs.Close.{close}

-- the area, the journal, a space for messages, one for receipts, and what the calls answered, the first call first
pub record Walk : Type 0 where
  pub area : List ℕ
  pub journal : List ℕ
  pub message : List ℕ
  pub receipt : List ℕ
  pub answers : List Answer

-- ---- one call

-- what a further call left, with its answer behind the others
abbrev further : Walk → Answer → (area journal message receipt : List ℕ) → Walk
further c answer area journal message receipt =
    record { area = area; journal = journal; message = message; receipt = receipt; answers = c.answers ++ (answer ∷ []) }

unfoldable pub encodes : Shape → Walk → Walk
encodes z c = let o = encode z c.area in further c o.answer o.area c.journal c.message c.receipt

unfoldable pub begins : Shape → (number : ℕ) → Walk → Walk
begins z number c =
    let o = begin z c.area c.journal number in
    further c o.answer o.area o.journal c.message c.receipt

unfoldable pub computes : Shape → ℕ → Walk → Walk
computes z w c = let o = compute z c.area c.journal w in further c o.answer o.area o.journal c.message c.receipt

unfoldable pub sends : Shape → ℕ → ℕ → Walk → Walk
sends z w e c =
    let o = send z c.area c.journal w e c.message in
    further c o.answer c.area c.journal o.space c.receipt

-- the message that was sent last, at the receiver of transfer e of w
unfoldable pub delivers : Shape → ℕ → ℕ → Walk → Walk
delivers z w e c =
    let o = deliver z c.area c.journal (receiver z w e) c.message c.receipt in
    further c o.answer o.area o.journal c.message o.receipt

-- the receipt that was written last, at the sender of w
unfoldable pub receipts : Shape → ℕ → Walk → Walk
receipts z w c =
    let o = receipt z c.journal (sender z w) c.receipt in
    further c o.answer c.area o.journal c.message c.receipt

unfoldable pub releases : Shape → ℕ → Walk → Walk
releases z w c = let o = release z c.area c.journal w in further c o.answer o.area o.journal c.message c.receipt

unfoldable pub closes : Shape → Walk → Walk
closes z c = let o = close z c.area c.journal in further c o.answer o.area o.journal c.message c.receipt

-- ---- several

-- send, deliver and receipt of transfer e of w
unfoldable pub passes : Shape → ℕ → ℕ → Walk → Walk
passes z w e c = receipts z w (delivers z w e (sends z w e c))

-- compute and all transfers of w, no release
unfoldable pub moves : Shape → ℕ → Walk → Walk
moves z w c = run (passes z w) 0 (transfers z) (computes z w c)

-- all calls of w
unfoldable pub grows : Shape → ℕ → Walk → Walk
grows z w c = releases z w (moves z w c)

-- ---- whole growths

-- an area, a journal and spaces of the right lengths, the last three blank; no call was made
unfoldable pub lends : Shape → List ℕ → Walk
lends z area = record {
  area = area;
  journal = replicate (journal_length z) 0;
  message = replicate (message_length z) 0;
  receipt = replicate receipt_length 0;
  answers = [];
}

-- encode and begin, as growth number 5
unfoldable pub begun : Shape → List ℕ → Walk
begun z area = begins z 5 (encodes z (lends z area))

-- and all calls of all stripes, by rising w
unfoldable pub grown : Shape → List ℕ → Walk
grown z area = run (grows z) 0 (kept z) (begun z area)

-- and close
unfoldable pub closed : Shape → List ℕ → Walk
closed z area = closes z (grown z area)
