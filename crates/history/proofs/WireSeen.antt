-- What a genuine message and a genuine receipt say: their length and form, the transfer and growth that they name, and what they carry.
-- Assumes nothing.
use mathlib.Core.Path.{◌≡◌, ap, ◌∙◌}
use mathlib.Core.Bool.{true}
use mathlib.Core.List.{List, [], ◌++◌}
use Prim.Native.Nat.{ℕ, ◌+◌, ◌^◌, ◌<◌}
use native.Mathlib.Omega.{arith}
use lib.ListN.{length, get_or}
use lib.Seq.{get_or-append-add}
use Rattle.area.specs.Area.{block}
use Rattle.area.proofs.Blocks.{block_eq}
use Rattle.layout.specs.declared.Shape.{Shape}
use Rattle.layout.specs.Ranges.{InRanges}
use Rattle.layout.specs.Counts.{kept, transfers}
use Rattle.wire.specs.declared.Header.{Header}
use Rattle.wire.specs.Headers.{header_for, message_header, header_bytes, message, header_at, receipt_of}
use Rattle.wire.specs.Forms.{is_message, is_receipt}
use Rattle.wire.specs.Claims.{Names}
use Rattle.wire.specs.Claims as Wire
use Rattle.wire.proofs.ByteLaws.{header_alone, length_header}
use Rattle.wire.proofs.FormLaws.{header_words}
use Rattle.wire.proofs.WireHolds.{wire_holds}
use Rattle.growth.specs.Send.{message_length}
use Rattle.growth.specs.Deliver.{receipt_length}
use Rattle.history.specs.Steps.{transfer_in}
use Rattle.history.proofs.Growths.{MessageOf, ReceiptOf}

pub record SaysMessage (z : Shape) (w e number : ℕ) (payload bytes : List ℕ) : Type 0 where
  pub long : length bytes ≡ message_length z
  pub form : is_message z (header_at bytes 0) ≡ true
  pub names : Names w e number (header_at bytes 0)
  pub transfer : transfer_in bytes ≡ record { stripe = w; item = e }
  pub receipt : receipt_of (header_at bytes 0) ≡ header_for z 4 w e number
  pub carries : block bytes 16 z.b ≡ payload

pub record SaysReceipt (z : Shape) (w e number : ℕ) (bytes : List ℕ) : Type 0 where
  pub long : length bytes ≡ receipt_length
  pub form : is_receipt z (header_at bytes 0) ≡ true
  pub names : Names w e number (header_at bytes 0)
  pub transfer : transfer_in bytes ≡ record { stripe = w; item = e }

-- the names are the transfer that a call reads
read_names : (w e number : ℕ) (bytes : List ℕ) → Names w e number (header_at bytes 0) → transfer_in bytes ≡ record { stripe = w; item = e }
unfolding transfer_in
read_names w e number bytes n = λ i. record { stripe = n.stripe i; item = n.transfer i }

-- what stands behind a header is the payload
carried : (h : Header) (payload : List ℕ) (b : ℕ) → length payload ≡ b → block (header_bytes h ++ payload) 16 b ≡ payload
carried h payload b long = block_eq (header_bytes h ++ payload) 16 b payload long (λ k l. behind k)
  where
    behind : (k : ℕ) → get_or (header_bytes h ++ payload) (16 + k) 0 ≡ get_or payload k 0
    behind k = rw (length_header h) at (get_or-append-add (header_bytes h) payload k 0)

module _ (z : Shape) (ok : InRanges z) (number : ℕ) (few : number < 2 ^ 28) where
  transfer_of_law : (w e : ℕ) → w < kept z → e < transfers z → Wire.Transfer z w e number
  transfer_of_law w e l m = record { stripe = l; transfer = m; growth = few }

  message_says : (w e : ℕ) (payload : List ℕ) → w < kept z → e < transfers z → length payload ≡ z.b
      → SaysMessage z w e number payload (message z w e number payload)
  unfolding message
  message_says w e payload l m long =
      let t = (wire_holds z ok).written w e number payload (transfer_of_law w e l m) in
      let names : Names w e number (header_at (message z w e number payload) 0) = rw t.header t.names in
      record {
        long = t.long ∙ ap (λ (b : ℕ). 16 + b) long;
        form = rw t.header t.form;
        names = names;
        transfer = read_names w e number (message z w e number payload) names;
        receipt = rw t.header t.receipt;
        carries = carried (message_header z w e number) payload z.b long;
      }

  receipt_says : (w e : ℕ) → w < kept z → e < transfers z → SaysReceipt z w e number (header_bytes (header_for z 4 w e number))
  receipt_says w e l m =
      let h = header_for z 4 w e number in
      let t = (wire_holds z ok).written w e number [] (transfer_of_law w e l m) in
      let here : header_at (header_bytes h) 0 ≡ h =
      header_alone h (header_words z ok 4 w e number (omega arith) (transfer_of_law w e l m)) in
      let names : Names w e number (header_at (header_bytes h) 0) = rw here t.receipt_names in
      record {
        long = length_header h;
        form = rw here t.receipt_form;
        names = names;
        transfer = read_names w e number (header_bytes h) names;
      }

  pub says_message : (bytes : List ℕ) (m : MessageOf z number bytes) → SaysMessage z m.stripe m.transfer number m.payload bytes
  says_message bytes m =
      rw m.is (message_says m.stripe m.transfer m.payload m.stripe_lt m.transfer_lt m.payload_long)

  pub says_receipt : (bytes : List ℕ) (r : ReceiptOf z number bytes) → SaysReceipt z r.stripe r.transfer number bytes
  says_receipt bytes r = rw r.is (receipt_says r.stripe r.transfer r.stripe_lt r.transfer_lt)
