-- The messages and the receipts of a trace as lists: each stands there exactly if its event stands in the trace. Assumes nothing.
use mathlib.Core.Path.{ap}
use mathlib.Core.Bool.{false≢true}
use mathlib.Core.List.{List, [], ◌∷◌}
use mathlib.Core.Logic.{inl, inr}
use Prim.Native.Nat.{ℕ}
use Rattle.protocol.specs.Transfers.{Among}
use Rattle.history.specs.Contents.{Event, Trace, wrote_message, wrote_receipt, computed, released, accepted, receipted}

abbrev pub messages_of : Trace → List (List ℕ)
messages_of [] = []
messages_of (wrote_message bytes ∷ t) = bytes ∷ messages_of t
messages_of (wrote_receipt bytes ∷ t) = messages_of t
messages_of (computed w ∷ t) = messages_of t
messages_of (released w ∷ t) = messages_of t
messages_of (accepted i ∷ t) = messages_of t
messages_of (receipted i ∷ t) = messages_of t

abbrev pub receipts_of : Trace → List (List ℕ)
receipts_of [] = []
receipts_of (wrote_message bytes ∷ t) = receipts_of t
receipts_of (wrote_receipt bytes ∷ t) = bytes ∷ receipts_of t
receipts_of (computed w ∷ t) = receipts_of t
receipts_of (released w ∷ t) = receipts_of t
receipts_of (accepted i ∷ t) = receipts_of t
receipts_of (receipted i ∷ t) = receipts_of t

-- the bytes that a call wrote
abbrev written : Event → List ℕ
written (wrote_message bytes) = bytes
written (wrote_receipt bytes) = bytes
written (computed w) = []
written (released w) = []
written (accepted i) = []
written (receipted i) = []

pub in_messages : (bytes : List ℕ) (t : Trace) → Among (wrote_message bytes) t → Among bytes (messages_of t)
in_messages bytes [] h = absurd h
in_messages bytes (wrote_message x ∷ t) (inl p) = inl (ap written p)
in_messages bytes (wrote_message x ∷ t) (inr h) = inr (in_messages bytes t h)
in_messages bytes (wrote_receipt x ∷ t) (inl p) = absurd (false≢true cc)
in_messages bytes (wrote_receipt x ∷ t) (inr h) = in_messages bytes t h
in_messages bytes (computed w ∷ t) (inl p) = absurd (false≢true cc)
in_messages bytes (computed w ∷ t) (inr h) = in_messages bytes t h
in_messages bytes (released w ∷ t) (inl p) = absurd (false≢true cc)
in_messages bytes (released w ∷ t) (inr h) = in_messages bytes t h
in_messages bytes (accepted i ∷ t) (inl p) = absurd (false≢true cc)
in_messages bytes (accepted i ∷ t) (inr h) = in_messages bytes t h
in_messages bytes (receipted i ∷ t) (inl p) = absurd (false≢true cc)
in_messages bytes (receipted i ∷ t) (inr h) = in_messages bytes t h

pub in_receipts : (bytes : List ℕ) (t : Trace) → Among (wrote_receipt bytes) t → Among bytes (receipts_of t)
in_receipts bytes [] h = absurd h
in_receipts bytes (wrote_message x ∷ t) (inl p) = absurd (false≢true cc)
in_receipts bytes (wrote_message x ∷ t) (inr h) = in_receipts bytes t h
in_receipts bytes (wrote_receipt x ∷ t) (inl p) = inl (ap written p)
in_receipts bytes (wrote_receipt x ∷ t) (inr h) = inr (in_receipts bytes t h)
in_receipts bytes (computed w ∷ t) (inl p) = absurd (false≢true cc)
in_receipts bytes (computed w ∷ t) (inr h) = in_receipts bytes t h
in_receipts bytes (released w ∷ t) (inl p) = absurd (false≢true cc)
in_receipts bytes (released w ∷ t) (inr h) = in_receipts bytes t h
in_receipts bytes (accepted i ∷ t) (inl p) = absurd (false≢true cc)
in_receipts bytes (accepted i ∷ t) (inr h) = in_receipts bytes t h
in_receipts bytes (receipted i ∷ t) (inl p) = absurd (false≢true cc)
in_receipts bytes (receipted i ∷ t) (inr h) = in_receipts bytes t h

pub message_event : (bytes : List ℕ) (t : Trace) → Among bytes (messages_of t) → Among (wrote_message bytes) t
message_event bytes [] h = absurd h
message_event bytes (wrote_message x ∷ t) (inl p) = inl (ap wrote_message p)
message_event bytes (wrote_message x ∷ t) (inr h) = inr (message_event bytes t h)
message_event bytes (wrote_receipt x ∷ t) h = inr (message_event bytes t h)
message_event bytes (computed w ∷ t) h = inr (message_event bytes t h)
message_event bytes (released w ∷ t) h = inr (message_event bytes t h)
message_event bytes (accepted i ∷ t) h = inr (message_event bytes t h)
message_event bytes (receipted i ∷ t) h = inr (message_event bytes t h)

pub receipt_event : (bytes : List ℕ) (t : Trace) → Among bytes (receipts_of t) → Among (wrote_receipt bytes) t
receipt_event bytes [] h = absurd h
receipt_event bytes (wrote_message x ∷ t) h = inr (receipt_event bytes t h)
receipt_event bytes (wrote_receipt x ∷ t) (inl p) = inl (ap wrote_receipt p)
receipt_event bytes (wrote_receipt x ∷ t) (inr h) = inr (receipt_event bytes t h)
receipt_event bytes (computed w ∷ t) h = inr (receipt_event bytes t h)
receipt_event bytes (released w ∷ t) h = inr (receipt_event bytes t h)
receipt_event bytes (accepted i ∷ t) h = inr (receipt_event bytes t h)
receipt_event bytes (receipted i ∷ t) h = inr (receipt_event bytes t h)
