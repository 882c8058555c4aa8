-- What was sent is told by its words: a message among the messages, a receipt among the receipts. Assumes nothing.
use mathlib.Core.Path.{◌≡◌}
use mathlib.Core.Bool.{true}
use mathlib.Core.List.{List}
use mathlib.Core.Logic.{inl, inr}
use Prim.Native.Nat.{ℕ}
use Rattle.base.proofs.Tests.{clash}
use Rattle.layout.specs.declared.Shape.{Shape}
use Rattle.layout.specs.Ranges.{InRanges}
use Rattle.wire.specs.Headers.{header_at}
use Rattle.wire.specs.Forms.{is_message, is_receipt}
use Rattle.wire.proofs.FormLaws.{message_no_receipt}
use Rattle.protocol.specs.Transfers.{Among}
use Rattle.history.specs.Contents.{Contents}
use Rattle.history.specs.Link.{Sent}
use Rattle.history.proofs.Growths.{Fit}
use Rattle.history.proofs.FitSeen.{number_few}
use Rattle.history.proofs.WireSeen.{says_message, says_receipt}
use Rattle.history.proofs.Traces.{messages_of, receipts_of, in_messages, in_receipts}

module _ (z : Shape) (ok : InRanges z) (number : ℕ) (c : Contents) (f : Fit z number c) where
  pub message_among : (bytes : List ℕ) → is_message z (header_at bytes 0) ≡ true → Sent c.trace bytes → Among bytes (messages_of c.trace)
  message_among bytes m (inl h) = in_messages bytes c.trace h
  message_among bytes m (inr h) =
      let r = (says_receipt z ok number (number_few z number c f) bytes (f.receipts bytes (in_receipts bytes c.trace h))).form in
      absurd (clash r (message_no_receipt z (header_at bytes 0) m))

  pub receipt_among : (bytes : List ℕ) → is_receipt z (header_at bytes 0) ≡ true → Sent c.trace bytes → Among bytes (receipts_of c.trace)
  receipt_among bytes r (inl h) =
      let m = (says_message z ok number (number_few z number c f) bytes (f.messages bytes (in_messages bytes c.trace h))).form in
      absurd (clash r (message_no_receipt z (header_at bytes 0) m))
  receipt_among bytes r (inr h) = in_receipts bytes c.trace h
