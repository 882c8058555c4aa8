-- The refusals of deliver as they are tested: those of shape and store first, the message's after them. Assumes nothing.
use mathlib.Core.Path.{◌≡◌, refl, sym, ◌∙◌}
use mathlib.Core.Bool.{true}
use Prim.Native.Nat.{ℕ, ◌+◌, ◌<◌}
use native.Mathlib.Omega.{arith}
use Rattle.base.specs.Refusals.{or_else}
use Rattle.base.proofs.Refusals.{in_parts, or_else_pass}
use Rattle.layout.specs.declared.Shape.{Shape}
use Rattle.layout.specs.Ranges.{InRanges, shape_refusal}
use Rattle.layout.specs.Addresses.{area_length}
use Rattle.layout.proofs.Bounds.{transfers_le}
use Rattle.wire.specs.declared.Header.{Header}
use Rattle.wire.specs.Headers.{transfer_of}
use Rattle.wire.specs.Forms.{is_message}
use Rattle.wire.proofs.FormLaws.{message_is}
use Rattle.journal.specs.declared.headers.JournalHeader.{JournalHeader}
use Rattle.journal.specs.Journal.{journal_length}
use Rattle.growth.specs.Deliver.{deliver_refusal, message_refusals}
use Rattle.growth.proofs.Allowed.{DeliverAllowed, deliver_allowed}
use Rattle.growth.specs.Shared.{store_refusals}
use Rattle.lent.specs.Checks.{store_refusal}
use Rattle.lent.proofs.StoreLaws.{store_passes}
use Rattle.deliver.specs.Arrival.{message_refusal}

-- the transfer of a message is one of its stripe's bits
pub bit_there : (z : Shape) → InRanges z → (m : Header) → is_message z m ≡ true → transfer_of m < 32
bit_there z ok m form = omega (arith, (message_is z m form).transfer.transfer, transfers_le z ok)

pub store_first : (z : Shape) (area_bytes journalWords messageBytes spaceBytes : ℕ) (h : JournalHeader) (word node : ℕ) (m : Header)
    → deliver_refusal z area_bytes journalWords messageBytes spaceBytes h word node m
    ≡ or_else (store_refusal z area_bytes journalWords) (message_refusal z messageBytes spaceBytes h word node m)
unfolding deliver_refusal store_refusal message_refusal
store_first z area_bytes journalWords messageBytes spaceBytes h word node m =
    sym (in_parts (shape_refusal z) (store_refusals z area_bytes journalWords) (message_refusals z messageBytes spaceBytes h word node m)
    (tt, (tt, tt)))

-- what nothing refuses of a message, whoever tests it: as of a call that is lent an area and a journal of the shape's lengths
pub arrived_allowed : (z : Shape) → InRanges z → (messageBytes spaceBytes : ℕ) (h : JournalHeader) (word node : ℕ) (m : Header)
    → message_refusal z messageBytes spaceBytes h word node m ≡ 0
    → DeliverAllowed z (area_length z) (journal_length z) messageBytes spaceBytes h word node m
arrived_allowed z ok messageBytes spaceBytes h word node m e =
    deliver_allowed z (area_length z) (journal_length z) messageBytes spaceBytes h word node m
    (store_first z (area_length z) (journal_length z) messageBytes spaceBytes h word node m
    ∙ or_else_pass _ _ (store_passes z (area_length z) (journal_length z) ok refl refl) ∙ e)

-- so the node is there
pub node_there : (z : Shape) → InRanges z → (messageBytes spaceBytes : ℕ) (h : JournalHeader) (word node : ℕ) (m : Header)
    → 0 ≡ message_refusal z messageBytes spaceBytes h word node m → node < z.n + z.s
node_there z ok messageBytes spaceBytes h word node m e = (arrived_allowed z ok messageBytes spaceBytes h word node m (sym e)).node_there
