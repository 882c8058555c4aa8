-- The refusals of deliver that remain where the shape, and area and journal or the node's own part, are right. Assumes nothing.
use Rattle.std.specs.Prelude.{ℕ}
use Rattle.base.specs.Refusals.{first}
use Rattle.layout.specs.declared.Shape.{Shape}
use Rattle.wire.specs.declared.Header.{Header}
use Rattle.journal.specs.declared.headers.JournalHeader.{JournalHeader}
use Rattle.growth.specs.Deliver.{arrival_refusals, message_refusals}

unfoldable pub arrival_refusal : Shape → JournalHeader → (word : ℕ) → ℕ → Header → ℕ
arrival_refusal z h word node m = first (arrival_refusals z h word node m)

unfoldable pub message_refusal : Shape → (messageBytes spaceBytes : ℕ) → JournalHeader → (word node : ℕ) → Header → ℕ
message_refusal z messageBytes spaceBytes h word node m = first (message_refusals z messageBytes spaceBytes h word node m)
