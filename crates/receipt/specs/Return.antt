-- The refusals of receipt that remain where shape and lengths are right. Assumes nothing.
use Rattle.std.specs.Prelude.{ℕ}
use Rattle.base.specs.Refusals.{first}
use Rattle.layout.specs.declared.Shape.{Shape}
use Rattle.wire.specs.declared.Header.{Header}
use Rattle.journal.specs.declared.headers.JournalHeader.{JournalHeader}
use Rattle.growth.specs.Receipt.{return_refusals}

unfoldable pub return_refusal : Shape → JournalHeader → (word : ℕ) → ℕ → Header → ℕ
return_refusal z h word node m = first (return_refusals z h word node m)
