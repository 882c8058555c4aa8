-- What a node reads of the journal's header: the state, the growth's number, and whether the header passes its test. The value of the
-- count of accepted transfers is read by deliver alone. Assumes nothing.
use Rattle.std.specs.Prelude.{◌≡◌}
use Rattle.layout.specs.declared.Shape.{Shape}
use Rattle.journal.specs.declared.headers.JournalHeader.{JournalHeader}
use Rattle.journal.specs.Journal.{state_of, number_of, header_ok}

-- two headers of one growth, whatever they count
pub record SameGrowth (z : Shape) (h i : JournalHeader) : Type 0 where
  pub ok : header_ok z h ≡ header_ok z i
  pub state : state_of h ≡ state_of i
  pub number : number_of h ≡ number_of i
