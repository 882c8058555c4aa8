-- What status answers is listed: where nothing refuses, the journal is whole, so its state is open or closed. Assumes nothing.
use mathlib.Core.Path.{◌≡◌, refl}
use mathlib.Core.Bool.{Bool, true, false, ◌||◌}
use mathlib.Core.List.{List}
use Prim.Native.Nat.{ℕ, zero, suc, ◌≤◌}
use native.Mathlib.Omega.{arith}
use lib.Dec.{eqb}
use borrow.Author.Tests.{eqb-true, not-false}
use Rattle.base.specs.Refusals.{first}
use Rattle.base.proofs.Refusals.{first_zero, or_else_zero}
use Rattle.base.proofs.Tests.{and_left}
use Rattle.layout.specs.declared.Shape.{Shape}
use Rattle.layout.specs.Ranges.{shape_refusal}
use Rattle.journal.specs.declared.headers.JournalHeader.{JournalHeader}
use Rattle.journal.specs.States.{open_state, closed_state, listed_state}
use Rattle.journal.specs.Journal.{header_of, state_of, header_ok}
use Rattle.journal.specs.Whole.{whole_ok}
use Rattle.journal.specs.Status.{status_refusals, status_refusal, state_or, status}
use Rattle.growth.proofs.WholeParts.{whole_parts}
use Rattle.numbering.specs.Claims.{ListedStatus}
use Rattle.numbering.proofs.Listed.{number_low}

-- ---- the state in a header that is in order

state_listed : (state : ℕ) → listed_state state ≡ true → (1 ≤ state) × (state ≤ 2)
unfolding listed_state
state_listed state e = go (eqb state open_state) refl e
  where
    go : (t : Bool) → eqb state open_state ≡ t → t || eqb state closed_state ≡ true → (1 ≤ state) × (state ≤ 2)
    go true q l = let one = eqb-true state open_state q in (omega arith, omega arith)
    go false q l = let two = eqb-true state closed_state l in (omega arith, omega arith)

header_listed : (z : Shape) (h : JournalHeader) → header_ok z h ≡ true → (1 ≤ state_of h) × (state_of h ≤ 2)
unfolding header_ok
header_listed z h e = state_listed (state_of h) (and_left (listed_state (state_of h)) _ e)

-- ---- the answer

module _ (z : Shape) (journal : List ℕ) where
  status_low : status_refusal z journal ≤ 13
  unfolding status_refusal
  status_low = number_low z (status_refusals z journal) refl

  status_whole : status_refusal z journal ≡ 0 → whole_ok z journal ≡ true
  unfolding status_refusal
  status_whole e =
      let (shape, own) = or_else_zero (shape_refusal z) (first (status_refusals z journal)) e in
      let (long, (whole, end)) = first_zero (status_refusals z journal) (tt, (tt, tt)) own in not-false (whole_ok z journal) whole

  answer_listed : (x : ℕ) → status_refusal z journal ≡ x → x ≤ 13 → ListedStatus (state_or x journal)
  answer_listed zero e low = header_listed z (header_of journal) (whole_parts z journal (status_whole e)).header
  answer_listed (suc x) e low = (omega arith, low)

  pub tells : ListedStatus (status z journal)
  unfolding status
  tells = answer_listed (status_refusal z journal) refl status_low
