-- FORMAT §13; document 01, "Calls": begin verifies all G stripes, zeroes new nodes, writes a fresh book. Assumes nothing.
use Rattle.std.specs.Prelude.{Bool, false, not, List, [], ◌∷◌, ◌++◌, ℕ, ◌^◌, length}
use Rattle.base.specs.Tests.{every}
use Rattle.base.specs.Folds.{run}
use Rattle.base.specs.Refusals.{Refusal, refuse, first, or_else}
use Rattle.answer.specs.Answers.{answer_for, on_done}
use Rattle.area.specs.Area.{same_bytes}
use Rattle.layout.specs.declared.Shape.{Shape}
use Rattle.layout.specs.Ranges.{rows, shape_refusal}
use Rattle.layout.specs.Counts.{kept, stripes}
use Rattle.journal.specs.Fresh.{fresh_journal}
use Rattle.growth.specs.Cells.{zero_cells, row, parity_of}
use Rattle.growth.specs.Shared.{out_of_range, Outcome, store_refusals}

-- ---- the answer

-- each parity row of stripe g is what its columns give
unfoldable pub stripe_holds : Shape → List ℕ → ℕ → Bool
stripe_holds z area g = every (rows z) (λ j. same_bytes (row z area g j) (parity_of z area g j))

-- 3 lengths; 5 the growth number, below 2^28; 12 a stripe's parity is wrong
abbrev pub begin_refusals : Shape → List ℕ → ℕ → ℕ → List Refusal
begin_refusals z area journalWords number =
    store_refusals z (length area) journalWords
    ++ (out_of_range number (2 ^ 28) ∷ refuse (not (every (stripes z) (stripe_holds z area))) 12 ∷ [])

unfoldable pub begin_refusal : Shape → List ℕ → ℕ → ℕ → ℕ
begin_refusal z area journalWords number = or_else (shape_refusal z) (first (begin_refusals z area journalWords number))

-- ---- the area

-- all P slots of each of the s new nodes
unfoldable pub begun_area : Shape → List ℕ → List ℕ
begun_area z area = run (λ v a. zero_cells z v 0 (kept z) a) z.n z.s area

unfoldable pub begin : Shape → List ℕ → List ℕ → ℕ → Outcome
begin z area journal number =
    let a = answer_for (begin_refusal z area (length journal) number) false in
    record { answer = a; area = on_done a (begun_area z area) area; journal = on_done a (fresh_journal z number) journal }
