-- FORMAT §11; document 01, "Who can cause a no": the test of the whole book. Assumes nothing.
use Rattle.std.specs.Prelude.{Bool, List, [], ◌∷◌, ℕ, eqb}
use Rattle.base.specs.Tests.{only_if, every, all}
use Rattle.base.specs.Folds.{total}
use Rattle.layout.specs.declared.Shape.{Shape}
use Rattle.layout.specs.Counts.{kept, transfers}
use Rattle.records.specs.Records.{is_accepted, is_released}
use Rattle.records.specs.Conditions.{record_ok}
use Rattle.journal.specs.States.{is_closed}
use Rattle.journal.specs.Journal.{header_of, state_of, count_of, header_ok, record_at}

-- the transfers that are marked as accepted, in all stripes
unfoldable pub marks : Shape → List ℕ → ℕ
marks z journal = total (kept z) (transfers z) (λ w. is_accepted (record_at journal w))

-- the header, every pair, count = marks, state closed only if every stripe is released
unfoldable pub whole_ok : Shape → List ℕ → Bool
whole_ok z journal =
    all
    (header_ok z (header_of journal) ∷
    every (kept z) (λ w. record_ok z (record_at journal w)) ∷
    eqb (count_of (header_of journal)) (marks z journal) ∷
    only_if (is_closed (state_of (header_of journal))) (every (kept z) (λ w. is_released (record_at journal w))) ∷
    [])
