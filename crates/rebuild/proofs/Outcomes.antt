-- What the tests of rebuild decide: no data agree, more than one set does, or exactly one, whose encoding is written. Assumes nothing.
use mathlib.Core.Path.{◌≡◌}
use mathlib.Core.List.{List}
use mathlib.Core.Bool.{true, false}
use Prim.Native.Nat.{ℕ, ◌<◌}
use lib.ListN.{get_or}
use Rattle.base.proofs.Tests.{clash}
use Rattle.code.specs.Rows.{coefficient}
use Rattle.code.specs.Agreement.{Agrees}
use Rattle.solver.specs.Solution.{solved}
use Rattle.solver.specs.Claims.{Solvable, SolverClaims}
use Rattle.recovery.specs.Rebuild.{Encodes, One, Two, None}
use Rattle.recovery.proofs.Passed.{Passed, solvable}
use Rattle.recovery.proofs.CheckSums.{agrees_zero, found, found_agrees}
use Rattle.recovery.proofs.Outcomes.{only_one, another}
use Rattle.rebuild.specs.Steps.{checks_hold, columns_hold, columns_written, rows_written}
use Rattle.rebuild.proofs.CheckLaws.{checks_zero, zero_checks}
use Rattle.rebuild.proofs.ColumnLaws.{column_open, columns_fixed}
use Rattle.rebuild.proofs.WriteLaws.{encodes}

module _ (m : ℕ → ℕ) (multipliers : (j : ℕ) → j < 4 → m j < 256) (n k b : ℕ) (losses stripe : List ℕ)
    (bytes : (a : ℕ) → get_or stripe a 0 < 256)
    (ok : Passed n k b losses stripe) (claims : SolverClaims (coefficient m) n k losses) where
  abbrev w : List ℕ
  w = solved (coefficient m) n k losses

  fit : Solvable (coefficient m) n k losses
  fit = solvable m multipliers n k b losses stripe ok

  pub outcome_nothing : checks_hold n k b losses w stripe ≡ false → None m n k b losses stripe
  outcome_nothing t d agrees = clash (zero_checks m n k b losses stripe (agrees_zero m n k b losses stripe bytes fit claims d agrees)) t

  module _ (t : checks_hold n k b losses w stripe ≡ true) where
    one : List ℕ
    one = found m n k b losses stripe bytes fit claims (checks_zero m n k b losses stripe t)

    one_agrees : Agrees m n k b losses stripe one
    unfolding one
    one_agrees = found_agrees m n k b losses stripe bytes fit claims (checks_zero m n k b losses stripe t)

    pub outcome_several : columns_hold k losses w ≡ false → Two m n k b losses stripe
    outcome_several f =
        let o = column_open (coefficient m) n k losses claims f in
        another m n k b losses stripe ok.some_byte one one_agrees o.0 o.1 o.2

    pub outcome_rebuilt : columns_hold k losses w ≡ true
        → (d : List ℕ) × One m n k b losses stripe d
        × Encodes m n k b d (rows_written m n k b losses (columns_written n k b losses w stripe))
    outcome_rebuilt f = (
      one,
      only_one m n k b losses stripe ok.some_byte one one_agrees (columns_fixed (coefficient m) n k losses claims fit f),
      encodes m n k b losses stripe one ok one_agrees bytes fit claims f,
    )
