-- The returns of `rebuild`, from what its calls tell: the answer and the stripe are one of the outcomes. Assumes nothing.
use mathlib.Core.Path.{◌≡◌, sym, ap, ◌∙◌}
use mathlib.Core.List.{List}
use mathlib.Core.Bool.{Bool, true, false}
use Prim.Native.Nat.{ℕ, ◌<◌}
use native.Mathlib.Omega.{arith}
use lib.ListN.{length}
use Rattle.code.specs.Rows.{coefficient}
use Rattle.code.specs.Agreement.{lost_count}
use Rattle.solver.specs.Solution.{solved}
use Rattle.solver.specs.Claims.{SolverClaims}
use Rattle.solver.proofs.SolverHolds.{solver_holds}
use Rattle.recovery.specs.RebuildAnswer.{Rebuilt, Refused}
use Rattle.recovery.specs.Rebuild.{rebuild_refusal, Rebuilds, refused, rebuilt, several, nothing, stripe_multiplier}
use Rattle.rebuild.specs.Steps.{checks_hold, columns_hold, all_written}
use Rattle.elimination.proofs.RowLaws.{ByteList}
use Rattle.recovery.proofs.Passed.{Passed, passed, solvable}
use Rattle.rebuild.proofs.Outcomes.{outcome_nothing, outcome_several, outcome_rebuilt}

module _ (n k b : ℕ) (losses stripe : List ℕ) (x : ℕ) (e : x ≡ rebuild_refusal n k b (length stripe) losses) where
  pub end_refused : (x ≡ 0 → ⊥) → Rebuilds stripe_multiplier n k b losses stripe (Refused x) stripe
  end_refused h = rw e (refused (omega arith))

  module _ (z : x ≡ 0) where
    free : rebuild_refusal n k b (length stripe) losses ≡ 0
    free = sym e ∙ z

    pub all_passed : Passed n k b losses stripe
    all_passed = passed n k b losses stripe free

    module _ (bytes : ByteList stripe) (w : List ℕ) (ew : w ≡ solved (coefficient stripe_multiplier) n k losses) (t : Bool)
        (et : t ≡ checks_hold n k b losses w stripe) where
      multipliers : (j : ℕ) → j < 4 → stripe_multiplier j < 256
      multipliers j h = omega arith

      claims : SolverClaims (coefficient stripe_multiplier) n k losses
      claims = solver_holds (coefficient stripe_multiplier) n k losses
          (solvable stripe_multiplier multipliers n k b losses stripe all_passed)

      checks : {a : Bool} → t ≡ a → checks_hold n k b losses (solved (coefficient stripe_multiplier) n k losses) stripe ≡ a
      checks h = ap (λ (y : List ℕ). checks_hold n k b losses y stripe) (sym ew) ∙ sym et ∙ h

      pub end_nothing : t ≡ false → Rebuilds stripe_multiplier n k b losses stripe (Refused 12) stripe
      end_nothing h = nothing free (outcome_nothing stripe_multiplier multipliers n k b losses stripe bytes all_passed claims (checks h))

      module _ (there : t ≡ true) where
        columns : {a : Bool} → columns_hold k losses w ≡ a → columns_hold k losses (solved (coefficient stripe_multiplier) n k losses) ≡ a
        columns h = ap (columns_hold k losses) (sym ew) ∙ h

        pub end_several : columns_hold k losses w ≡ false → Rebuilds stripe_multiplier n k b losses stripe (Refused 11) stripe
        end_several h =
            several free (outcome_several stripe_multiplier multipliers n k b losses stripe bytes all_passed claims (checks there)
            (columns h))

        pub end_rebuilt : columns_hold k losses w ≡ true → (out : List ℕ) (count : ℕ) → out ≡ all_written n k b losses w stripe
            → count ≡ lost_count losses n → Rebuilds stripe_multiplier n k b losses stripe (Rebuilt count) out
        unfolding all_written
        end_rebuilt h out count eo ec =
            let o = outcome_rebuilt stripe_multiplier multipliers n k b losses stripe bytes all_passed claims (checks there) (columns h) in
            rw (ec, eo, ew) (rebuilt free o.0 _ o.1 o.2)
