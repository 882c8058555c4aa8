-- What is claimed of rebuild beyond its contract. Assumes nothing.
use mathlib.Core.Path.{◌≡◌}
use mathlib.Core.List.{List}
use mathlib.Core.Logic.{◌⊎◌, inl, inr}
use Prim.Native.Nat.{ℕ, ◌<◌}
use native.Mathlib.Decide.{ℕ_discrete}
use native.Mathlib.Omega.{arith}
use lib.ListN.{length, get_or}
use Rattle.code.specs.Rows.{coefficient}
use Rattle.code.specs.Agreement.{Agrees, lost_count}
use Rattle.solver.specs.Claims.{Solvable, SolverClaims}
use Rattle.solver.proofs.SolverHolds.{solver_holds}
use Rattle.recovery.specs.RebuildAnswer.{RebuildAnswer}
use Rattle.recovery.specs.RebuildAnswer.{Rebuilt, Refused}
use Rattle.recovery.specs.Rebuild.{rebuild_refusal, None, Rebuilds, refused, rebuilt, several, nothing}
use Rattle.recovery.specs.Claims.{RebuildClaims, RebuildHolds}
use Rattle.code.specs.Fixing.{FixesAll}
use Rattle.recovery.proofs.Passed.{passed, solvable}
use Rattle.recovery.proofs.CheckSums.{some_or_none}
use Rattle.recovery.proofs.OpenColumns.{Open, fixes_or_open}
use Rattle.recovery.proofs.Outcomes.{only_one, another, encoding, encoding_encodes}
use Rattle.recovery.proofs.Determined.{determined, present_same}
use Rattle.recovery.proofs.DifferenceLaws.{differences_hold}
use Rattle.recovery.proofs.TrueData.{of_true_holds}
use Rattle.recovery.proofs.NoLoss.{none_lost_holds, all_lost_holds}

module _ (m : ℕ → ℕ) (multipliers : (j : ℕ) → j < 4 → m j < 256) (n k b : ℕ) (losses stripe : List ℕ)
    (bytes : (a : ℕ) → get_or stripe a 0 < 256) where
  claims : rebuild_refusal n k b (length stripe) losses ≡ 0 → SolverClaims (coefficient m) n k losses
  claims e = solver_holds (coefficient m) n k losses (solvable m multipliers n k b losses stripe (passed n k b losses stripe e))

  -- some answer fits
  abbrev Answered : Type 0
  Answered = (a : RebuildAnswer) × (out : List ℕ) × Rebuilds m n k b losses stripe a out

  passes : rebuild_refusal n k b (length stripe) losses ≡ 0 → Answered
  passes e = go (some_or_none m n k b losses stripe bytes fit (claims e)) (fixes_or_open (coefficient m) n k losses fit (claims e))
    where
      fit : Solvable (coefficient m) n k losses
      fit = solvable m multipliers n k b losses stripe (passed n k b losses stripe e)

      b0 : 0 < b
      b0 = (passed n k b losses stripe e).some_byte

      go : ((d : List ℕ) × Agrees m n k b losses stripe d) ⊎ None m n k b losses stripe
          → FixesAll m n k losses ⊎ ((c : ℕ) × (c < k) × Open (coefficient m) n k losses c) → Answered
      go (inr none) f = (Refused 12, stripe, nothing e none)
      go (inl s) (inr o) = (Refused 11, stripe, several e (another m n k b losses stripe b0 s.0 s.1 o.0 o.1 o.2))
      go (inl s) (inl fixes) = (
        Rebuilt (lost_count losses n),
        encoding m n k b s.0,
        rebuilt e s.0 _ (only_one m n k b losses stripe b0 s.0 s.1 fixes) (encoding_encodes m n k b s.0),
      )

  answered : Answered
  answered =
      elim (ℕ_discrete (rebuild_refusal n k b (length stripe) losses) 0)
      [ yes e ↦ passes e | no e ↦ (Refused (rebuild_refusal n k b (length stripe) losses), stripe, refused (omega arith)) ]

  claimed : RebuildClaims m n k b losses stripe
  claimed =
      record {
        some = answered;
        one = determined m n k b losses stripe;
        present = present_same m n k b losses stripe;
        differences = differences_hold m n k b losses stripe;
        of_true = λ e d agrees. of_true_holds m n k b losses stripe e d agrees (claims e);
        none_lost_law = λ e none. none_lost_holds m n k b losses stripe e none bytes;
        all_lost_law = λ e all. all_lost_holds m n k b losses stripe e (claims e) all;
      }

pub rebuild_holds : RebuildHolds
rebuild_holds = claimed
