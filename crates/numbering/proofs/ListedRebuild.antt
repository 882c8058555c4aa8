-- What rebuild answers is listed: what refuses it before its blocks are looked at, 11 where several data sets agree with them, and 12 where
-- none does. Assumes nothing.
use mathlib.Core.Path.{refl}
use mathlib.Core.List.{List}
use Prim.Native.Nat.{ℕ, ◌≤◌}
use native.Mathlib.Omega.{arith}
use lib.ListN.{length}
use Rattle.recovery.specs.RebuildAnswer.{RebuildAnswer}
use Rattle.recovery.specs.Rebuild.{refusals, rebuild_refusal, Rebuilds, refused, rebuilt, several, nothing}
use Rattle.numbering.specs.Claims.{ListedRebuild}
use Rattle.numbering.proofs.Listed.{first_low}

module _ (m : ℕ → ℕ) (n k b : ℕ) (losses stripe : List ℕ) where
  early_low : rebuild_refusal n k b (length stripe) losses ≤ 13
  unfolding rebuild_refusal
  early_low = first_low (refusals n k b (length stripe) losses) refl

  pub rebuilds : (a : RebuildAnswer) (out : List ℕ) → Rebuilds m n k b losses stripe a out → ListedRebuild a
  rebuilds a out (refused some) = (some, early_low)
  rebuilds a out (rebuilt pass dataset left one encodes) = tt
  rebuilds a out (several pass two) = (omega arith, omega arith)
  rebuilds a out (nothing pass none) = (omega arith, omega arith)
