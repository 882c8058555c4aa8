-- The test of the solver's checks, and that they vanish. Assumes nothing.
use mathlib.Core.Path.{◌≡◌, sym}
use mathlib.Core.List.{List}
use mathlib.Core.Bool.{true}
use Prim.Native.Nat.{ℕ, ◌<◌}
use Rattle.base.proofs.Tests.{every_at, every_intro}
use Rattle.area.specs.Area.{zeros}
use Rattle.area.proofs.Blocks.{same_bytes_eq, same_bytes_refl}
use Rattle.code.specs.Rows.{coefficient}
use Rattle.solver.specs.Solution.{solved}
use Rattle.recovery.proofs.CheckSums.{check_sum}
use Rattle.rebuild.specs.Steps.{combined_blocks, check_holds, checks_hold}

module _ (m : ℕ → ℕ) (n k b : ℕ) (losses stripe : List ℕ) where
  abbrev w : List ℕ
  w = solved (coefficient m) n k losses

  pub checks_zero : checks_hold n k b losses w stripe ≡ true → (i : ℕ) → i < 4 → check_sum m n k b losses stripe i ≡ zeros b
  unfolding checks_hold check_holds combined_blocks
  checks_zero t i h = sym (same_bytes_eq (zeros b) (check_sum m n k b losses stripe i)
      (every_at 4 (check_holds n k b losses w stripe) t i h))

  pub zero_checks : ((i : ℕ) → i < 4 → check_sum m n k b losses stripe i ≡ zeros b) → checks_hold n k b losses w stripe ≡ true
  unfolding checks_hold check_holds combined_blocks
  zero_checks e = every_intro 4 (check_holds n k b losses w stripe) (λ i h. rw (e i h) (same_bytes_refl (zeros b)))
