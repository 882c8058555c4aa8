-- What the functions that only read rely on: the count of losses, and the checks. Assumes nothing.
use mathlib.Core.Path.{◌≡◌, refl, sym, ap, ◌∙◌}
use mathlib.Core.List.{List}
use mathlib.Core.Bool.{Bool, true, false}
use Prim.Native.Nat.{ℕ, zero, suc, ◌+◌, ◌≤◌, ◌<◌}
use native.Mathlib.Nat.{add-zero}
use native.Mathlib.Numerals.{add-one}
use native.Mathlib.Omega.{arith}
use lib.Dec.{eqb}
use lib.ListN.{length, get_or, take}
use Rattle.std.specs.Prelude.{Option}
use Rattle.std.specs.List.{count_by}
use Rattle.std.proofs.lemmas.List.Sums.{count_by_more_yes, count_by_more_no}
use Rattle.base.specs.Folds.{sum, indicator}
use Rattle.base.proofs.Tests.{every_same}
use Rattle.area.specs.Area.{zeros, same_bytes}
use Rattle.code.specs.Agreement.{is_lost, lost_count}
use Rattle.solver.specs.Solution.{Pivots, check_by}
use Rattle.solver.proofs.PivotRows.{check_row_law}
use Rattle.rebuild.specs.Steps.{combined_blocks, check_holds, checks_hold, checks_by}

-- ---- the count of losses

module _ (losses : List ℕ) where
  lost_more : (p : ℕ) (t : Bool) → p < length losses → eqb (get_or losses p 0) 1 ≡ t
      → count_by (λ x. eqb x 1) (take (suc p) losses) ≡ count_by (λ x. eqb x 1) (take p losses) + indicator t
  lost_more p true h e = rw (add-one p) at (count_by_more_yes (λ x. eqb x 1) losses p 0 h e)
  lost_more p false h e = rw (add-one p) at (count_by_more_no (λ x. eqb x 1) losses p 0 h e) ∙ sym (add-zero _)

  pub lost_counted : (n : ℕ) → n ≤ length losses → count_by (λ x. eqb x 1) (take n losses) ≡ lost_count losses n
  unfolding lost_count sum is_lost
  lost_counted zero h = refl
  lost_counted (suc n) h =
      lost_more n (eqb (get_or losses n 0) 1) (omega arith) refl
      ∙ ap (λ (x : ℕ). x + indicator (eqb (get_or losses n 0) 1)) (lost_counted n (omega arith))

-- ---- a check by its coefficients, and all checks by the rows' pivots

pub check_told : (n b : ℕ) (pivots : List (Option ℕ)) (w stripe : List ℕ) (i : ℕ) {u : List ℕ} {t : Bool}
    → u ≡ check_by pivots w i → t ≡ same_bytes (zeros b) (combined_blocks b n u stripe)
    → t ≡ same_bytes (zeros b) (combined_blocks b n (check_by pivots w i) stripe)
check_told n b pivots w stripe i {u} {t} e h = h ∙ ap (λ (x : List ℕ). same_bytes (zeros b) (combined_blocks b n x stripe)) e

pub checks_told : (n k b : ℕ) (losses w stripe : List ℕ) {pivots : List (Option ℕ)} {t : Bool}
    → Pivots losses k w pivots → t ≡ checks_by n b pivots w stripe → t ≡ checks_hold n k b losses w stripe
unfolding checks_by checks_hold check_holds
checks_told n k b losses w stripe {pivots} {t} p h =
    h ∙ every_same 4 (λ i. same_bytes (zeros b) (combined_blocks b n (check_by pivots w i) stripe)) (check_holds n k b losses w stripe)
    (λ i l. ap (λ (x : List ℕ). same_bytes (zeros b) (combined_blocks b n x stripe)) (check_row_law losses k w p i l))
