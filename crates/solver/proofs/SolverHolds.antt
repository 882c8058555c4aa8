-- What is claimed of the solver holds. Assumes nothing.
use mathlib.Core.Path.{◌≡◌, refl, sym, ap, ◌∙◌}
use mathlib.Core.List.{List}
use mathlib.Core.Logic.{◌⊎◌, inl, inr}
use Prim.Native.Nat.{ℕ, ◌<◌}
use native.Mathlib.Decide.{ℕ_discrete}
use native.Mathlib.Omega.{arith}
use lib.ListN.{get_or}
use Rattle.gf256.specs.Field.{mul}
use Rattle.gf256.proofs.Product.{mul_zero_r, mul_zero_l}
use Rattle.elimination.proofs.RowLaws.{weighted_same}
use Rattle.elimination.proofs.Solutions.{no_value, weighted_zero}
use Rattle.solver.specs.declared.Column.{Column}
use Rattle.solver.specs.declared.Column.TheVariants.{FixedBy, OpenBy}
use Rattle.solver.specs.Losses.{Gives}
use Rattle.code.specs.Fixing.{encoded, Fixes}
use Rattle.solver.specs.Solution.{solved, column_of}
use Rattle.solver.specs.Claims.{Solvable, Found, fixed_by, open_by, SolverClaims}
use Rattle.solver.proofs.Encodings.{encoded_byte}
use Rattle.solver.proofs.LossLaws.{byte_lost}
use Rattle.solver.proofs.Checking.{checks_hold_law}
use Rattle.solver.proofs.Columns.{column_told}
use Rattle.solver.proofs.Counting.{too_many_lost}

module _ (co : ℕ → ℕ → ℕ) (n k : ℕ) (losses : List ℕ) (ok : Solvable co n k losses) where
  -- a column that is a combination of present blocks is zero in all null data
  pub gives_fixes : (c : ℕ) (u : ℕ → ℕ) → Gives co n k losses c u → Fixes co n k losses c
  gives_fixes c u g y null =
      sym (g.value y null.bytes) ∙ weighted_same n u no_value (encoded co k y) no_value (λ p hp. at p hp (ℕ_discrete (get_or losses p 0) 0))
      ∙ weighted_zero n no_value
    where
      at : (p : ℕ) → p < n → Dec (get_or losses p 0 ≡ 0) → mul (u p) (encoded co k y p) ≡ mul 0 0
      at p hp (yes e) = ap (mul (u p)) (null.present p hp e) ∙ mul_zero_r (u p) ∙ sym (mul_zero_r 0)
      at p hp (no d) =
          ap (λ (x : ℕ). mul x (encoded co k y p)) (g.over.lost p hp (byte_lost losses p (omega (arith, ok.flags p hp, d))))
          ∙ mul_zero_l (encoded co k y p) (encoded_byte co k ok.coefficients y null.bytes p (omega (arith, ok.rows)))
          ∙ sym (mul_zero_r 0)

  told_decides : (c : ℕ) (a : Column) → Found co n k losses (solved co n k losses) c a
      → ((i : ℕ) × (a ≡ FixedBy i) × Fixes co n k losses c) ⊎ ((f : ℕ) × (a ≡ OpenBy f) × (Fixes co n k losses c → ⊥))
  told_decides c a (fixed_by i hi g) = inl (i, refl, gives_fixes c _ g)
  told_decides c a (open_by f hf null before pos) = inr (f, refl, λ fixes. omega (arith, fixes _ null, pos))

  pub solver_holds : SolverClaims co n k losses
  solver_holds =
      record {
        checks = checks_hold_law co n k losses ok;
        column = column_told co n k losses ok;
        decides = λ c hc lost. told_decides c (column_of losses k (solved co n k losses) c) (column_told co n k losses ok c hc lost);
        too_many = too_many_lost co n k losses ok;
      }
