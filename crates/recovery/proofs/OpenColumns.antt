-- The present blocks fix every column, or null data are not zero in one of them. Assumes nothing.
use mathlib.Core.Path.{◌≡◌, refl, sym, ◌∙◌}
use mathlib.Core.List.{List}
use mathlib.Core.Bool.{Bool, true, false}
use mathlib.Core.Logic.{◌⊎◌, inl, inr}
use Prim.Native.Nat.{ℕ, zero, suc, ◌≤◌, ◌<◌}
use native.Mathlib.Nat.{eq-or-lt_of_le, le_of_suc-le-suc, le_refl}
use native.Mathlib.Omega.{arith}
use lib.ListN.{get_or}
use Rattle.code.specs.Agreement.{is_lost}
use Rattle.solver.specs.declared.Column.{Column}
use Rattle.code.specs.Fixing.{Null, Fixes}
use Rattle.solver.specs.Solution.{solved, column_of}
use Rattle.solver.specs.Claims.{Solvable, Found, fixed_by, open_by, SolverClaims}
use Rattle.solver.proofs.Encodings.{encoded_column}
use Rattle.solver.proofs.LossLaws.{present_byte}
use Rattle.solver.proofs.SolverHolds.{gives_fixes}

-- some null data are not zero in column c
abbrev pub Open : (ℕ → ℕ → ℕ) → ℕ → ℕ → List ℕ → ℕ → Type 0
Open co n k losses c = (v : ℕ → ℕ) × Null co n k losses v × (0 < v c)

-- a present column is fixed
pub present_fixes : (co : ℕ → ℕ → ℕ) (n k : ℕ) (losses : List ℕ) (c : ℕ) → c < k → c < n → get_or losses c 0 ≡ 0 → Fixes co n k losses c
present_fixes co n k losses c h l e y null = sym (encoded_column co k y c h) ∙ null.present c l e

module _ (co : ℕ → ℕ → ℕ) (n k : ℕ) (losses : List ℕ) (fit : Solvable co n k losses) (claims : SolverClaims co n k losses) where
  of_told : (c : ℕ) (x : Column) → Found co n k losses (solved co n k losses) c x → Fixes co n k losses c ⊎ Open co n k losses c
  of_told c x (fixed_by i l gives) = inl (gives_fixes co n k losses fit c _ gives)
  of_told c x (open_by f l null before some) = inr (_, null, some)

  of_column : (c : ℕ) → c < k → Fixes co n k losses c ⊎ Open co n k losses c
  of_column c h = go (is_lost losses c) refl
    where
      go : (t : Bool) → is_lost losses c ≡ t → Fixes co n k losses c ⊎ Open co n k losses c
      go true e = of_told c (column_of losses k (solved co n k losses) c) (claims.column c h e)
      go false e =
          let l : c < n = omega (arith, fit.columns) in inl (present_fixes co n k losses c h l (present_byte losses c (fit.flags c l) e))

  of_columns : (j : ℕ) → j ≤ k → ((c : ℕ) → c < j → Fixes co n k losses c) ⊎ ((c : ℕ) × (c < k) × Open co n k losses c)
  of_columns zero h = inl (λ c l. absurd (omega arith))
  of_columns (suc j) h = go (of_column j (omega arith)) (of_columns j (omega arith))
    where
      last : Fixes co n k losses j → ((c : ℕ) → c < j → Fixes co n k losses c) → (c : ℕ) → (c ≡ j) ⊎ (c < j) → Fixes co n k losses c
      last f all c (inl e) = rw e f
      last f all c (inr l) = all c l

      go : Fixes co n k losses j ⊎ Open co n k losses j → ((c : ℕ) → c < j → Fixes co n k losses c)
          ⊎ ((c : ℕ) × (c < k) × Open co n k losses c)
          → ((c : ℕ) → c < suc j → Fixes co n k losses c) ⊎ ((c : ℕ) × (c < k) × Open co n k losses c)
      go (inr o) r = inr (j, omega arith, o)
      go (inl f) (inr o) = inr o
      go (inl f) (inl all) = inl (λ c l. last f all c (eq-or-lt_of_le (le_of_suc-le-suc l)))

  pub fixes_or_open : ((c : ℕ) → c < k → Fixes co n k losses c) ⊎ ((c : ℕ) × (c < k) × Open co n k losses c)
  fixes_or_open = of_columns k (le_refl k)
