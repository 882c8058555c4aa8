-- Where every lost column passes its test, each is the combination that is written, and all columns are fixed; else one is open. Assumes
-- nothing.
use mathlib.Core.Path.{◌≡◌, refl, sym, ◌∙◌}
use mathlib.Core.List.{List}
use mathlib.Core.Bool.{Bool, true, false, false≢true}
use Prim.Native.Nat.{ℕ, ◌<◌}
use native.Mathlib.Omega.{arith}
use lib.ListN.{get_or}
use Rattle.base.specs.Tests.{if}
use Rattle.base.proofs.Tests.{every_at, every_false}
use Rattle.area.specs.Area.{slot}
use Rattle.area.proofs.Slots.{length_slot}
use Rattle.code.specs.Rows.{coefficient}
use Rattle.code.specs.Agreement.{Agrees, is_lost}
use Rattle.solver.specs.declared.Column.{Column}
use Rattle.solver.specs.Losses.{Gives}
use Rattle.code.specs.Fixing.{Fixes}
use Rattle.solver.specs.Solution.{solved, row_without, null_vector, column_of}
use Rattle.solver.specs.Claims.{Solvable, Found, fixed_by, open_by, SolverClaims}
use Rattle.rebuild.specs.Steps.{combined_blocks, is_fixed, fixing_row, column_holds, columns_hold}
use Rattle.elimination.proofs.RowLaws.{ByteList}
use Rattle.solver.proofs.LossLaws.{present_byte}
use Rattle.solver.proofs.SolverHolds.{gives_fixes}
use Rattle.recovery.proofs.Vectors.{vector, block_ext}
use Rattle.recovery.proofs.Agreements.{agrees_matches}
use Rattle.recovery.proofs.CheckSums.{over_agreeing}
use Rattle.recovery.proofs.OpenColumns.{Open, present_fixes}
use Rattle.rebuild.proofs.Combined.{length_combined_blocks, combined_byte}

-- ---- what is told of a lost column

module _ (co : ℕ → ℕ → ℕ) (n k : ℕ) (losses w : List ℕ) (c : ℕ) where
  told_fixed : (x : Column) → Found co n k losses w c x → is_fixed x ≡ true
      → Gives co n k losses c (λ p. get_or (row_without w (fixing_row x) c) p 0)
  told_fixed x (fixed_by i l gives) e = gives
  told_fixed x (open_by f l null before some) e = absurd (false≢true e)

  told_open : (x : Column) → Found co n k losses w c x → is_fixed x ≡ false → Open co n k losses c
  told_open x (fixed_by i l gives) e = absurd (false≢true (sym e))
  told_open x (open_by f l null before some) e = (λ p. get_or (null_vector losses k w f) p 0, null, some)

module _ (k : ℕ) (losses w : List ℕ) where
  holds_fixed : columns_hold k losses w ≡ true → (c : ℕ) → c < k → is_lost losses c ≡ true → is_fixed (column_of losses k w c) ≡ true
  unfolding columns_hold column_holds
  holds_fixed t c h e = go (is_lost losses c) e (every_at k (column_holds k losses w) t c h)
    where
      go : (a : Bool) → a ≡ true → if a (is_fixed (column_of losses k w c)) true ≡ true → is_fixed (column_of losses k w c) ≡ true
      go true q x = x
      go false q x = absurd (false≢true q)

  fails_open : columns_hold k losses w ≡ false → (c : ℕ) × (c < k) × (is_lost losses c ≡ true) × (is_fixed (column_of losses k w c) ≡ false)
  unfolding columns_hold column_holds
  fails_open t = let f = every_false k (column_holds k losses w) t in go f.0 f.1 (is_lost losses f.0) refl f.2
    where
      go : (c : ℕ) → c < k → (a : Bool) → is_lost losses c ≡ a → if a (is_fixed (column_of losses k w c)) true ≡ false
          → (c : ℕ) × (c < k) × (is_lost losses c ≡ true) × (is_fixed (column_of losses k w c) ≡ false)
      go c h true q x = (c, h, q, x)
      go c h false q x = absurd (false≢true (sym x))

-- the coefficients that column c is written by
abbrev pub giving : (ℕ → ℕ → ℕ) → ℕ → ℕ → List ℕ → ℕ → List ℕ
giving co n k losses c = row_without (solved co n k losses) (fixing_row (column_of losses k (solved co n k losses) c)) c

module _ (co : ℕ → ℕ → ℕ) (n k : ℕ) (losses : List ℕ) (claims : SolverClaims co n k losses) where
  abbrev w : List ℕ
  w = solved co n k losses

  pub column_given : columns_hold k losses w ≡ true → (c : ℕ) → c < k → is_lost losses c ≡ true
      → Gives co n k losses c (λ p. get_or (giving co n k losses c) p 0)
  column_given t c h e = told_fixed co n k losses w c (column_of losses k w c) (claims.column c h e) (holds_fixed k losses w t c h e)

  pub column_open : columns_hold k losses w ≡ false → (c : ℕ) × (c < k) × Open co n k losses c
  column_open t =
      let f = fails_open k losses w t in
      (f.0, f.1, told_open co n k losses w f.0 (column_of losses k w f.0) (claims.column f.0 f.1 f.2) f.3)

  pub columns_fixed : Solvable co n k losses → columns_hold k losses w ≡ true → (c : ℕ) → c < k → Fixes co n k losses c
  columns_fixed fit t c h = go (is_lost losses c) refl
    where
      go : (a : Bool) → is_lost losses c ≡ a → Fixes co n k losses c
      go true e = gives_fixes co n k losses fit c _ (column_given t c h e)
      go false e =
          let l : c < n = omega (arith, fit.columns) in present_fixes co n k losses c h l (present_byte losses c (fit.flags c l) e)

-- ---- a lost column of data that agree

module _ (m : ℕ → ℕ) (n k b : ℕ) (losses stripe : List ℕ) (bytes : ByteList stripe) (fit : Solvable (coefficient m) n k losses)
    (claims : SolverClaims (coefficient m) n k losses) (t : columns_hold k losses (solved (coefficient m) n k losses) ≡ true) where
  abbrev row : ℕ → List ℕ
  row = giving (coefficient m) n k losses

  pub column_value : (d : List ℕ) → Agrees m n k b losses stripe d → (c : ℕ) → c < k → is_lost losses c ≡ true
      → combined_blocks b n (giving (coefficient m) n k losses c) stripe ≡ slot d b c
  column_value d agrees c h e =
      let gives = column_given (coefficient m) n k losses claims t c h e in
      block_ext b (combined_blocks b n (row c) stripe) (slot d b c) (length_combined_blocks b n (row c) stripe) (length_slot d b c) (λ a l.
      combined_byte b n (row c) stripe a
      ∙ over_agreeing m n k b losses stripe bytes fit _ gives.over d agrees a l
      ∙ gives.value (vector b d a) (agrees_matches m n k b losses stripe d agrees a l).bytes)
