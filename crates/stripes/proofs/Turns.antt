-- Rows that are written one after the other leave every column: so each is made from the columns as they were lent. Assumes nothing.
use mathlib.Core.Path.{◌≡◌, ap, ◌∙◌}
use mathlib.Core.List.{List}
use mathlib.Core.Logic.{◌⊎◌, inl, inr}
use Prim.Native.Nat.{ℕ, ◌+◌, ◌≤◌, ◌<◌}
use native.Mathlib.Omega.{arith}
use lib.ListN.{length, get_or}
use Rattle.base.proofs.Runs.{run_start, run_keeps, run_turn}
use Rattle.area.specs.Area.{block, put}
use Rattle.area.proofs.Blocks.{block_put_other}
use Rattle.tiles.specs.Clear.{Clear}
use Rattle.combine.specs.Columns.{columns_at, Inside}
use Rattle.code.proofs.Laws.{length_parity_row, parity_row_same}
use Rattle.stripes.specs.Stripes.{Apart, Stripe, row_of, with_rows}

beside_clear : (b u v : ℕ) → Apart b u v → (v ≤ u) ⊎ (u + b ≤ v)
beside_clear b u v (inl h) = inr h
beside_clear b u v (inr h) = inl (omega arith)

pub rows_start : (m : ℕ → ℕ) (at : List ℕ) (b k : ℕ) (lent : List ℕ) → lent ≡ with_rows m at b k 0 lent
unfolding with_rows
rows_start m at b k lent = run_start _ lent

module _ (at : List ℕ) (k r b : ℕ) (lent : List ℕ) (s : Inside at (k + r) b lent) where
  pub columns_inside : {area : List ℕ} → length area ≡ length lent → Inside at k b area
  columns_inside same = record { count = omega (arith, s.count); fits = λ c l. rw same (s.fits c (omega arith)) }

  pub row_fits : (area : List ℕ) → length area ≡ length lent → (j : ℕ) → j < r → get_or at (k + j) 0 + b ≤ length area
  row_fits area same j l = rw same (s.fits (k + j) (omega arith))

module _ (at : List ℕ) (k r b : ℕ) (lent : List ℕ) (s : Stripe at k r b lent) where
  pub row_clear : (j : ℕ) → j < r → Clear at k (get_or at (k + j) 0) b
  row_clear j l = record { each = λ c u. beside_clear b (get_or at c 0) (get_or at (k + j) 0) (s.beside c j u l) }

  -- a column after the first n rows
  column_kept : (m : ℕ → ℕ) (n c : ℕ) → n ≤ r → c < k → columns_at at (with_rows m at b k n lent) b c ≡ columns_at at lent b c
  unfolding columns_at with_rows
  column_kept m n c few l =
      run_keeps _ (λ e. block e (get_or at c 0) b) 0 n lent
      (λ q e w u. block_put_other e (get_or at (k + q) 0) (get_or at c 0) b (row_of m at b k lent q)
      (rw (length_parity_row m b k q (columns_at at lent b)) (s.beside c q l (omega arith))))

  -- row j after the rows before it, from the columns as they are now
  pub row_turn : (m : ℕ → ℕ) (j : ℕ) → j < r → {area after : List ℕ} → area ≡ with_rows m at b k j lent
      → after ≡ put area (get_or at (k + j) 0) (row_of m at b k area j) → after ≡ with_rows m at b k (j + 1) lent
  unfolding with_rows
  row_turn m j l {area} {after} before made =
      run_turn (λ q a. put a (get_or at (k + q) 0) (row_of m at b k lent q)) j lent before (made ∙ ap (put area (get_or at (k + j) 0)) same)
    where
      same : row_of m at b k area j ≡ row_of m at b k lent j
      same = parity_row_same m b k j (columns_at at area b) (columns_at at lent b)
          (λ c u. ap (λ (e : List ℕ). columns_at at e b c) before ∙ column_kept m j c (omega arith) u)
