-- The check matrix: every encoding solves it, and what solves it is an encoding where rows are present. Assumes nothing.
use mathlib.Core.Path.{◌≡◌, refl, sym, ap, ap₂, ◌∙◌}
use mathlib.Core.List.{List}
use mathlib.Core.Bool.{Bool, true, false, ◌&&◌}
use Prim.Native.Nat.{ℕ, ◌+◌, ◌-◌, ◌/◌, ◌%◌, ◌<◌}
use native.Mathlib.Decide.{ℕ_discrete, dec_lt}
use native.Mathlib.Omega.{arith}
use lib.Bits.{bit_xor, xor_self}
use lib.ListN.{get_or}
use lib.Dec.{eqb, ltb}
use borrow.Author.Tests.{eq-eqb, ne_eqb, lt-ltb, le-ltb}
use Rattle.base.specs.Tests.{if}
use Rattle.base.proofs.Choice.{if_true, if_false}
use Rattle.base.proofs.Tables.{table_same, table_small}
use Rattle.gf256.specs.Field.{◌⊕◌, mul, Bytes, xor_sum}
use Rattle.gf256.proofs.Xor.{xor_none}
use Rattle.gf256.proofs.Product.{mul_zero_l, mul_one_l}
use Rattle.gf256.proofs.Sums.{xor_sum_same, xor_sum_zero, xor_sum_add}
use Rattle.code.specs.Agreement.{is_lost}
use Rattle.elimination.specs.Matrix.{entry, weighted, reduced}
use Rattle.elimination.proofs.RowLaws.{ByteList, Solves, entry_table, xor_sum_single, weighted_same}
use Rattle.elimination.proofs.Reduced.{SameSolutions, CleanBelow, reduced_keeps, reduced_clean}
use Rattle.code.specs.Fixing.{encoded}
use Rattle.solver.specs.Claims.{Solvable}
use Rattle.solver.proofs.Encodings.{encoded_column, encoded_row, encoded_byte}
use Rattle.solver.specs.Solution.{check_entry, check_matrix, solved}

-- it reads the coefficients of the k columns alone
pub solved_same : (co di : ℕ → ℕ → ℕ) (n k : ℕ) (losses : List ℕ) → ((j c : ℕ) → j < 4 → c < k → co j c ≡ di j c)
    → solved co n k losses ≡ solved di n k losses
unfolding solved check_matrix check_entry
solved_same co di n k losses h =
    ap (reduced (is_lost losses) k) (table_same 80 (λ a. check_entry co n k losses (a / 20) (a % 20))
    (λ a. check_entry di n k losses (a / 20) (a % 20)) (λ a l. each (a / 20) (a % 20) (omega arith) (dec_lt (a % 20) k)))
  where
    each : (j p : ℕ) → j < 4 → Dec (p < k) → check_entry co n k losses j p ≡ check_entry di n k losses j p
    each j p hj (yes l) =
        ap (λ (x : ℕ). if (ltb (k + j) n && eqb (get_or losses (k + j) 0) 0) (if (ltb p k) x (if (eqb p (k + j)) 1 0)) 0) (h j p hj l)
    each j p hj (no l) = rw (le-ltb p k (omega arith)) refl

module _ (co : ℕ → ℕ → ℕ) (n k : ℕ) (losses : List ℕ) (ok : Solvable co n k losses) where
  pub check_bytes : ByteList (check_matrix co n k losses)
  unfolding check_matrix check_entry
  check_bytes a =
      table_small 80 256 (λ a. check_entry co n k losses (a / 20) (a % 20)) (omega arith) (λ a h. each (a / 20) (a % 20) (omega arith)) a
    where
      pick : (t : Bool) (x y : ℕ) → x < 256 → y < 256 → if t x y < 256
      pick true x y hx hy = hx
      pick false x y hx hy = hy

      each : (j p : ℕ) → j < 4 → check_entry co n k losses j p < 256
      each j p hj =
          pick (ltb (k + j) n && eqb (get_or losses (k + j) 0) 0) (if (ltb p k) (co j p) (if (eqb p (k + j)) 1 0)) 0
          (pick (ltb p k) (co j p) (if (eqb p (k + j)) 1 0) (ok.coefficients j p hj)
          (pick (eqb p (k + j)) 1 0 (omega arith) (omega arith))) (omega arith)

  pub entry_check : (j p : ℕ) → j < 4 → p < 20 → entry (check_matrix co n k losses) j p ≡ check_entry co n k losses j p
  unfolding check_matrix
  entry_check j p hj hp = entry_table (check_entry co n k losses) j p hj hp

  -- row j, whose block is there
  module _ (j : ℕ) (hj : k + j < n) (there : get_or losses (k + j) 0 ≡ 0) where
    on : (ltb (k + j) n && eqb (get_or losses (k + j) 0) 0) ≡ true
    on = rw (lt-ltb (k + j) n hj, eq-eqb (get_or losses (k + j) 0) 0 there)

    check_column : (p : ℕ) → p < k → check_entry co n k losses j p ≡ co j p
    unfolding check_entry
    check_column p h = if_true _ _ _ on ∙ if_true _ _ _ (lt-ltb p k h)

    pub check_row_law : (m : ℕ) → check_entry co n k losses j (k + m) ≡ if (eqb (k + m) (k + j)) 1 0
    unfolding check_entry
    check_row_law m = if_true _ _ _ on ∙ if_false _ _ _ (le-ltb (k + m) k (omega arith))

    j_lt : j < 4
    j_lt = omega (arith, ok.rows)

    pub check_sum_law : (y : ℕ → ℕ) → Bytes y → weighted n (entry (check_matrix co n k losses) j) y ≡ xor_sum k (λ c. mul (co j c) (y c))
        ⊕ y (k + j)
    unfolding weighted
    check_sum_law y hy =
        ap (λ (x : ℕ). xor_sum x (λ p. mul (entry (check_matrix co n k losses) j p) (y p))) (let e : n ≡ k + (n - k) = omega arith in e)
        ∙ xor_sum_add k (n - k) (λ p. mul (entry (check_matrix co n k losses) j p) (y p))
        ∙ ap₂ bit_xor
        (xor_sum_same k (λ p. mul (entry (check_matrix co n k losses) j p) (y p)) (λ c. mul (co j c) (y c))
        (λ p hp. ap (λ (x : ℕ). mul x (y p)) (entry_check j p j_lt (omega (arith, ok.blocks)) ∙ check_column p hp)))
        (xor_sum_single (n - k) (λ m. mul (entry (check_matrix co n k losses) j (k + m)) (y (k + m))) j (omega arith) off ∙ at)
      where
        off : (m : ℕ) → m < n - k → (m ≡ j → ⊥) → mul (entry (check_matrix co n k losses) j (k + m)) (y (k + m)) ≡ 0
        off m h d =
            ap (λ (x : ℕ). mul x (y (k + m))) (entry_check j (k + m) j_lt (omega (arith, ok.blocks)) ∙ check_row_law m
            ∙ if_false _ _ _ (ne_eqb (k + m) (k + j) (λ e. d (omega arith))))
            ∙ mul_zero_l (y (k + m)) (hy (k + m))

        at : mul (entry (check_matrix co n k losses) j (k + j)) (y (k + j)) ≡ y (k + j)
        at =
            ap (λ (x : ℕ). mul x (y (k + j))) (entry_check j (k + j) j_lt (omega (arith, ok.blocks)) ∙ check_row_law j
            ∙ if_true _ _ _ (eq-eqb (k + j) (k + j) refl))
            ∙ mul_one_l (y (k + j)) (hy (k + j))

  -- a row that is not there says nothing
  pub idle_entry : (j p : ℕ) → j < 4 → p < 20 → (ltb (k + j) n && eqb (get_or losses (k + j) 0) 0) ≡ false
      → entry (check_matrix co n k losses) j p ≡ 0
  unfolding check_entry
  idle_entry j p hj hp off = entry_check j p hj hp ∙ if_false _ _ _ off

  check_idle : (j : ℕ) → j < 4 → (ltb (k + j) n && eqb (get_or losses (k + j) 0) 0) ≡ false → (y : ℕ → ℕ) → Bytes y
      → weighted n (entry (check_matrix co n k losses) j) y ≡ 0
  unfolding weighted
  check_idle j hj off y hy =
      xor_sum_same n (λ p. mul (entry (check_matrix co n k losses) j p) (y p)) (λ p. 0)
      (λ p hp. ap (λ (x : ℕ). mul x (y p)) (idle_entry j p hj (omega (arith, ok.blocks)) off) ∙ mul_zero_l (y p) (hy p))
      ∙ xor_sum_zero n

  -- the encoding of y, and 0 past the last block
  pub word : (ℕ → ℕ) → ℕ → ℕ
  word y p = if (ltb p n) (encoded co k y p) 0

  pub word_at : (y : ℕ → ℕ) (p : ℕ) → p < n → word y p ≡ encoded co k y p
  unfolding word
  word_at y p h = if_true (ltb p n) (encoded co k y p) 0 (lt-ltb p n h)

  pub word_bytes : (y : ℕ → ℕ) → Bytes y → Bytes (word y)
  unfolding word
  word_bytes y hy p = go (dec_lt p n)
    where
      go : Dec (p < n) → word y p < 256
      go (yes l) = rw (word_at y p l) (encoded_byte co k ok.coefficients y hy p (omega (arith, ok.rows)))
      go (no l) = rw (le-ltb p n (omega arith)) (omega arith)

  pub weighted_word : (u y : ℕ → ℕ) → weighted n u (word y) ≡ weighted n u (encoded co k y)
  weighted_word u y = weighted_same n u u (word y) (encoded co k y) (λ p hp. ap (mul (u p)) (word_at y p hp))

  -- every encoding solves the check matrix
  pub word_solves : (y : ℕ → ℕ) → Bytes y → Solves n (check_matrix co n k losses) (word y)
  word_solves y hy j hj = go (dec_lt (k + j) n) (ℕ_discrete (get_or losses (k + j) 0) 0)
    where
      sum : xor_sum k (λ c. mul (co j c) (word y c)) ≡ xor_sum k (λ c. mul (co j c) (y c))
      sum =
          xor_sum_same k (λ c. mul (co j c) (word y c)) (λ c. mul (co j c) (y c))
          (λ c hc. ap (mul (co j c)) (word_at y c (omega (arith, ok.columns)) ∙ encoded_column co k y c hc))

      go : Dec (k + j < n) → Dec (get_or losses (k + j) 0 ≡ 0) → weighted n (entry (check_matrix co n k losses) j) (word y) ≡ 0
      go (yes l) (yes e) =
          check_sum_law j l e (word y) (word_bytes y hy)
          ∙ ap₂ bit_xor sum (word_at y (k + j) l ∙ encoded_row co k y j)
          ∙ xor_self (xor_sum k (λ c. mul (co j c) (y c)))
      go (yes l) (no e) = check_idle j hj (rw (lt-ltb (k + j) n l) (ne_eqb (get_or losses (k + j) 0) 0 e)) (word y) (word_bytes y hy)
      go (no l) e = check_idle j hj (rw (le-ltb (k + j) n (omega arith)) refl) (word y) (word_bytes y hy)

  -- and what solves it is the encoding of its columns, at the rows that are present
  pub solves_row : (v : ℕ → ℕ) → Bytes v → Solves n (check_matrix co n k losses) v → (j : ℕ) → k + j < n → get_or losses (k + j) 0 ≡ 0
      → encoded co k v (k + j) ≡ v (k + j)
  solves_row v hv s j hj there = encoded_row co k v j ∙ xor_none _ _ (sym (check_sum_law j hj there v hv) ∙ s j (omega (arith, ok.rows)))

  -- ---- the solved matrix

  pub solved_keeps : SameSolutions n (check_matrix co n k losses) (solved co n k losses)
  unfolding solved
  solved_keeps =
      reduced_keeps (is_lost losses) k n (check_matrix co n k losses) (omega (arith, ok.columns, ok.blocks)) ok.blocks check_bytes

  pub solved_clean : CleanBelow (is_lost losses) k (solved co n k losses) 4
  unfolding solved
  solved_clean = reduced_clean (is_lost losses) k (check_matrix co n k losses) (omega (arith, ok.columns, ok.blocks)) check_bytes
