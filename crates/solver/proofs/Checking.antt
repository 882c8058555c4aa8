-- The rows without a pivot are the checks. Assumes nothing.
use mathlib.Core.Path.{◌≡◌, refl, sym, ap, ◌∙◌}
use mathlib.Core.List.{List}
use mathlib.Core.Bool.{Bool, true, false}
use mathlib.Core.Logic.{inl, inr}
use Prim.Native.Nat.{ℕ, ◌+◌, ◌-◌, ◌<◌, ◌≤◌}
use native.Mathlib.Decide.{ℕ_discrete, dec_lt}
use native.Mathlib.Omega.{arith}
use lib.ListN.{get_or}
use lib.Dec.{eqb}
use borrow.Author.Tests.{eq-eqb, ne_eqb, lt-ltb, le-ltb}
use Rattle.base.specs.Tests.{if}
use Rattle.base.proofs.Choice.{if_true, if_false}
use Rattle.base.specs.Folds.{table}
use Rattle.base.proofs.Tables.{table_at, table_small}
use Rattle.gf256.specs.Field.{mul, Bytes}
use Rattle.gf256.proofs.Product.{mul_zero_l}
use Rattle.code.specs.Agreement.{is_lost}
use Rattle.elimination.specs.Matrix.{entry, weighted, pivot_of}
use Rattle.elimination.proofs.RowLaws.{ByteList, Solves, entry_lt, weighted_same}
use Rattle.elimination.proofs.Pivots.{None, pivot_cases}
use Rattle.elimination.proofs.Solutions.{no_value, weighted_zero, fix_rows, fix_lt, fix_known, fix_solves}
use Rattle.elimination.proofs.Zeros.{ZeroPlace, reduced_place}
use Rattle.solver.specs.Losses.{OverPresent, Checks}
use Rattle.code.specs.Fixing.{encoded, Matches}
use Rattle.solver.specs.Claims.{Solvable}
use Rattle.solver.specs.Solution.{check_matrix, solved, check_row}
use Rattle.solver.proofs.LossLaws.{lost_byte}
use Rattle.solver.proofs.Encodings.{encoded_column, encoded_byte}
use Rattle.solver.proofs.CheckMatrix.{entry_check, idle_entry, check_row_law, word, word_bytes, word_solves, weighted_word, solves_row}
use Rattle.solver.proofs.CheckMatrix.{solved_keeps, solved_clean}

-- ---- a list of twenty values

pub twenty_bytes : (f : ℕ → ℕ) → ((p : ℕ) → p < 20 → f p < 256) → Bytes (λ p. get_or (table 20 f) p 0)
twenty_bytes f h = table_small 20 256 f (omega arith) h

module _ (co : ℕ → ℕ → ℕ) (n k : ℕ) (losses : List ℕ) (ok : Solvable co n k losses) where
  abbrev w : List ℕ
  w = solved co n k losses

  pub solved_bytes : ByteList w
  solved_bytes = (solved_keeps co n k losses ok).bytes

  kn : k ≤ n
  kn = omega (arith, ok.columns)

  -- the place of a lost row is 0 in every row of the solved matrix
  pub lost_row : (j : ℕ) → k + j < n → is_lost losses (k + j) ≡ true → ZeroPlace w (k + j)
  unfolding solved
  lost_row j hj lost =
      reduced_place (is_lost losses) k (omega (arith, ok.columns, ok.blocks)) (check_matrix co n k losses) (k + j)
      (omega (arith, ok.blocks))
      (λ i hi. at i hi (dec_lt (k + i) n) (ℕ_discrete (get_or losses (k + i) 0) 0))
    where
      at : (i : ℕ) → i < 4 → Dec (k + i < n) → Dec (get_or losses (k + i) 0 ≡ 0) → entry (check_matrix co n k losses) i (k + j) ≡ 0
      at i hi (yes l) (yes e) =
          entry_check co n k losses ok i (k + j) hi (omega (arith, ok.blocks)) ∙ check_row_law co n k losses ok i l e j
          ∙ if_false _ _ _ (ne_eqb (k + j) (k + i)
          (λ x. omega (arith, lost_byte losses (k + j) lost, (let s : get_or losses (k + j) 0 ≡ 0 = rw x e in s))))
      at i hi (yes l) (no e) =
          idle_entry co n k losses ok i (k + j) hi (omega (arith, ok.blocks))
          (rw (lt-ltb (k + i) n l) (ne_eqb (get_or losses (k + i) 0) 0 e))
      at i hi (no l) e = idle_entry co n k losses ok i (k + j) hi (omega (arith, ok.blocks)) (rw (le-ltb (k + i) n (omega arith)) refl)

  -- a row whose lost columns are 0 but for place c is 0 at every lost block other than c
  pub lost_zero : (i c : ℕ) → i < 4 → ((p : ℕ) → p < k → (p ≡ c → ⊥) → is_lost losses p ≡ true → entry w i p ≡ 0)
      → (p : ℕ) → p < n → (p ≡ c → ⊥) → is_lost losses p ≡ true → entry w i p ≡ 0
  lost_zero i c hi columns p hp d lost = go (dec_lt p k)
    where
      go : Dec (p < k) → entry w i p ≡ 0
      go (yes l) = columns p l d lost
      go (no l) = let e : k + (p - k) ≡ p = omega arith in rw (← e) (lost_row (p - k) (omega arith) (rw e lost) i hi)

  -- every row of the solved matrix vanishes for every encoding
  pub row_vanishes : (i : ℕ) → i < 4 → (y : ℕ → ℕ) → Bytes y → weighted n (entry w i) (encoded co k y) ≡ 0
  row_vanishes i hi y hy =
      sym (weighted_word co n k losses ok (entry w i) y)
      ∙ (solved_keeps co n k losses ok).to (word co n k losses ok y) (word_bytes co n k losses ok y hy) (word_solves co n k losses ok y hy)
      i
      hi

  -- what solves the solved matrix, and has the values z at the blocks that are present, agrees with z
  pub solution_matches : (z v : ℕ → ℕ) → Bytes v → ((p : ℕ) → p < n → ((p < k) → is_lost losses p ≡ true → ⊥) → v p ≡ z p)
      → Solves n w v → Matches co n k losses z v
  solution_matches z v hv known sol = record { bytes = hv; present = λ p hp e. go p hp e (dec_lt p k) }
    where
      go : (p : ℕ) → p < n → get_or losses p 0 ≡ 0 → Dec (p < k) → encoded co k v p ≡ z p
      go p hp e (yes l) = encoded_column co k v p l ∙ known p hp (λ a b. omega (arith, lost_byte losses p b))
      go p hp e (no l) =
          let q : k + (p - k) ≡ p = omega arith in
          rw (← q) (solves_row co n k losses ok v hv ((solved_keeps co n k losses ok).from v hv sol) (p - k) (omega arith) (rw q e)
          ∙ known (k + (p - k)) (omega arith) (λ a b. omega arith))

  -- ---- the checks

  factor : ℕ → ℕ → ℕ
  factor i p = if (eqb (pivot_of (is_lost losses) k w i) 0) (entry w i p) 0

  check_at : (i p : ℕ) → p < 20 → get_or (check_row losses k w i) p 0 ≡ factor i p
  unfolding check_row factor
  check_at i p hp = table_at 20 (λ p. if (eqb (pivot_of (is_lost losses) k w i) 0) (entry w i p) 0) p hp

  factor_check : (i p : ℕ) → pivot_of (is_lost losses) k w i ≡ 0 → factor i p ≡ entry w i p
  unfolding factor
  factor_check i p e = if_true _ _ _ (eq-eqb (pivot_of (is_lost losses) k w i) 0 e)

  factor_pivot : (i p : ℕ) → (pivot_of (is_lost losses) k w i ≡ 0 → ⊥) → factor i p ≡ 0
  unfolding factor
  factor_pivot i p d = if_false _ _ _ (ne_eqb (pivot_of (is_lost losses) k w i) 0 d)

  none_of : (i : ℕ) → pivot_of (is_lost losses) k w i ≡ 0 → None (is_lost losses) k w i
  none_of i e = elim (pivot_cases (is_lost losses) k w i) [ inl r ↦ r.1 | inr r ↦ absurd (omega (arith, r.1)) ]

  check_over : (i : ℕ) → i < 4 → OverPresent n losses (λ p. get_or (check_row losses k w i) p 0)
  unfolding check_row
  check_over i hi =
      record {
        bytes =
            twenty_bytes (λ p. if (eqb (pivot_of (is_lost losses) k w i) 0) (entry w i p) 0)
            (λ p hp. small p (eqb (pivot_of (is_lost losses) k w i) 0));
        lost = λ p hp l. check_at i p (omega (arith, ok.blocks)) ∙ zero_at p hp l (ℕ_discrete (pivot_of (is_lost losses) k w i) 0);
      }
    where
      small : (p : ℕ) (t : Bool) → if t (entry w i p) 0 < 256
      small p true = entry_lt w solved_bytes i p
      small p false = omega arith

      zero_at : (p : ℕ) → p < n → is_lost losses p ≡ true → Dec (pivot_of (is_lost losses) k w i ≡ 0) → factor i p ≡ 0
      zero_at p hp l (yes e) = factor_check i p e ∙ lost_zero i n hi (λ q hq d m. (none_of i e).zero_at q hq m) p hp (λ x. omega arith) l
      zero_at p hp l (no d) = factor_pivot i p d

  check_weighted : (i : ℕ) (z : ℕ → ℕ) → weighted n (λ p. get_or (check_row losses k w i) p 0) z ≡ weighted n (factor i) z
  check_weighted i z =
      weighted_same n (λ p. get_or (check_row losses k w i) p 0) (factor i) z z
      (λ p hp. ap (λ (x : ℕ). mul x (z p)) (check_at i p (omega (arith, ok.blocks))))

  check_vanishes : (i : ℕ) → i < 4 → (y : ℕ → ℕ) → Bytes y → weighted n (λ p. get_or (check_row losses k w i) p 0) (encoded co k y) ≡ 0
  check_vanishes i hi y hy = check_weighted i (encoded co k y) ∙ go (ℕ_discrete (pivot_of (is_lost losses) k w i) 0)
    where
      go : Dec (pivot_of (is_lost losses) k w i ≡ 0) → weighted n (factor i) (encoded co k y) ≡ 0
      go (yes e) =
          weighted_same n (factor i) (entry w i) (encoded co k y) (encoded co k y)
          (λ p hp. ap (λ (x : ℕ). mul x (encoded co k y p)) (factor_check i p e)) ∙ row_vanishes i hi y hy
      go (no d) =
          weighted_same n (factor i) no_value (encoded co k y) no_value
          (λ p hp. ap (λ (x : ℕ). mul x (encoded co k y p)) (factor_pivot i p d)
          ∙ mul_zero_l (encoded co k y p) (encoded_byte co k ok.coefficients y hy p (omega (arith, ok.rows)))
          ∙ sym (mul_zero_l 0 (omega arith)))
          ∙ weighted_zero n no_value

  pub checks_hold_law : Checks co n k losses (λ i p. get_or (check_row losses k w i) p 0)
  checks_hold_law = record {
    over = check_over;
    vanish = check_vanishes;
    enough = λ z hz h. (fix_rows (is_lost losses) k n w 4 z, agrees z hz h);
  }
    where
      agrees : (z : ℕ → ℕ) → Bytes z → ((i : ℕ) → i < 4 → weighted n (λ p. get_or (check_row losses k w i) p 0) z ≡ 0)
          → Matches co n k losses z (fix_rows (is_lost losses) k n w 4 z)
      agrees z hz h =
          solution_matches z (fix_rows (is_lost losses) k n w 4 z)
          (fix_lt (is_lost losses) k n w kn solved_bytes (solved_clean co n k losses ok) 4 z (omega arith) hz)
          (fix_known (is_lost losses) k n w kn solved_bytes (solved_clean co n k losses ok) z)
          (fix_solves (is_lost losses) k n w kn solved_bytes (solved_clean co n k losses ok) z sound)
        where
          sound : (j : ℕ) → j < 4 → pivot_of (is_lost losses) k w j ≡ 0 → weighted n (entry w j) z ≡ 0
          sound j hj e =
              sym (weighted_same n (factor j) (entry w j) z z (λ p hp. ap (λ (x : ℕ). mul x (z p)) (factor_check j p e)))
              ∙ sym (check_weighted j z) ∙ h j hj
