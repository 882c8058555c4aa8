-- A lost column is given by its row, or null data show that it is open. Assumes nothing.
use mathlib.Core.Path.{◌≡◌, refl, sym, ap, ap₂, ◌∙◌}
use mathlib.Core.List.{List}
use mathlib.Core.Bool.{Bool, true, false, not, ◌&&◌}
use mathlib.Core.Logic.{◌⊎◌, inl, inr}
use Prim.Native.Nat.{ℕ, suc, ◌+◌, ◌-◌, ◌<◌, ◌≤◌}
use native.Mathlib.Numerals.{add-one}
use native.Mathlib.Decide.{ℕ_discrete}
use native.Mathlib.Omega.{arith}
use lib.Bits.{bit_xor, xor_zero_r, xor_zero_l}
use lib.ListN.{get_or}
use lib.Dec.{eqb, ltb}
use borrow.Author.Tests.{eq-eqb, ne_eqb, lt-ltb, le-ltb, eqb-true, eqb-false, ltb-true, ltb-false, not-true}
use Rattle.base.specs.Tests.{if}
use Rattle.base.proofs.Choice.{if_true, if_false}
use Rattle.base.proofs.Tests.{and_left, and_right, clash}
use Rattle.base.proofs.Tables.{table_at}
use Rattle.gf256.specs.Field.{◌⊕◌, mul, xor_sum}
use Rattle.gf256.proofs.Xor.{xor_none}
use Rattle.gf256.proofs.Product.{mul_zero_l, mul_one_l, mul_one_r}
use Rattle.gf256.proofs.Sums.{xor_sum_same, xor_sum_xor}
use Rattle.code.specs.Agreement.{is_lost}
use Rattle.elimination.specs.Matrix.{entry, weighted, has_unknown, last_below, pivot_of}
use Rattle.elimination.proofs.RowLaws.{ByteList, bump, bump_at, bump_off, bump_lt, entry_lt, weighted_bump, xor_sum_single}
use Rattle.elimination.proofs.Pivots.{LastCases, last_cases}
use Rattle.elimination.proofs.Reduced.{CleanBelow}
use Rattle.elimination.proofs.Solutions.{no_value, weighted_zero, Free, fix_rows, fix_lt, fix_free, fix_known, fix_solves, fix_value}
use Rattle.elimination.proofs.Solutions.{at_pivot, bump_sound}
use Rattle.solver.specs.declared.Column.{Column}
use Rattle.solver.specs.declared.Column.TheVariants.{FixedBy, OpenBy}
use Rattle.solver.specs.Losses.{OverPresent, Gives}
use Rattle.code.specs.Fixing.{encoded, Null}
use Rattle.solver.specs.Claims.{Solvable, Found, fixed_by, open_by}
use Rattle.solver.specs.Solution.{solved, row_without, row_of, other_of, null_data, null_vector, column_of}
use Rattle.solver.proofs.Encodings.{encoded_column, encoded_same, encoded_byte}
use Rattle.solver.proofs.OtherLaws.{other_than}
use Rattle.solver.proofs.CheckMatrix.{solved_clean}
use Rattle.solver.proofs.Checking.{solved_bytes, twenty_bytes, lost_zero, row_vanishes, solution_matches}

module _ (co : ℕ → ℕ → ℕ) (n k : ℕ) (losses : List ℕ) (ok : Solvable co n k losses) where
  abbrev w : List ℕ
  w = solved co n k losses

  kn : k ≤ n
  kn = omega (arith, ok.columns)

  bytes : ByteList w
  bytes = solved_bytes co n k losses ok

  clean : CleanBelow (is_lost losses) k w 4
  clean = solved_clean co n k losses ok

  -- ---- the row of a column

  -- column c is no row's pivot, or that of row i
  abbrev pub RowCases : ℕ → Type 0
  RowCases c =
      ((row_of losses k w c ≡ 0) × Free (is_lost losses) k w 4 c)
      ⊎ ((i : ℕ) × (row_of losses k w c ≡ suc i) × (i < 4) × (pivot_of (is_lost losses) k w i ≡ suc c))

  pub row_cases : (c : ℕ) → RowCases c
  unfolding row_of
  row_cases c = go (last_cases (λ i. eqb (pivot_of (is_lost losses) k w i) (c + 1)) 4)
    where
      test : ℕ → Bool
      test i = eqb (pivot_of (is_lost losses) k w i) (c + 1)

      go : LastCases test 4
          → ((last_below test 4 ≡ 0) × Free (is_lost losses) k w 4 c)
          ⊎ ((i : ℕ) × (last_below test 4 ≡ suc i) × (i < 4) × (pivot_of (is_lost losses) k w i ≡ suc c))
      go (inl (e, none)) = inl (e, λ j hj x. eqb-false (pivot_of (is_lost losses) k w j) (c + 1) (none j hj) (x ∙ sym (add-one c)))
      go (inr (i, e, l)) = inr (i, e, l.below, eqb-true (pivot_of (is_lost losses) k w i) (c + 1) l.here ∙ add-one c)

  -- ---- another lost column in the row

  other_test : ℕ → ℕ → ℕ → Bool
  other_test i c = other_than c (has_unknown (is_lost losses) w i)

  other_none : (i c p : ℕ) → other_test i c p ≡ false → (p ≡ c → ⊥) → is_lost losses p ≡ true → entry w i p ≡ 0
  unfolding other_test has_unknown
  other_none i c p e d lost =
      let z : ltb 0 (entry w i p) ≡ false = rw (ne_eqb p c d, lost) at e in
      omega (arith, ltb-false 0 (entry w i p) z)

  other_some : (i c p : ℕ) → other_test i c p ≡ true → (p ≡ c → ⊥) × (is_lost losses p ≡ true) × (0 < entry w i p)
  unfolding other_test has_unknown
  other_some i c p e =
      let right = and_right (not (eqb p c)) (is_lost losses p && ltb 0 (entry w i p)) e in (
        (λ x. clash (eq-eqb p c x) (not-true (eqb p c) (and_left (not (eqb p c)) (is_lost losses p && ltb 0 (entry w i p)) e))),
        and_left (is_lost losses p) (ltb 0 (entry w i p)) right,
        ltb-true 0 (entry w i p) (and_right (is_lost losses p) (ltb 0 (entry w i p)) right),
      )

  -- ---- coefficients of a fixed column

  module _ (i c : ℕ) (hi : i < 4) (hc : c < k) (pivot : pivot_of (is_lost losses) k w i ≡ suc c)
      (alone : (p : ℕ) → p < k → (p ≡ c → ⊥) → is_lost losses p ≡ true → entry w i p ≡ 0) where
    without : ℕ → ℕ
    without p = if (eqb p c) 0 (entry w i p)

    row_at : (p : ℕ) → p < 20 → get_or (row_without w i c) p 0 ≡ without p
    unfolding row_without without
    row_at p hp = table_at 20 (λ p. if (eqb p c) 0 (entry w i p)) p hp

    without_c : without c ≡ 0
    unfolding without
    without_c = if_true _ _ _ (eq-eqb c c refl)

    without_other : (p : ℕ) → (p ≡ c → ⊥) → without p ≡ entry w i p
    unfolding without
    without_other p d = if_false _ _ _ (ne_eqb p c d)

    over : OverPresent n losses (λ p. get_or (row_without w i c) p 0)
    unfolding row_without
    over =
        record {
          bytes = twenty_bytes (λ p. if (eqb p c) 0 (entry w i p)) (λ p hp. small p (eqb p c));
          lost = λ p hp l. row_at p (omega (arith, ok.blocks)) ∙ zero_at p hp l (ℕ_discrete p c);
        }
      where
        small : (p : ℕ) (t : Bool) → if t 0 (entry w i p) < 256
        small p true = omega arith
        small p false = entry_lt w bytes i p

        zero_at : (p : ℕ) → p < n → is_lost losses p ≡ true → Dec (p ≡ c) → without p ≡ 0
        zero_at p hp l (yes e) = rw e without_c
        zero_at p hp l (no d) = without_other p d ∙ lost_zero co n k losses ok i c hi alone p hp d l

    -- the row is its coefficients and column c
    split : (v : ℕ → ℕ) → ((p : ℕ) → p < n → v p < 256)
        → weighted n (entry w i) v ≡ weighted n (λ p. get_or (row_without w i c) p 0) v ⊕ v c
    unfolding weighted
    split v hv =
        xor_sum_same n (λ p. mul (entry w i p) (v p)) (λ p. mul (get_or (row_without w i c) p 0) (v p) ⊕ if (eqb p c) (v p) 0)
        (λ p hp. at p hp (ℕ_discrete p c))
        ∙ xor_sum_xor n (λ p. mul (get_or (row_without w i c) p 0) (v p)) (λ p. if (eqb p c) (v p) 0)
        ∙ ap (λ (x : ℕ). xor_sum n (λ p. mul (get_or (row_without w i c) p 0) (v p)) ⊕ x)
        (xor_sum_single n (λ p. if (eqb p c) (v p) 0) c (omega (arith, ok.columns)) (λ p hp d. if_false _ _ _ (ne_eqb p c d))
        ∙ if_true _ _ _ (eq-eqb c c refl))
      where
        at : (p : ℕ) → p < n → Dec (p ≡ c) → mul (entry w i p) (v p) ≡ mul (get_or (row_without w i c) p 0) (v p) ⊕ if (eqb p c) (v p) 0
        at p hp (no d) =
            ap (λ (x : ℕ). mul x (v p)) (sym (without_other p d) ∙ sym (row_at p (omega (arith, ok.blocks))))
            ∙ sym (xor_zero_r (mul (get_or (row_without w i c) p 0) (v p)))
            ∙ ap (λ (x : ℕ). mul (get_or (row_without w i c) p 0) (v p) ⊕ x) (sym (if_false (eqb p c) (v p) 0 (ne_eqb p c d)))
        at p hp (yes e) =
            ap (λ (x : ℕ). mul x (v p)) (ap (entry w i) e ∙ (at_pivot (is_lost losses) k n w kn bytes clean i c hi pivot).1.one)
            ∙ mul_one_l (v p) (hv p hp) ∙ sym (xor_zero_l (v p))
            ∙ ap₂ bit_xor (sym (ap (λ (x : ℕ). mul x (v p)) (row_at p (omega (arith, ok.blocks)) ∙ ap without e ∙ without_c)
            ∙ mul_zero_l (v p) (hv p hp))) (sym (if_true (eqb p c) (v p) 0 (eq-eqb p c e)))

    pub row_gives : Gives co n k losses c (λ p. get_or (row_without w i c) p 0)
    row_gives =
        record {
          over = over;
          value =
              λ y hy. xor_none _ _ (sym (split (encoded co k y)
              (λ p hp. encoded_byte co k ok.coefficients y hy p (omega (arith, ok.rows))))
              ∙ row_vanishes co n k losses ok i hi y hy) ∙ encoded_column co k y c hc;
        }

  -- ---- null data of a column that is no pivot

  module _ (f : ℕ) (hf : f < k) (lost : is_lost losses f ≡ true) (free : Free (is_lost losses) k w 4 f) where
    one : ℕ → ℕ
    one = bump no_value f 1

    fixed : ℕ → ℕ
    fixed = fix_rows (is_lost losses) k n w 4 one

    fixed_null : Null co n k losses fixed
    unfolding fixed one
    fixed_null =
        solution_matches co n k losses ok no_value fixed
        (fix_lt (is_lost losses) k n w kn bytes clean 4 one (omega arith) (bump_lt no_value f 1 (λ p. omega arith) (omega arith)))
        (λ p hp h. fix_known (is_lost losses) k n w kn bytes clean one p hp h ∙ bump_off no_value f 1 p (λ e. h (rw e hf) (rw e lost)))
        (fix_solves (is_lost losses) k n w kn bytes clean one
        (bump_sound (is_lost losses) k n w kn bytes clean no_value f 1 (omega arith) hf lost (λ j hj e. weighted_zero n (entry w j))))

    null_own : null_data losses k w f f ≡ 1
    unfolding null_data
    null_own = if_true _ _ _ (eq-eqb f f refl)

    null_row : (p i : ℕ) → (p ≡ f → ⊥) → row_of losses k w p ≡ suc i → null_data losses k w f p ≡ entry w i f
    unfolding null_data
    null_row p i d e =
        if_false _ _ _ (ne_eqb p f d) ∙ if_true _ _ _ (lt-ltb 0 (row_of losses k w p) (omega arith))
        ∙ ap (λ (x : ℕ). entry w x f) (let s : row_of losses k w p - 1 ≡ i = omega arith in s)

    null_none : (p : ℕ) → (p ≡ f → ⊥) → row_of losses k w p ≡ 0 → null_data losses k w f p ≡ 0
    unfolding null_data
    null_none p d e = if_false _ _ _ (ne_eqb p f d) ∙ if_false _ _ _ (le-ltb 0 (row_of losses k w p) (omega arith))

    null_fixed : (p : ℕ) → null_data losses k w f p ≡ fixed p
    unfolding fixed one
    null_fixed p = go (ℕ_discrete p f) (row_cases p)
      where
        go : Dec (p ≡ f) → RowCases p → null_data losses k w f p ≡ fixed p
        go (yes e) r =
            rw e (null_own ∙ sym (fix_free (is_lost losses) k n w kn bytes clean 4 one f (omega arith) free ∙ bump_at no_value f 1))
        go (no d) (inl (e, g)) =
            null_none p d e ∙ sym (fix_free (is_lost losses) k n w kn bytes clean 4 one p (omega arith) g ∙ bump_off no_value f 1 p d)
        go (no d) (inr (i, e, hi, x)) =
            null_row p i d e
            ∙ sym (fix_value (is_lost losses) k n w kn bytes clean 4 i p one hi (omega arith) x
            ∙ ap₂ bit_xor (bump_off no_value f 1 p d) (weighted_bump n (entry w i) no_value f 1 (omega (arith, ok.columns))
            ∙ ap₂ bit_xor (weighted_zero n (entry w i)) (mul_one_r (entry w i f)) ∙ xor_zero_l (entry w i f))
            ∙ xor_zero_l (entry w i f))

    vector_at : (p : ℕ) → p < 20 → get_or (null_vector losses k w f) p 0 ≡ null_data losses k w f p
    unfolding null_vector
    vector_at p hp = table_at 20 (null_data losses k w f) p hp

    pub vector_null : Null co n k losses (λ p. get_or (null_vector losses k w f) p 0)
    unfolding null_vector
    vector_null =
        record {
          bytes = twenty_bytes (null_data losses k w f) (λ p hp. rw (null_fixed p) (fixed_null.bytes p));
          present = λ p hp e. encoded_same co k (λ p. get_or (null_vector losses k w f) p 0) fixed p column ∙ fixed_null.present p hp e;
        }
      where
        column : (c : ℕ) → c < k → get_or (null_vector losses k w f) c 0 ≡ fixed c
        column c hc = vector_at c (omega (arith, ok.columns, ok.blocks)) ∙ null_fixed c

    -- the pivot of a row is its last lost column, so a row whose pivot is before f has no factor at f
    pub vector_before : (p : ℕ) → p < f → get_or (null_vector losses k w f) p 0 ≡ 0
    vector_before p h = vector_at p (omega (arith, ok.columns, ok.blocks)) ∙ go (row_cases p)
      where
        go : RowCases p → null_data losses k w f p ≡ 0
        go (inl (e, g)) = null_none p (λ x. omega arith) e
        go (inr (i, e, hi, x)) =
            null_row p i (λ y. omega arith) e ∙ (at_pivot (is_lost losses) k n w kn bytes clean i p hi x).0.after f h hf lost

    pub vector_own : 0 < get_or (null_vector losses k w f) f 0
    vector_own = omega (arith, vector_at f (omega (arith, ok.columns, ok.blocks)) ∙ null_own)

    pub vector_row : (c i : ℕ) → c < k → (c ≡ f → ⊥) → row_of losses k w c ≡ suc i → 0 < entry w i f
        → 0 < get_or (null_vector losses k w f) c 0
    vector_row c i hc d e pos = omega (arith, vector_at c (omega (arith, ok.columns, ok.blocks)) ∙ null_row c i d e)

  -- ---- what is told of a lost column

  no_row : (c : ℕ) → row_of losses k w c ≡ 0 → column_of losses k w c ≡ OpenBy c
  unfolding column_of
  no_row c e = if_true _ _ _ (eq-eqb (row_of losses k w c) 0 e)

  -- what is told where row i has the pivot c, and `other` is the other lost column in it
  told_by : ℕ → ℕ → Column
  told_by i other = if (eqb other 0) (FixedBy i) (OpenBy (other - 1))

  a_row : (c i : ℕ) → row_of losses k w c ≡ suc i → column_of losses k w c ≡ told_by i (last_below (other_test i c) k)
  unfolding column_of other_of told_by other_test
  a_row c i e =
      if_false _ _ _ (ne_eqb (row_of losses k w c) 0 (λ x. omega arith))
      ∙ ap (λ (x : ℕ). told_by x (other_of losses k w x c)) (let s : row_of losses k w c - 1 ≡ i = omega arith in s)

  module _ (c i : ℕ) (hc : c < k) (hi : i < 4) (row : row_of losses k w c ≡ suc i) (pivot : pivot_of (is_lost losses) k w i ≡ suc c) where
    -- a place with a factor in this row is the pivot of no row
    not_pivot : (o : ℕ) → (o ≡ c → ⊥) → 0 < entry w i o → Free (is_lost losses) k w 4 o
    not_pivot o d pos j hj x = at (ℕ_discrete i j)
      where
        at : Dec (i ≡ j) → ⊥
        at (yes m) = d (let t : pivot_of (is_lost losses) k w i ≡ suc o = rw m x in omega arith)
        at (no m) = omega (arith, (at_pivot (is_lost losses) k n w kn bytes clean j o hj x).1.others i hi m)

    by_row : LastCases (other_test i c) k
        → Found co n k losses w c (told_by i (last_below (other_test i c) k))
    unfolding told_by
    by_row (inl (z, none)) =
        rw (eq-eqb (last_below (other_test i c) k) 0 z)
        (fixed_by i hi (row_gives i c hi hc pivot (λ p hp d l. other_none i c p (none p hp) d l)))
    by_row (inr (o, z, l)) =
        let s = other_some i c o l.here in
        let q : last_below (other_test i c) k - 1 ≡ o = omega arith in
        rw (ne_eqb (last_below (other_test i c) k) 0 (λ x. omega arith), q)
        (open_by o l.below (vector_null o l.below s.1 (not_pivot o s.0 s.2))
        (vector_before o l.below s.1 (not_pivot o s.0 s.2))
        (vector_row o l.below s.1 (not_pivot o s.0 s.2) c i hc (λ x. s.0 (sym x)) row s.2))

  pub column_told : (c : ℕ) → c < k → is_lost losses c ≡ true → Found co n k losses w c (column_of losses k w c)
  column_told c hc lost = go (row_cases c)
    where
      go : RowCases c → Found co n k losses w c (column_of losses k w c)
      go (inl (e, free)) =
          rw (no_row c e) (open_by c hc (vector_null c hc lost free) (vector_before c hc lost free) (vector_own c hc lost free))
      go (inr (i, e, hi, pivot)) = rw (a_row c i e) (by_row c i hc hi e pivot (last_cases (other_test i c) k))
