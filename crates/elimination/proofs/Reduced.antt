-- The reduced matrix: it has the same solutions, and each row has no unknown place or a pivot that no other row has. Assumes nothing.
use mathlib.Core.Path.{◌≡◌, sym, ap, ◌∙◌}
use mathlib.Core.List.{List}
use mathlib.Core.Bool.{Bool, true}
use mathlib.Core.Logic.{◌⊎◌, inl, inr}
use Prim.Native.Nat.{ℕ, zero, suc, ◌-◌, ◌/◌, ◌%◌, ◌<◌, ◌≤◌}
use native.Mathlib.Decide.{ℕ_discrete, dec_lt}
use native.Mathlib.Nat.{zero-add}
use native.Mathlib.Omega.{arith}
use lib.Bits.{xor_zero_r, xor_self}
use lib.Dec.{ltb}
use borrow.Author.Tests.{lt-ltb, le-ltb}
use Rattle.gf256.specs.Field.{◌⊕◌, mul, Bytes}
use Rattle.gf256.specs.Logs.{inv}
use Rattle.base.proofs.Choice.{if_true, if_false}
use Rattle.base.specs.Folds.{run}
use Rattle.gf256.proofs.Xor.{xor_byte}
use Rattle.gf256.proofs.Product.{mul_lt, mul_zero_r, mul_one_r, mul_comm}
use Rattle.gf256.proofs.Powers.{inv_lt, mul_inv}
use Rattle.base.proofs.Tables.{table_small}
use Rattle.elimination.specs.Matrix.{entry, pivot_entry, pivoted, pivot_of, reduce_step, reduced}
use Rattle.elimination.proofs.RowLaws.{ByteList, Solves, entry_lt, entry_pivoted, pivot_entry_own, pivot_entry_other}
use Rattle.elimination.proofs.RowLaws.{pivot_entry_kept, pivot_to, pivot_from}
use Rattle.elimination.proofs.Pivots.{PivotCases, None, IsLast, pivot_cases}

-- column p is 1 in row j and 0 in the others
pub record UnitColumn (w : List ℕ) (j p : ℕ) : Type 0 where
  pub one : entry w j p ≡ 1
  pub others : (o : ℕ) → o < 4 → (o ≡ j → ⊥) → entry w o p ≡ 0

-- row j is reduced: it has no unknown, or a pivot of its own
abbrev pub Clean : (ℕ → Bool) → ℕ → List ℕ → ℕ → Type 0
Clean unknown k w j = None unknown k w j ⊎ ((p : ℕ) × IsLast unknown k w j p × UnitColumn w j p)

abbrev pub CleanBelow : (ℕ → Bool) → ℕ → List ℕ → ℕ → Type 0
CleanBelow unknown k w i = (j : ℕ) → j < i → Clean unknown k w j

pub pivoted_lt : (w : List ℕ) (i q : ℕ) → ByteList w → ByteList (pivoted w i q)
unfolding pivoted
pivoted_lt w i q hw a = table_small 80 256 (λ a. pivot_entry w i q (a / 20) (a % 20)) (omega arith) (λ a h. each (a / 20) (a % 20)) a
  where
    each : (j p : ℕ) → pivot_entry w i q j p < 256
    each j p = elim (ℕ_discrete j i) [
      | yes e ↦ rw (e, pivot_entry_own w i q p) (mul_lt (inv (entry w i q)) (entry w i p) (inv_lt (entry w i q) (entry_lt w hw i q)))
      | no d ↦ rw (pivot_entry_other w i q j p d)
          (xor_byte (entry w j p) (mul (entry w j q) (mul (inv (entry w i q)) (entry w i p))) (entry_lt w hw j p)
          (mul_lt (entry w j q) (mul (inv (entry w i q)) (entry w i p)) (entry_lt w hw j q)))
    ]

module _ (unknown : ℕ → Bool) (k : ℕ) (w : List ℕ) (i q : ℕ) (hk : k ≤ 20) (hi : i < 4) (hw : ByteList w)
    (last : IsLast unknown k w i q) where
  -- what the step does to an entry
  own : (p : ℕ) → p < 20 → entry (pivoted w i q) i p ≡ mul (inv (entry w i q)) (entry w i p)
  own p hp = entry_pivoted w i q i p hi hp ∙ pivot_entry_own w i q p

  other : (j p : ℕ) → j < 4 → p < 20 → (j ≡ i → ⊥)
      → entry (pivoted w i q) j p ≡ entry w j p ⊕ mul (entry w j q) (mul (inv (entry w i q)) (entry w i p))
  other j p hj hp d = entry_pivoted w i q j p hj hp ∙ pivot_entry_other w i q j p d

  own_zero : (p : ℕ) → p < 20 → entry w i p ≡ 0 → entry (pivoted w i q) i p ≡ 0
  own_zero p hp e = own p hp ∙ ap (mul (inv (entry w i q))) e ∙ mul_zero_r (inv (entry w i q))

  -- where row i is 0, the others stay
  stays : (j p : ℕ) → j < 4 → p < 20 → (j ≡ i → ⊥) → entry w i p ≡ 0 → entry (pivoted w i q) j p ≡ entry w j p
  stays j p hj hp d e =
      other j p hj hp d
      ∙ ap (λ (x : ℕ). entry w j p ⊕ mul (entry w j q) (mul (inv (entry w i q)) x)) e
      ∙ ap (λ (x : ℕ). entry w j p ⊕ mul (entry w j q) x) (mul_zero_r (inv (entry w i q)))
      ∙ ap (λ (x : ℕ). entry w j p ⊕ x) (mul_zero_r (entry w j q)) ∙ xor_zero_r (entry w j p)

  -- a row that is 0 at q stays
  row_stays : (j p : ℕ) → j < 4 → p < 20 → (j ≡ i → ⊥) → entry w j q ≡ 0 → entry (pivoted w i q) j p ≡ entry w j p
  row_stays j p hj hp d e = entry_pivoted w i q j p hj hp ∙ pivot_entry_kept w i q j p d (inv_lt (entry w i q) (entry_lt w hw i q)) e

  one_at : entry (pivoted w i q) i q ≡ 1
  one_at =
      own q (omega (arith, last.below))
      ∙ mul_comm (inv (entry w i q)) (entry w i q) (inv_lt (entry w i q) (entry_lt w hw i q)) (entry_lt w hw i q)
      ∙ mul_inv (entry w i q) last.here (entry_lt w hw i q)

  gone : (j : ℕ) → j < 4 → (j ≡ i → ⊥) → entry (pivoted w i q) j q ≡ 0
  gone j hj d =
      other j q hj (omega (arith, last.below)) d
      ∙ ap (λ (x : ℕ). entry w j q ⊕ mul (entry w j q) x) (sym (own q (omega (arith, last.below))) ∙ one_at)
      ∙ ap (λ (x : ℕ). entry w j q ⊕ x) (mul_one_r (entry w j q)) ∙ xor_self (entry w j q)

  own_clean : Clean unknown k (pivoted w i q) i
  own_clean =
      inr (
        q,
        record {
          below = last.below;
          is_unknown = last.is_unknown;
          here = rw one_at (omega arith);
          after = λ o a b u. own_zero o (omega arith) (last.after o a b u);
        },
        record { one = one_at; others = λ o ho d. gone o ho d },
      )

  other_clean : (j : ℕ) → j < 4 → (j ≡ i → ⊥) → Clean unknown k w j → Clean unknown k (pivoted w i q) j
  other_clean j hj d (inl z) =
      inl (record {
        zero_at = λ p h u. row_stays j p hj (omega arith) d (z.zero_at q last.below last.is_unknown)
            ∙ z.zero_at p h u;
      })
  other_clean j hj d (inr (p, l, c)) =
      inr (
        p,
        record { below = l.below; is_unknown = l.is_unknown; here = rw here (omega arith); after = λ o a b u. rest o a b u (dec_lt p q) },
        record {
          one = here;
          others = λ o ho e. elim (ℕ_discrete o i)
              [ yes x ↦ (rw x (own_zero p hp (zero_here))) | no x ↦ stays o p ho hp x zero_here ∙ c.others o ho e ];
        },
      )
    where
      hp : p < 20
      hp = omega (arith, l.below)

      zero_here : entry w i p ≡ 0
      zero_here = c.others i hi (λ e. d (sym e))

      here : entry (pivoted w i q) j p ≡ 1
      here = stays j p hj hp d zero_here ∙ c.one

      rest : (o : ℕ) → p < o → o < k → unknown o ≡ true → Dec (p < q) → entry (pivoted w i q) j o ≡ 0
      rest o a b u (yes x) = row_stays j o hj (omega arith) d (l.after q x last.below last.is_unknown) ∙ l.after o a b u
      rest o a b u (no x) = stays j o hj (omega arith) d (last.after o (omega arith) b u) ∙ l.after o a b u

  pub step_clean : CleanBelow unknown k w i → CleanBelow unknown k (pivoted w i q) (suc i)
  step_clean g j h = elim (ℕ_discrete j i) [ yes e ↦ (rw e own_clean) | no d ↦ other_clean j (omega arith) d (g j (omega arith)) ]

-- ---- the whole reduction

pub record SameSolutions (n : ℕ) (w v : List ℕ) : Type 0 where
  pub to : (y : ℕ → ℕ) → Bytes y → Solves n w y → Solves n v y
  pub from : (y : ℕ → ℕ) → Bytes y → Solves n v y → Solves n w y
  pub bytes : ByteList v

pub step_none : (unknown : ℕ → Bool) (k i : ℕ) (v : List ℕ) → pivot_of unknown k v i ≡ 0 → reduce_step unknown k i v ≡ v
unfolding reduce_step
step_none unknown k i v e =
    if_false (ltb 0 (pivot_of unknown k v i)) (pivoted v i (pivot_of unknown k v i - 1)) v (le-ltb 0 (pivot_of unknown k v i) (omega arith))

pub step_some : (unknown : ℕ → Bool) (k i : ℕ) (v : List ℕ) (p : ℕ) → pivot_of unknown k v i ≡ suc p
    → reduce_step unknown k i v ≡ pivoted v i p
unfolding reduce_step
step_some unknown k i v p e =
    if_true (ltb 0 (pivot_of unknown k v i)) (pivoted v i (pivot_of unknown k v i - 1)) v (lt-ltb 0 (pivot_of unknown k v i) (omega arith))
    ∙ ap (pivoted v i) (let d : pivot_of unknown k v i - 1 ≡ p = omega arith in d)

pub step_keeps : (unknown : ℕ → Bool) (k n : ℕ) (i : ℕ) (w v : List ℕ) → k ≤ 20 → n ≤ 20 → i < 4 → SameSolutions n w v
    → CleanBelow unknown k v i
    → SameSolutions n w (reduce_step unknown k i v) × CleanBelow unknown k (reduce_step unknown k i v) (suc i)
step_keeps unknown k n i w v hk hn hi r g = go (pivot_cases unknown k v i)
  where
    go : PivotCases unknown k v i
        → SameSolutions n w (reduce_step unknown k i v) × CleanBelow unknown k (reduce_step unknown k i v) (suc i)
    go (inl (e, z)) = rw (step_none unknown k i v e) (r, λ j h. elim (ℕ_discrete j i) [ yes x ↦ (rw x (inl z)) | no x ↦ g j (omega arith) ])
    go (inr (p, e, l)) =
        rw (step_some unknown k i v p e) (
          record {
            to = λ y hy z. pivot_to n v i p y hn hi r.bytes hy l.here (r.to y hy z);
            from = λ y hy z. r.from y hy (pivot_from n v i p y hn hi r.bytes hy l.here z);
            bytes = pivoted_lt v i p r.bytes;
          },
          step_clean unknown k v i p hk hi r.bytes l g,
        )

pub rows_keep : (unknown : ℕ → Bool) (k n : ℕ) (w : List ℕ) → k ≤ 20 → n ≤ 20 → ByteList w → (i : ℕ) → i ≤ 4
    → SameSolutions n w (run (reduce_step unknown k) 0 i w) × CleanBelow unknown k (run (reduce_step unknown k) 0 i w) i
unfolding run
rows_keep unknown k n w hk hn hw zero h = (record { to = λ y hy z. z; from = λ y hy z. z; bytes = hw }, λ j l. absurd (omega arith))
rows_keep unknown k n w hk hn hw (suc i) h =
    let r = rows_keep unknown k n w hk hn hw i (omega arith) in
    rw (zero-add i) (step_keeps unknown k n i w (run (reduce_step unknown k) 0 i w) hk hn (omega arith) r.0 r.1)

-- the reduced matrix has the same solutions, and each of its rows is clean
pub reduced_keeps : (unknown : ℕ → Bool) (k n : ℕ) (w : List ℕ) → k ≤ 20 → n ≤ 20 → ByteList w → SameSolutions n w (reduced unknown k w)
unfolding reduced
reduced_keeps unknown k n w hk hn hw = (rows_keep unknown k n w hk hn hw 4 (omega arith)).0

pub reduced_clean : (unknown : ℕ → Bool) (k : ℕ) (w : List ℕ) → k ≤ 20 → ByteList w → CleanBelow unknown k (reduced unknown k w) 4
unfolding reduced
reduced_clean unknown k w hk hw = (rows_keep unknown k k w hk hk hw 4 (omega arith)).1
