-- What is answered where no block is lost, and where all are. Assumes nothing.
use mathlib.Core.Path.{◌≡◌, refl, sym, ap, ◌∙◌}
use mathlib.Core.List.{List}
use mathlib.Core.Bool.{Bool, true, false}
use mathlib.Core.Logic.{◌⊎◌, inl, inr}
use Prim.Native.Nat.{ℕ, ◌*◌, ◌<◌}
use native.Mathlib.Omega.{arith}
use lib.ListN.{length, get_or}
use Rattle.base.specs.Folds.{sum, indicator}
use Rattle.base.proofs.Sums.{sum_zero, sum_lt, indicator_le}
use Rattle.area.specs.Area.{zeros}
use Rattle.area.proofs.Blocks.{length_zeros}
use Rattle.area.proofs.Slots.{slots_ext}
use Rattle.code.specs.Rows.{coefficient}
use Rattle.code.specs.Agreement.{Agrees, is_lost, lost_count}
use Rattle.code.specs.Fixing.{encoded, FixesAll}
use Rattle.solver.specs.Claims.{SolverClaims}
use Rattle.recovery.specs.RebuildAnswer.{RebuildAnswer}
use Rattle.recovery.specs.RebuildAnswer.{Rebuilt, Refused}
use Rattle.recovery.specs.Rebuild.{rebuild_refusal, Encodes, One, Rebuilds, refused, rebuilt, several, nothing}
use Rattle.elimination.proofs.RowLaws.{ByteList}
use Rattle.recovery.proofs.Vectors.{zeros_byte, vector, vector_bytes, data_of, stripe_byte, stripe_column}
use Rattle.solver.proofs.Encodings.{encoded_same}
use Rattle.recovery.proofs.Agreements.{matches_agrees}
use Rattle.solver.proofs.LossLaws.{lost_byte, present_byte}
use Rattle.recovery.proofs.Passed.{Passed, passed}
use Rattle.recovery.proofs.OpenColumns.{present_fixes}
use Rattle.recovery.proofs.TrueData.{fixed_same, of_true_holds}

-- ---- counts of lost blocks

none_present : (losses : List ℕ) (n : ℕ) → lost_count losses n ≡ 0 → (p : ℕ) → p < n → is_lost losses p ≡ false
unfolding lost_count
none_present losses n e p h = go (is_lost losses p) (sum_zero n (λ p. indicator (is_lost losses p)) e p h)
  where
    go : (t : Bool) → indicator t ≡ 0 → t ≡ false
    go true q = absurd (omega arith)
    go false q = refl

all_gone : (losses : List ℕ) (n : ℕ) → lost_count losses n ≡ n → (p : ℕ) → p < n → is_lost losses p ≡ true
unfolding lost_count
all_gone losses n e p h = go (is_lost losses p) refl
  where
    go : (t : Bool) → is_lost losses p ≡ t → t ≡ true
    go true q = refl
    go false q =
        let l : sum n (λ p. indicator (is_lost losses p)) < n * 1 =
        sum_lt n 1 (λ p. indicator (is_lost losses p)) (λ i. indicator_le (is_lost losses i)) p h (rw q (omega arith)) in
        absurd (omega arith)

module _ (m : ℕ → ℕ) (n k b : ℕ) (losses stripe : List ℕ) (ok : rebuild_refusal n k b (length stripe) losses ≡ 0) where
  ps : Passed n k b losses stripe
  ps = passed n k b losses stripe ok

  -- ---- no block is lost

  -- what is answered: the stripe is the encoding of some data, or of none
  abbrev pub Verified : RebuildAnswer → List ℕ → Type 0
  Verified a out =
      (out ≡ stripe) × (((a ≡ Rebuilt 0) × (dataset : List ℕ) × Encodes m n k b dataset stripe)
      ⊎ ((a ≡ Refused 12) × ((dataset : List ℕ) → Encodes m n k b dataset stripe → ⊥)))

  module _ (none : lost_count losses n ≡ 0) where
    there : (p : ℕ) → p < n → get_or losses p 0 ≡ 0
    there p h = present_byte losses p (ps.flags p h) (none_present losses n none p h)

    all_fixed : FixesAll m n k losses
    all_fixed c h = let l : c < n = omega (arith, ps.columns) in present_fixes (coefficient m) n k losses c h l (there c l)

    of_one : (d : List ℕ) → One m n k b losses stripe d → Encodes m n k b d stripe
    of_one d o = record { size = ps.size; blocks = λ p h. o.agrees.present p h (there p h) }

    same_stripe : (d out : List ℕ) → One m n k b losses stripe d → Encodes m n k b d out → out ≡ stripe
    same_stripe d out o q =
        slots_ext out stripe b n ps.some_byte q.size ps.size (λ p h. q.blocks p h ∙ sym ((of_one d o).blocks p h))

    -- the columns of an encoding, cut to size, agree with it
    cut_agrees : ByteList stripe → (d : List ℕ) → Encodes m n k b d stripe → Agrees m n k b losses stripe (data_of k b (vector b stripe))
    cut_agrees bytes d q =
        matches_agrees m n k b losses stripe (vector b stripe)
        (λ i l. record { bytes = vector_bytes b stripe bytes i; present = λ p h e. at i l p h })
      where
        column : (i c : ℕ) → c < k → vector b stripe i c ≡ vector b d i c
        column i c h = ap (λ (x : List ℕ). get_or x i 0) (q.blocks c (omega (arith, ps.columns)) ∙ stripe_column m b k d c h)

        at : (i : ℕ) → i < b → (p : ℕ) → p < n → encoded (coefficient m) k (vector b stripe i) p ≡ vector b stripe i p
        at i l p h =
            encoded_same (coefficient m) k (vector b stripe i) (vector b d i) p (column i)
            ∙ sym (stripe_byte m b k d p i l) ∙ ap (λ (x : List ℕ). get_or x i 0) (sym (q.blocks p h))

    pub none_lost_holds : ByteList stripe → (a : RebuildAnswer) (out : List ℕ) → Rebuilds m n k b losses stripe a out → Verified a out
    none_lost_holds bytes a out (refused h) = absurd (omega arith)
    none_lost_holds bytes a out (rebuilt e d x o q) = (same_stripe d x o q, inl (ap Rebuilt none, d, of_one d o))
    none_lost_holds bytes a out (several e t) =
        absurd (t.differ (fixed_same m n k b losses stripe ps.some_byte all_fixed t.one t.other t.one_agrees
        t.other_agrees))
    none_lost_holds bytes a out (nothing e f) = (refl, inr (refl, λ d q. f (data_of k b (vector b stripe)) (cut_agrees bytes d q)))

  -- ---- all are: any data agree

  pub all_lost_holds : SolverClaims (coefficient m) n k losses → lost_count losses n ≡ n → (a : RebuildAnswer) (out : List ℕ)
      → Rebuilds m n k b losses stripe a out → a ≡ Refused 11
  all_lost_holds claims all =
      (of_true_holds m n k b losses stripe ok (zeros (k * b)) any claims).too_many (omega (arith, ps.some_column, ps.columns))
    where
      any : Agrees m n k b losses stripe (zeros (k * b))
      any =
          record {
            size = length_zeros (k * b);
            bytes = λ i. let z = zeros_byte (k * b) i in omega arith;
            present = λ p h e. let l = lost_byte losses p (all_gone losses n all p h) in absurd (omega arith);
          }
