-- What is answered where a set of data agrees with the present blocks. Assumes nothing.
use mathlib.Core.Path.{◌≡◌, refl, sym, subst}
use mathlib.Core.List.{List}
use mathlib.Core.Logic.{◌⊎◌, inl, inr}
use Prim.Native.Nat.{ℕ, ◌-◌, ◌<◌}
use native.Mathlib.Omega.{arith}
use lib.ListN.{length}
use Rattle.gf256.specs.Field.{◌⊕◌}
use Rattle.gf256.proofs.Xor.{xor_none}
use Rattle.area.specs.Area.{slot}
use Rattle.area.proofs.Slots.{slots_ext, length_slot}
use Rattle.code.specs.Rows.{coefficient}
use Rattle.code.specs.Agreement.{Agrees, lost_count}
use Rattle.solver.specs.Claims.{SolverClaims}
use Rattle.recovery.specs.RebuildAnswer.{RebuildAnswer}
use Rattle.recovery.specs.RebuildAnswer.{Rebuilt, Refused}
use Rattle.recovery.specs.Rebuild.{rebuild_refusal, Encodes, One, Rebuilds, refused, rebuilt, several, nothing}
use Rattle.recovery.specs.Claims.{OfTrue}
use Rattle.code.specs.Fixing.{FixesAll}
use Rattle.recovery.proofs.Vectors.{vector, block_ext}
use Rattle.solver.proofs.Encodings.{matches_null}
use Rattle.recovery.proofs.Agreements.{agrees_matches}
use Rattle.recovery.proofs.Passed.{passed}
use Rattle.recovery.proofs.NullData.{moved, moved_agrees, moved_same}

module _ (m : ℕ → ℕ) (n k b : ℕ) (losses stripe : List ℕ) (b0 : 0 < b) where
  -- where every column is fixed, all data that agree are the same
  pub fixed_same : FixesAll m n k losses → (d e : List ℕ) → Agrees m n k b losses stripe d → Agrees m n k b losses stripe e → d ≡ e
  fixed_same fixes d e x y =
      slots_ext d e b k b0 x.size y.size (λ c h.
      block_ext b (slot d b c) (slot e b c) (length_slot d b c) (length_slot e b c) (λ i l.
      xor_none (vector b d i c) (vector b e i c) (fixes c h (λ c. vector b d i c ⊕ vector b e i c)
      (matches_null (coefficient m) n k losses (vector b stripe i) (vector b d i) (vector b e i)
      (agrees_matches m n k b losses stripe d x i l) (agrees_matches m n k b losses stripe e y i l)))))

  -- where one set alone agrees, every column is fixed
  pub one_fixes : (d : List ℕ) → One m n k b losses stripe d → FixesAll m n k losses
  one_fixes d o c h v null = moved_same k b d v b0 (o.only (moved k b d v) (moved_agrees m n k b losses stripe d o.agrees v null)) c h

module _ (m : ℕ → ℕ) (n k b : ℕ) (losses stripe : List ℕ) (zero : rebuild_refusal n k b (length stripe) losses ≡ 0) (d : List ℕ)
    (agrees : Agrees m n k b losses stripe d) where
  b0 : 0 < b
  b0 = (passed n k b losses stripe zero).some_byte

  told_true : (a : RebuildAnswer) (out : List ℕ) → Rebuilds m n k b losses stripe a out
      → (FixesAll m n k losses × (a ≡ Rebuilt (lost_count losses n)) × Encodes m n k b d out)
      ⊎ ((FixesAll m n k losses → ⊥) × (a ≡ Refused 11))
  told_true a out (refused h) = absurd (omega arith)
  told_true a out (rebuilt e d' x o q) =
      inl (one_fixes m n k b losses stripe b0 d' o, refl, subst (λ (l : List ℕ). Encodes m n k b l x) (sym (o.only d agrees)) q)
  told_true a out (several e t) =
      inr ((λ fixes. t.differ (fixed_same m n k b losses stripe b0 fixes t.one t.other t.one_agrees t.other_agrees)), refl)
  told_true a out (nothing e f) = absurd (f d agrees)

  module _ (claims : SolverClaims (coefficient m) n k losses) (many : n - k < lost_count losses n) where
    not_fixed : FixesAll m n k losses → ⊥
    not_fixed fixes = let o = claims.too_many many in let z = fixes o.0 o.1 o.3 o.4 in omega (arith, o.5)

    too_many_true : (a : RebuildAnswer) (out : List ℕ) → Rebuilds m n k b losses stripe a out → a ≡ Refused 11
    too_many_true a out r = elim (told_true a out r) [ inl x ↦ absurd (not_fixed x.0) | inr x ↦ x.1 ]

  pub of_true_holds : SolverClaims (coefficient m) n k losses → OfTrue m n k b losses stripe d
  of_true_holds claims = record { answers = told_true; too_many = too_many_true claims }
