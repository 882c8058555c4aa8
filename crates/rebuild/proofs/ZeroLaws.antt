-- Bytes that are all zero, as a loop finds it that collects them; and a combination whose coefficients are. Assumes nothing.
use mathlib.Core.Path.{◌≡◌, refl, sym, ap, ap₂, ◌∙◌}
use mathlib.Core.List.{List}
use mathlib.Core.Bool.{Bool, true, false}
use mathlib.Core.Logic.{◌⊎◌, inl, inr}
use Prim.Native.Nat.{ℕ, ◌+◌, ◌<◌}
use native.Mathlib.Nat.{eq-or-lt_of_le, le_of_suc-le-suc}
use native.Mathlib.Numerals.{add-one}
use native.Mathlib.Decide.{ℕ_discrete}
use native.Mathlib.Omega.{arith}
use lib.Bits.{bit_or}
use lib.Dec.{eqb}
use lib.ListN.{length, get_or}
use borrow.Author.Tests.{eq-eqb, ne_eqb}
use Rattle.base.proofs.Tests.{off}
use Rattle.area.specs.Area.{zeros, same_bytes}
use Rattle.area.proofs.Blocks.{length_zeros, same_bytes_eq, same_bytes_refl}
use Rattle.area.proofs.Compare.{or_left, or_right}
use Rattle.combine.specs.Columns.{combined, Consecutive}
use Rattle.combine.proofs.Laws.{length_combined}
use Rattle.elimination.proofs.RowLaws.{ByteList}
use Rattle.recovery.proofs.Vectors.{zeros_byte, block_ext, combination_none}
use Rattle.rebuild.specs.Steps.{combined_blocks}
use Rattle.rebuild.proofs.OffsetSlots.{combined_slots}

-- d is 0 exactly if the first n bytes of x are
pub record Gathered (x : List ℕ) (n d : ℕ) : Type 0 where
  pub zero : d ≡ 0 → (i : ℕ) → i < n → get_or x i 0 ≡ 0
  pub none : ((i : ℕ) → i < n → get_or x i 0 ≡ 0) → d ≡ 0

module _ (x : List ℕ) where
  pub gathered_none : Gathered x 0 0
  gathered_none = record { zero = λ e i h. absurd (omega arith); none = λ h. refl }

  pub gathered_more : (n d : ℕ) → Gathered x n d → Gathered x (n + 1) (bit_or d (get_or x n 0))
  gathered_more n d g =
      record {
        zero = λ e i h.
            let dz : d ≡ 0 = omega (arith, or_left d (get_or x n 0)) in
            more i (g.zero dz i) (omega (arith, or_right d (get_or x n 0))) (eq-or-lt_of_le (le_of_suc-le-suc (rw add-one at h)));
        none = λ h. rw (g.none (λ i l. h i (omega arith)), h n (omega arith));
      }
    where
      more : (i : ℕ) → (i < n → get_or x i 0 ≡ 0) → get_or x n 0 ≡ 0 → (i ≡ n) ⊎ (i < n) → get_or x i 0 ≡ 0
      more i l e (inl q) = rw q e
      more i l e (inr h) = l h

  pub all_zero : (n d : ℕ) → Gathered x n d → n ≡ length x → d ≡ 0 → true ≡ same_bytes (zeros (length x)) x
  all_zero n d g q e =
      let s : zeros (length x) ≡ x =
      block_ext (length x) (zeros (length x)) x (length_zeros (length x)) refl
      (λ i l. zeros_byte (length x) i ∙ sym (g.zero e i (omega arith))) in
      sym (ap (λ (y : List ℕ). same_bytes y x) s ∙ same_bytes_refl x)

  pub not_zero : (n d : ℕ) → Gathered x n d → n ≡ length x → (d ≡ 0 → ⊥) → false ≡ same_bytes (zeros (length x)) x
  not_zero n d g q ne =
      sym (off (λ e. ne (g.none (λ i l. ap (λ (y : List ℕ). get_or y i 0) (sym (same_bytes_eq (zeros (length x)) x e))
      ∙ zeros_byte (length x) i))))

  pub zero_told : (n d : ℕ) → Gathered x n d → n ≡ length x → eqb d 0 ≡ same_bytes (zeros (length x)) x
  zero_told n d g q = go (ℕ_discrete d 0)
    where
      go : Dec (d ≡ 0) → eqb d 0 ≡ same_bytes (zeros (length x)) x
      go (yes e) = eq-eqb d 0 e ∙ all_zero n d g q e
      go (no e) = ne_eqb d 0 e ∙ not_zero n d g q e

-- where all coefficients are zero the combination is
pub empty_vanishes : (b n : ℕ) (u s : List ℕ) → ByteList s → true ≡ same_bytes (zeros (length u)) u
    → true ≡ same_bytes (zeros b) (combined_blocks b n u s)
unfolding combined_blocks
empty_vanishes b n u s bytes e =
    sym (ap (same_bytes (zeros b)) (combination_none b n (λ p. get_or u p 0) s bytes none) ∙ same_bytes_refl (zeros b))
  where
    none : (p : ℕ) → get_or u p 0 ≡ 0
    none p = ap (λ (y : List ℕ). get_or y p 0) (sym (same_bytes_eq (zeros (length u)) u (sym e))) ∙ zeros_byte (length u) p

-- ---- a combination that is summed in a slice of its length

module _ (b n : ℕ) (u at stripe : List ℕ) {t : Bool} where
  pub sum_told : {s : List ℕ} → s ≡ combined b n u at stripe → t ≡ same_bytes (zeros (length s)) s
      → t ≡ same_bytes (zeros b) (combined b n u at stripe)
  sum_told {s} e h = h ∙ ap₂ (λ (x : ℕ) (y : List ℕ). same_bytes (zeros x) y) (ap length e ∙ length_combined b n u at stripe) e

  pub vanish_told : {l : ℕ} → Consecutive n b at → l ≡ b → t ≡ same_bytes (zeros l) (combined l n u at stripe)
      → t ≡ same_bytes (zeros b) (combined_blocks b n u stripe)
  vanish_told {l} one e h =
      h ∙ ap (λ (x : ℕ). same_bytes (zeros x) (combined x n u at stripe)) e ∙ ap (same_bytes (zeros b)) (combined_slots b n u at stripe one)
