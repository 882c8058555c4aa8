-- The outcomes of rebuild that refuse. Assumes nothing.
use mathlib.Core.Path.{◌≡◌, refl, sym, ap, ◌∙◌}
use mathlib.Core.List.{List, [], ◌∷◌}
use Prim.Native.Nat.{ℕ, zero, suc, ◌<◌}
use native.Mathlib.Omega.{arith}
use lib.ListN.{get_or}
use Rattle.base.specs.Tests.{every}
use Rattle.base.specs.Folds.{table}
use Rattle.gf256.specs.Field.{xtime, mul_bits, mul, pow, xor_sum}
use Rattle.area.specs.Area.{block, slot}
use Rattle.combine.specs.Combination.{combination}
use Rattle.code.specs.Rows.{coefficient, parity_row}
use Rattle.code.specs.Agreement.{stripe_block, Agrees}
use Rattle.code.proofs.Laws.{parity_row_same}
use Rattle.recovery.specs.Rebuild.{is_flag, rebuild_refusal, Two, None, refused, several, nothing, stripe_multiplier}
use Rattle.scenarios.specs.Rebuilt.{RebuildRefusals}

abbrev all_lost : List ℕ
all_lost = 1 ∷ 1 ∷ []

abbrev none_lost : List ℕ
none_lost = 0 ∷ 0 ∷ []

-- where both blocks are lost, any byte agrees
lost_agrees : (stripe : List ℕ) (x : ℕ) → x < 256 → Agrees stripe_multiplier 2 1 1 all_lost stripe (x ∷ [])
lost_agrees stripe x l = record { size = refl; bytes = small; present = λ p h e. absurd (lost p h e) }
  where
    small : (i : ℕ) → get_or (x ∷ []) i 0 < 256
    small zero = l
    small (suc i) = omega arith

    lost : (p : ℕ) → p < 2 → get_or all_lost p 0 ≡ 0 → ⊥
    lost zero h e = omega arith
    lost (suc zero) h e = omega arith
    lost (suc (suc p)) h e = omega arith

two_agree : (stripe : List ℕ) → Two stripe_multiplier 2 1 1 all_lost stripe
two_agree stripe = record {
  one = 0 ∷ [];
  other = 1 ∷ [];
  one_agrees = lost_agrees stripe 0 (omega arith);
  other_agrees = lost_agrees stripe 1 (omega arith);
  differ = λ e. (let q : ◌≡◌ {A = ℕ} 0 1 = ap (λ (l : List ℕ). get_or l 0 0) e in omega arith);
}

-- the row over one column is that column: 05 is not 06
none_agrees : None stripe_multiplier 2 1 1 none_lost (0x05 ∷ 0x06 ∷ [])
unfolding slot block table stripe_block parity_row combination coefficient xor_sum mul mul_bits xtime pow
none_agrees d a =
    let column = a.present 0 (omega arith) refl in
    let row = a.present 1 (omega arith) refl in
    let same = row ∙ parity_row_same stripe_multiplier 1 1 0 (slot d 1) (λ c. 0x05 ∷ []) (λ c l. only c l column) in
    let q : ◌≡◌ {A = ℕ} 6 5 = ap (λ (l : List ℕ). get_or l 0 0) same in
    omega arith
  where
    only : (c : ℕ) → c < 1 → 0x05 ∷ [] ≡ slot d 1 0 → slot d 1 c ≡ 0x05 ∷ []
    only zero l e = sym e
    only (suc c) l e = absurd (omega arith)

pub rebuild_refusals : RebuildRefusals
unfolding rebuild_refusal every is_flag
rebuild_refusals = record {
  ranges = refused (omega arith);
  stripe_length = refused (omega arith);
  losses_length = refused (omega arith);
  loss_byte = refused (omega arith);
  several = several refl (two_agree (0x05 ∷ 0x05 ∷ []));
  none = nothing refl none_agrees;
}
