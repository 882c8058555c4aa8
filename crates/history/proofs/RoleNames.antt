-- Which roles there are, and that roles of different names are different. Assumes nothing.
use mathlib.Core.Path.{◌≡◌, refl, sym, ap, ap₂, ◌∙◌}
use mathlib.Core.Bool.{Bool, true, false, ◌&&◌}
use Prim.Native.Nat.{ℕ, ◌+◌, ◌-◌, ◌≤◌, ◌<◌}
use native.Mathlib.Omega.{arith}
use lib.Dec.{eqb, leb, ltb}
use borrow.Author.Tests.{lt-ltb, leb-true, ltb-true, ltb-false, eqb-false}
use Rattle.base.specs.Tests.{if, same2}
use Rattle.base.proofs.Choice.{if_cases, if_both}
use Rattle.base.proofs.Tests.{clash, and_left, and_right, and_both, first_lt, second_lt, same2_refl}
use Rattle.layout.specs.declared.Shape.{Shape}
use Rattle.layout.specs.Ranges.{rows}
use Rattle.layout.specs.Counts.{kept, stripes, transfers}
use Rattle.layout.specs.Transfers.{is_delta, new_node_of, receiver}
use Rattle.layout.specs.Roles.{Role, kept_data, kept_row, source, dissolved_row, new_cell, role_exists, role_node, role_slot}
use Rattle.history.proofs.Growths.{target_role}

-- ---- the parts of a role: which of the five it is, and its two numbers

abbrev pub kind_of : Role → ℕ
kind_of (kept_data w d) = 0
kind_of (kept_row w j) = 1
kind_of (source w t) = 2
kind_of (dissolved_row g j) = 3
kind_of (new_cell w t) = 4

abbrev pub stripe_in : Role → ℕ
stripe_in (kept_data w d) = w
stripe_in (kept_row w j) = w
stripe_in (source w t) = w
stripe_in (dissolved_row g j) = g
stripe_in (new_cell w t) = w

abbrev number_in : Role → ℕ
number_in (kept_data w d) = d
number_in (kept_row w j) = j
number_in (source w t) = t
number_in (dissolved_row g j) = j
number_in (new_cell w t) = t

-- roles of two kinds are different
pub other_kind : (a c : Role) → eqb (kind_of a) (kind_of c) ≡ false → a ≡ c → ⊥
other_kind a c t e = eqb-false (kind_of a) (kind_of c) t (ap kind_of e)

-- ---- the cell that a transfer is for

-- a row from 1 on, or a cell of a new node
abbrev pub is_target : Role → Bool
is_target (kept_data w d) = false
is_target (kept_row w j) = ltb 0 j
is_target (source w t) = false
is_target (dissolved_row g j) = false
is_target (new_cell w t) = true

module _ (z : Shape) where
  target_is : (w e : ℕ) → is_target (target_role z w e) ≡ true
  unfolding target_role
  target_is w e = if_cases (λ (a : Role). is_target a ≡ true) (is_delta z e) _ _ (λ _. lt-ltb 0 (e + 1) (omega arith)) (λ _. refl)

  pub target_other : (w e : ℕ) (c : Role) → is_target c ≡ false → target_role z w e ≡ c → ⊥
  target_other w e c t p = clash (target_is w e) (ap is_target p ∙ t)

  target_stripe_law : (w e : ℕ) → stripe_in (target_role z w e) ≡ w
  unfolding target_role
  target_stripe_law w e = if_cases (λ (a : Role). stripe_in a ≡ w) (is_delta z e) _ _ (λ _. refl) (λ _. refl)

  pub target_slot : (w e : ℕ) → role_slot z (target_role z w e) ≡ w
  unfolding target_role
  target_slot w e = if_cases (λ (a : Role). role_slot z a ≡ w) (is_delta z e) _ _ (λ _. refl) (λ _. refl)

  pub target_node : (w e : ℕ) → role_node z (target_role z w e) ≡ receiver z w e
  unfolding target_role receiver
  target_node w e = if_both (λ (a : Role) (v : ℕ). role_node z a ≡ v) (is_delta z e) _ _ _ _ (λ _. refl) (λ _. refl)

  -- ---- roles that there are
  pub row_exists : (w j : ℕ) → w < kept z → j < rows z → role_exists z (kept_row w j) ≡ true
  row_exists w j p q = and_both (ltb w (kept z)) (ltb j (rows z)) (lt-ltb w (kept z) p) (lt-ltb j (rows z) q)

  pub source_exists : (w t : ℕ) → w < kept z → t < z.s → role_exists z (source w t) ≡ true
  source_exists w t p q = and_both (ltb w (kept z)) (ltb t z.s) (lt-ltb w (kept z) p) (lt-ltb t z.s q)

  -- the cell for w on node n + t is there for the same w and t as the source of new block t
  pub target_exists : (w e : ℕ) → w < kept z → e < transfers z → role_exists z (target_role z w e) ≡ true
  unfolding target_role transfers
  target_exists w e p q = if_cases (λ (a : Role). role_exists z a ≡ true) (is_delta z e) _ _
      (λ t. row_exists w (e + 1) p (omega (arith, ltb-true e (rows z - 1) t)))
      (λ t. source_exists w (new_node_of z e) p (omega (arith, ltb-false e (rows z - 1) t)))

  -- ---- what it takes to be there
  pub data_kept : (w d : ℕ) → role_exists z (kept_data w d) ≡ true → w < kept z
  data_kept w d e = first_lt w (kept z) (ltb d z.k) e

  pub row_kept : (w j : ℕ) → role_exists z (kept_row w j) ≡ true → w < kept z
  row_kept w j e = first_lt w (kept z) (ltb j (rows z)) e

  pub source_kept : (w t : ℕ) → role_exists z (source w t) ≡ true → w < kept z
  source_kept w t e = first_lt w (kept z) (ltb t z.s) e

  pub source_below : (w t : ℕ) → role_exists z (source w t) ≡ true → t < z.s
  source_below w t e = second_lt (ltb w (kept z)) t z.s e

  pub target_kept : (w e : ℕ) → role_exists z (target_role z w e) ≡ true → w < kept z
  unfolding target_role
  target_kept w e = if_cases (λ (a : Role). role_exists z a ≡ true → w < kept z) (is_delta z e) _ _
      (λ _. row_kept w (e + 1)) (λ _. source_kept w (new_node_of z e))

  pub dissolved_from : (g j : ℕ) → role_exists z (dissolved_row g j) ≡ true → kept z ≤ g
  dissolved_from g j e = leb-true (kept z) g (and_left (leb (kept z) g) (ltb g (stripes z) && ltb j (rows z)) e)

  pub dissolved_below : (g j : ℕ) → role_exists z (dissolved_row g j) ≡ true → g < stripes z
  dissolved_below g j e = first_lt g (stripes z) (ltb j (rows z)) (and_right (leb (kept z) g) (ltb g (stripes z) && ltb j (rows z)) e)

  -- ---- the transfers of a stripe are for different cells
  target_number : (w e x f : ℕ) → target_role z w e ≡ target_role z x f → e ≡ f
  unfolding target_role
  target_number w e x f p = go (is_delta z e) (is_delta z f) refl refl p
    where
      go : (s t : Bool) → is_delta z e ≡ s → is_delta z f ≡ t
          → if s (kept_row w (e + 1)) (new_cell w (new_node_of z e)) ≡ if t (kept_row x (f + 1)) (new_cell x (new_node_of z f)) → e ≡ f
      go true true a b q = omega (arith, ap number_in q)
      go true false a b q = absurd (omega (arith, ap kind_of q))
      go false true a b q = absurd (omega (arith, ap kind_of q))
      go false false a b q = omega (arith, ap number_in q, ltb-false e (rows z - 1) a, ltb-false f (rows z - 1) b)

  pub targets_differ : (w e x f : ℕ) → same2 x w f e ≡ false → target_role z w e ≡ target_role z x f → ⊥
  targets_differ w e x f t p =
      let same_stripe : w ≡ x = sym (target_stripe_law w e) ∙ (ap stripe_in p ∙ target_stripe_law x f) in
      clash (same2_refl w e) (ap₂ (λ (y g : ℕ). same2 y w g e) same_stripe (target_number w e x f p) ∙ t)
