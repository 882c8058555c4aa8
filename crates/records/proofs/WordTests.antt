-- The tests of a stripe's words by arithmetic: unnamed bits by a bound, sets of bits by whole words. Assumes nothing.
use mathlib.Core.Path.{◌≡◌, refl, sym, ap, ap₂, ◌∙◌}
use mathlib.Core.Bool.{Bool, true, false, not, ◌||◌}
use mathlib.Core.List.{[], ◌∷◌}
use Prim.Native.Nat.{ℕ, ◌+◌, ◌%◌, ◌^◌, ◌<◌}
use native.Mathlib.Omega.{arith}
use lib.Dec.{eqb, ltb}
use lib.Bits.{bit_and}
use lib.Count.{ones}
use borrow.Author.Tests.{ltb-true, le-ltb, eq-eqb, ne_eqb, eqb-true}
use Rattle.base.specs.Tests.{if, only_if, every, all}
use Rattle.base.specs.Folds.{indicator}
use Rattle.base.proofs.Tests.{clash, off, and_left, both_ways, Eqb, equal, other, eqb_view, every_same, every_intro, every_at, all_true}
use Rattle.base.proofs.Tests.{every_suc, only_if_law, if_only}
use Rattle.base.proofs.Sums.{sum_same}
use Rattle.layout.specs.declared.Shape.{Shape}
use Rattle.layout.specs.Ranges.{InRanges}
use Rattle.layout.specs.Counts.{transfers}
use Rattle.layout.proofs.Bounds.{transfers_le}
use Rattle.wire.specs.Words.{field, word, kind_of, rest_of, bit}
use Rattle.records.specs.declared.StripeRecord.{StripeRecord}
use Rattle.records.specs.Records.{is_accepted, is_receipted}
use Rattle.records.specs.Conditions.{accepted_names, progress_names, only_named, of_kind, accepted_ok, progress_ok}
use Rattle.records.specs.Stages.{accepted_count}
use Rattle.records.specs.Claims.{WordClaims}
use Rattle.records.proofs.Digits.{low_bit, zero_bit, clear_at, clear_from}
use Rattle.records.proofs.Subsets.{subset_test, full_test, none_set, ones_bits}

-- ---- the kind

-- of a word of 32 bits it is the highest four
kind_test : (kind x : ℕ) → kind < 16 → x < 4294967296 → of_kind kind x ≡ eqb (kind_of x) kind
kind_test kind x few small =
    both_ways (of_kind kind x) (eqb (kind_of x) kind)
    (λ t. let is : x ≡ word kind (field 28 (rest_of x) ∷ []) = eqb-true _ _ t in eq-eqb (kind_of x) kind (omega (arith, is)))
    (λ t. let is : kind_of x ≡ kind = eqb-true _ _ t in eq-eqb x (word kind (field 28 (rest_of x) ∷ [])) (omega (arith, is)))

-- a word that passes is one of 32 bits
pub kind_fits : (kind x : ℕ) → kind < 16 → of_kind kind x ≡ true → (kind_of x ≡ kind) × (x < 2 ^ 32)
kind_fits kind x few t =
    let is : x ≡ word kind (field 28 (rest_of x) ∷ []) = eqb-true _ _ t in
    (omega (arith, is), omega (arith, is))

pub words_hold : (z : Shape) → WordClaims z
unfolding accepted_ok progress_ok
words_hold z = record {
  accepted = λ x h. kind_fits 10 x (omega arith) (and_left (of_kind 10 x) _ h);
  progress = λ x h. kind_fits 11 x (omega arith) (and_left (of_kind 11 x) _ h);
}

module _ (z : Shape) (ok : InRanges z) where
  -- bits 0 to 27, those from the number of transfers on clear
  abbrev pub accepted_tests : ℕ → Bool
  accepted_tests x = all (eqb (kind_of x) 10 ∷ ltb (x % 268435456) (2 ^ transfers z) ∷ [])

  accepted_named : (x : ℕ) → only_named (accepted_names z) x ≡ ltb (x % 268435456) (2 ^ transfers z)
  unfolding only_named
  accepted_named x = let l = transfers_le z ok in clear_from x (transfers z) 28 (omega arith)

  pub accepted_number : (x : ℕ) → x < 4294967296 → accepted_ok z x ≡ accepted_tests x
  unfolding accepted_ok
  accepted_number x small = rw (kind_test 10 x (omega arith) small, accepted_named x)

  -- bits 26 and 27 have names of their own
  sent_named : (x e : ℕ) → e < 26 → progress_names z e || not (bit x e) ≡ accepted_names z e || not (bit x e)
  sent_named x e l = rw (ne_eqb e 26 (omega arith), ne_eqb e 27 (omega arith)) (go (ltb e (transfers z)))
    where
      go : (t : Bool) → (t || false) || not (bit x e) ≡ t || not (bit x e)
      go true = refl
      go false = refl

  abbrev pub progress_tests : ℕ → Bool
  progress_tests x = all (eqb (kind_of x) 11 ∷ ltb (x % 67108864) (2 ^ transfers z) ∷ [])

  sent_named_all : (x : ℕ) → only_named (progress_names z) x ≡ ltb (x % 67108864) (2 ^ transfers z)
  unfolding only_named
  sent_named_all x =
      let l = transfers_le z ok in
      let f : ℕ → Bool = λ e. progress_names z e || not (bit x e) in
      every_suc 27 f
      ∙ rw (le-ltb 27 (transfers z) (omega arith))
      (every_suc 26 f ∙ rw (le-ltb 26 (transfers z) (omega arith))
      (every_same 26 f (clear_at x (transfers z)) (sent_named x) ∙ clear_from x (transfers z) 26 (omega arith)))

  pub sent_number : (x : ℕ) → x < 4294967296 → progress_ok z x ≡ progress_tests x
  unfolding progress_ok
  sent_number x small = rw (kind_test 11 x (omega arith) small, sent_named_all x)

  -- what the tests say of the bits below the marks' room
  accepted_room : (x : ℕ) → accepted_ok z x ≡ true → x % 268435456 < 2 ^ transfers z
  unfolding accepted_ok
  accepted_room x h = ltb-true _ _ (sym (accepted_named x) ∙ (all_true (of_kind 10 x ∷ only_named (accepted_names z) x ∷ []) h).1.0)

  sent_room : (x : ℕ) → progress_ok z x ≡ true → x % 67108864 < 2 ^ transfers z
  unfolding progress_ok
  sent_room x h = ltb-true _ _ (sym (sent_named_all x) ∙ (all_true (of_kind 11 x ∷ only_named (progress_names z) x ∷ []) h).1.0)

  module _ (r : StripeRecord) where
    accepted_bit : (e : ℕ) → e < transfers z → bit (r.accepted % 268435456) e ≡ is_accepted r e
    unfolding is_accepted
    accepted_bit e l = let m = transfers_le z ok in low_bit r.accepted e 28 (omega arith)

    receipted_bit : (e : ℕ) → e < transfers z → bit (r.progress % 67108864) e ≡ is_receipted r e
    unfolding is_receipted
    receipted_bit e l = let m = transfers_le z ok in low_bit r.progress e 26 (omega arith)

    pub accepted_ones : accepted_ok z r.accepted ≡ true → ones (r.accepted % 268435456) ≡ accepted_count z r
    accepted_ones a =
        ones_bits (transfers z) (r.accepted % 268435456) (accepted_room r.accepted a)
        ∙ sum_same (transfers z) _ _ (λ e l. ap indicator (accepted_bit e l))

    pub within_test : progress_ok z r.progress ≡ true
        → eqb (bit_and (r.progress % 67108864) (r.accepted % 268435456)) (r.progress % 67108864)
        ≡ every (transfers z) (λ e. only_if (is_receipted r e) (is_accepted r e))
    within_test s =
        subset_test (transfers z) (r.progress % 67108864) (r.accepted % 268435456) (sent_room r.progress s)
        ∙ every_same (transfers z) _ _ (λ e l. ap₂ only_if (receipted_bit e l) (accepted_bit e l))

    pub receipted_test : progress_ok z r.progress ≡ true
        → eqb (r.progress % 67108864 + 1) (2 ^ transfers z) ≡ every (transfers z) (is_receipted r)
    receipted_test s =
        full_test (transfers z) (r.progress % 67108864) (sent_room r.progress s)
        ∙ every_same (transfers z) _ _ (λ e l. receipted_bit e l)

    -- no transfer is accepted where the bits are 0; and where they are not, some is
    pub computed_test : accepted_ok z r.accepted ≡ true → (c : Bool)
        → if (eqb (r.accepted % 268435456) 0) true c ≡ every (transfers z) (λ e. only_if (is_accepted r e) c)
    computed_test a c = go (eqb (r.accepted % 268435456) 0) (eqb_view (r.accepted % 268435456) 0) c
      where
        marked : ℕ
        marked = r.accepted % 268435456

        go : (t : Bool) → Eqb marked 0 t → (c : Bool) → if t true c ≡ every (transfers z) (λ e. only_if (is_accepted r e) c)
        go true (equal q) c =
            let clear : (e : ℕ) → bit marked e ≡ false = λ e. ap (λ (x : ℕ). bit x e) q ∙ zero_bit e in
            sym (every_intro (transfers z) _ (λ e l. only_if_law (is_accepted r e) c
            (λ b. absurd (clash (accepted_bit e l ∙ b) (clear e)))))
        go false (other d) true = sym (every_intro (transfers z) _ (λ e l. only_if_law (is_accepted r e) true (λ b. refl)))
        go false (other d) false =
            sym (off (λ p.
            let none : (e : ℕ) → e < transfers z → bit marked e ≡ false =
            λ e l. off (λ b. clash (if_only (is_accepted r e) false (every_at (transfers z) (λ i. only_if (is_accepted r i) false) p e l)
            (sym (accepted_bit e l) ∙ b)) refl) in
            d (none_set (transfers z) marked (accepted_room r.accepted a) none)))
