-- Words of one kind, with the same named bits and no others, are the same. Assumes nothing.
use mathlib.Core.Path.{◌≡◌, refl, sym, ap₂, ◌∙◌}
use mathlib.Core.Bool.{Bool, true, false, not, ◌||◌}
use mathlib.Core.List.{[], ◌∷◌}
use Prim.Native.Nat.{ℕ, zero, suc, ◌+◌, ◌*◌, ◌/◌, ◌%◌, ◌^◌, ◌<◌}
use native.Mathlib.Omega.{arith}
use Rattle.base.proofs.Tests.{off, clash, every_at, all_true}
use Rattle.wire.specs.Words.{kind_of, bit}
use Rattle.records.specs.Conditions.{only_named, of_kind, word_ok}
use Rattle.records.proofs.Digits.{set_digit, clear_digit, digit_more}
use Rattle.records.proofs.WordTests.{kind_fits}

-- the same bit is the same digit
same_digit : (x y e : ℕ) → bit x e ≡ bit y e → x / 2 ^ e % 2 ≡ y / 2 ^ e % 2
same_digit x y e h = go (bit x e) refl
  where
    go : (t : Bool) → bit x e ≡ t → x / 2 ^ e % 2 ≡ y / 2 ^ e % 2
    go true p = set_digit x e p ∙ sym (set_digit y e (sym h ∙ p))
    go false p = clear_digit x e p ∙ sym (clear_digit y e (sym h ∙ p))

-- the same bits below m are the same rest
same_rest : (x y m : ℕ) → ((e : ℕ) → e < m → bit x e ≡ bit y e) → x % 2 ^ m ≡ y % 2 ^ m
same_rest x y zero h = omega arith
same_rest x y (suc m) h =
    digit_more x m
    ∙ ap₂ (λ (d r : ℕ). d * 2 ^ m + r) (same_digit x y m (h m (omega arith))) (same_rest x y m (λ e l. h e (omega arith)))
    ∙ sym (digit_more y m)

same_word : (x y : ℕ) → x < 2 ^ 32 → y < 2 ^ 32 → kind_of x ≡ kind_of y → ((e : ℕ) → e < 28 → bit x e ≡ bit y e) → x ≡ y
same_word x y lx ly k h = let r : x % 268435456 ≡ y % 268435456 = same_rest x y 28 h in omega arith

-- a word that passes its test has no bit without a name
module _ (kind : ℕ) (named : ℕ → Bool) (x : ℕ) (ok : word_ok kind named x ≡ true) where
  of_kind_law : kind < 16 → (kind_of x ≡ kind) × (x < 2 ^ 32)
  of_kind_law l = kind_fits kind x l (all_true (of_kind kind x ∷ only_named named x ∷ []) ok).0

  unnamed : (e : ℕ) → e < 28 → named e ≡ false → bit x e ≡ false
  unfolding only_named
  unnamed e l n =
      let p = every_at 28 (λ i. named i || not (bit x i)) (all_true (of_kind kind x ∷ only_named named x ∷ []) ok).1.0 e l in
      off (λ b. clash (rw (n, b) at p) refl)

pub words_same : (kind : ℕ) → kind < 16 → (named : ℕ → Bool) (x y : ℕ) → word_ok kind named x ≡ true → word_ok kind named y ≡ true
    → ((e : ℕ) → e < 28 → named e ≡ true → bit x e ≡ bit y e) → x ≡ y
words_same kind lk named x y okx oky h =
    let of-x = of_kind_law kind named x okx lk in
    let of-y = of_kind_law kind named y oky lk in
    same_word x y of-x.1 of-y.1 (of-x.0 ∙ sym of-y.0) (λ e l. go e l (named e) refl)
  where
    go : (e : ℕ) → e < 28 → (t : Bool) → named e ≡ t → bit x e ≡ bit y e
    go e l true n = h e l n
    go e l false n = unnamed kind named x okx e l n ∙ sym (unnamed kind named y oky e l n)
