-- A mark sets its own bit and changes no other, keeps the kind and the word below 2 ^ 32, and is one mark more where it was missing.
-- Assumes nothing.
use mathlib.Core.Path.{◌≡◌, refl, sym, ap, ◌∙◌}
use mathlib.Core.Bool.{Bool, true, false}
use Prim.Native.Nat.{ℕ, ◌+◌, ◌-◌, ◌*◌, ◌/◌, ◌%◌, ◌^◌, ◌<◌}
use native.Mathlib.Nat.{one-mul, add-mul-div_right}
use native.Mathlib.Decide.{dec_lt}
use native.Mathlib.Omega.{arith}
use lib.Pow.{pow_pos, pow-add, shr-shr}
use Rattle.base.specs.Folds.{sum, indicator}
use Rattle.base.proofs.Choice.{if_true, if_false}
use Rattle.base.proofs.Sums.{sum_more}
use Rattle.wire.specs.Words.{kind_of, bit}
use Rattle.records.specs.Records.{set_bit}
use Rattle.records.specs.Claims.{MarkClaims}
use Rattle.records.proofs.Digits.{clear_digit, digit_set}

-- ---- 2 ^ e added: the digits from e on; those above e, where bit e was clear; those below e

added_here : (x e : ℕ) → (x + 2 ^ e) / 2 ^ e ≡ x / 2 ^ e + 1
added_here x e = rw one-mul at (add-mul-div_right x 1 {z = 2 ^ e} (pow_pos e))

added_above : (x e f : ℕ) → bit x e ≡ false → e < f → (x + 2 ^ e) / 2 ^ f ≡ x / 2 ^ f
added_above x e f h l =
    let c = clear_digit x e h in
    let j : ℕ = f - (e + 1) in
    let q : f ≡ (e + 1) + j = omega arith in
    let g : (y : ℕ) → y / 2 ^ f ≡ y / 2 ^ e / 2 ^ 1 / 2 ^ j =
    λ y. ap (λ (i : ℕ). y / 2 ^ i) q ∙ sym (rw (shr-shr y e 1) (shr-shr y (e + 1) j)) in
    let same : (x / 2 ^ e + 1) / 2 ≡ x / 2 ^ e / 2 = omega arith in
    rw (g (x + 2 ^ e), g x, added_here, same)

added_below : (x e f : ℕ) → f < e → (x + 2 ^ e) / 2 ^ f % 2 ≡ x / 2 ^ f % 2
added_below x e f l =
    let j : ℕ = e - (f + 1) in
    let q : e ≡ (1 + j) + f = omega arith in
    let t : 2 ^ (1 + j) ≡ 2 * 2 ^ j = pow-add 2 1 j in
    rw (q, pow-add 2 (1 + j) f, add-mul-div_right x (2 ^ (1 + j)) {z = 2 ^ f} (pow_pos f), t) (omega arith)

-- a word of 32 bits stays one
pub set_fits : (x e : ℕ) → e < 32 → x < 4294967296 → bit x e ≡ false → x + 2 ^ e < 4294967296
set_fits x e l m h = let a = added_above x e 32 h l in omega arith

-- ---- a mark

pub set_clear : (x e : ℕ) → bit x e ≡ false → set_bit x e ≡ x + 2 ^ e
unfolding set_bit
set_clear x e h = if_false (bit x e) x (x + 2 ^ e) h

pub set_again : (x e : ℕ) → bit x e ≡ true → set_bit x e ≡ x
unfolding set_bit
set_again x e h = if_true (bit x e) x (x + 2 ^ e) h

pub set_same : (x e : ℕ) → bit (set_bit x e) e ≡ true
set_same x e = go (bit x e) refl
  where
    go : (t : Bool) → bit x e ≡ t → bit (set_bit x e) e ≡ true
    go true h = rw (set_again x e h) h
    go false h =
        let c = clear_digit x e h in
        let here = added_here x e in
        rw (set_clear x e h) (digit_set (x + 2 ^ e) e (omega (arith, here, c)))

pub set_other : (x e f : ℕ) → (e ≡ f → ⊥) → bit (set_bit x e) f ≡ bit x f
unfolding bit
set_other x e f d = go (bit x e) refl (dec_lt e f)
  where
    go : (t : Bool) → bit x e ≡ t → Dec (e < f) → bit (set_bit x e) f ≡ bit x f
    go true h o = rw (set_again x e h)
    go false h (yes l) = rw (set_clear x e h, added_above x e f h l)
    go false h (no l) = rw (set_clear x e h, added_below x e f (omega arith))

-- the bits above 27 stay
pub set_above : (x e : ℕ) → e < 28 → set_bit x e / 268435456 ≡ x / 268435456
set_above x e l = go (bit x e) refl
  where
    go : (t : Bool) → bit x e ≡ t → set_bit x e / 268435456 ≡ x / 268435456
    go true h = rw (set_again x e h)
    go false h = rw (set_clear x e h) (added_above x e 28 h l)

pub set_kind : (x e : ℕ) → e < 28 → kind_of (set_bit x e) ≡ kind_of x
set_kind x e l = ap (λ (y : ℕ). y % 16) (set_above x e l)

pub set_more : (x e n : ℕ) → e < n → bit x e ≡ false → sum n (λ i. indicator (bit (set_bit x e) i)) ≡ sum n (λ i. indicator (bit x i)) + 1
set_more x e n l h =
    sum_more n (λ i. indicator (bit x i)) (λ i. indicator (bit (set_bit x e) i)) e l
    (rw (set_same x e, h))
    (λ i d. rw (set_other x e i (λ q. d (sym q))))

pub mark_holds : MarkClaims
mark_holds = record { same = set_same; other = set_other; kind = set_kind; again = set_again; more = set_more }
