-- The bits of a word as its binary digits: of what is above a place, of what is below it, and of the lowest ones. Assumes nothing.
use mathlib.Core.Path.{◌≡◌, refl, sym, ap, ◌∙◌}
use mathlib.Core.Bool.{Bool, true, false, not, ◌&&◌, ◌||◌}
use mathlib.Core.Logic.{◌⊎◌, inl, inr}
use Prim.Native.Nat.{ℕ, zero, suc, ◌+◌, ◌-◌, ◌*◌, ◌/◌, ◌%◌, ◌^◌, ◌≤◌, ◌<◌}
use native.Mathlib.Nat.{mod-lt, zero-div, add_comm, eq-or-lt_of_le, le_of_suc-le-suc}
use native.Mathlib.Numerals.{add-one}
use native.Mathlib.Omega.{arith}
use lib.Dec.{eqb, ltb}
use lib.Pow.{pow_pos, pow_mono, shr-shr, mod-pow-add, field, mod-mod-pow}
use borrow.Author.Tests.{eq-eqb, eqb-true, eqb-false, lt-ltb, le-ltb}
use Rattle.base.specs.Tests.{every}
use Rattle.base.proofs.Tests.{every_intro}
use Rattle.wire.specs.Words.{bit}

-- a bit that is set is the digit 1, one that is not is 0
pub set_digit : (x e : ℕ) → bit x e ≡ true → x / 2 ^ e % 2 ≡ 1
unfolding bit
set_digit x e h = eqb-true (x / 2 ^ e % 2) 1 h

pub clear_digit : (x e : ℕ) → bit x e ≡ false → x / 2 ^ e % 2 ≡ 0
unfolding bit
clear_digit x e h = let d = eqb-false (x / 2 ^ e % 2) 1 h in omega arith

pub digit_set : (x e : ℕ) → x / 2 ^ e % 2 ≡ 1 → bit x e ≡ true
unfolding bit
digit_set x e h = eq-eqb (x / 2 ^ e % 2) 1 h

pub zero_bit : (e : ℕ) → bit 0 e ≡ false
unfolding bit
zero_bit e = rw zero-div

-- the bits below a place are those of the rest below it
pub low_bit : (x e m : ℕ) → e < m → bit (x % 2 ^ m) e ≡ bit x e
unfolding bit
low_bit x e m l =
    let j : ℕ = m - (e + 1) in
    let q : (j + 1) + e ≡ m = omega arith in
    let f : x % 2 ^ m / 2 ^ e ≡ x / 2 ^ e % 2 ^ (j + 1) = ap (λ (y : ℕ). x % 2 ^ y / 2 ^ e) (sym q) ∙ field x (j + 1) e in
    let g : x / 2 ^ e % 2 ^ (j + 1) % 2 ≡ x / 2 ^ e % 2 = mod-mod-pow (x / 2 ^ e) j 1 in
    ap (λ (y : ℕ). eqb (y % 2) 1) f ∙ ap (λ (y : ℕ). eqb y 1) g

-- bit e of the half is bit e + 1
pub half_bit : (x e : ℕ) → bit (x / 2) e ≡ bit x (suc e)
unfolding bit
half_bit x e = ap (λ (y : ℕ). eqb (y % 2) 1) (shr-shr x 1 e ∙ ap (λ (y : ℕ). x / 2 ^ y) (add_comm 1 e ∙ add-one e))

-- one digit more: the rest below m + 1 is the digit at m and the rest below m
pub digit_more : (x m : ℕ) → x % 2 ^ suc m ≡ x / 2 ^ m % 2 * 2 ^ m + x % 2 ^ m
digit_more x m = ap (λ (y : ℕ). x % 2 ^ y) (sym (add_comm 1 m ∙ add-one m)) ∙ mod-pow-add x 1 m

module _ (x n : ℕ) where
  -- bit e is clear if it stands at n or above
  abbrev pub clear_at : ℕ → Bool
  clear_at e = ltb e n || not (bit x e)

  clear_none : (m : ℕ) → n ≡ m → every m clear_at ≡ ltb (x % 2 ^ m) (2 ^ n)
  clear_none m e =
      ap (λ (y : ℕ). every y clear_at) (sym e)
      ∙ every_intro n clear_at (λ i l. rw (lt-ltb i n l))
      ∙ sym (lt-ltb (x % 2 ^ n) (2 ^ n) (mod-lt x (pow_pos n)))
      ∙ ap (λ (y : ℕ). ltb (x % 2 ^ y) (2 ^ n)) e

  clear_more : (m : ℕ) → n ≤ m → every m clear_at ≡ ltb (x % 2 ^ m) (2 ^ n) → every (suc m) clear_at ≡ ltb (x % 2 ^ suc m) (2 ^ n)
  unfolding every
  clear_more m h before = go (bit x m) refl
    where
      d : x % 2 ^ suc m ≡ x / 2 ^ m % 2 * 2 ^ m + x % 2 ^ m
      d = digit_more x m

      up : 2 ^ n ≤ 2 ^ m
      up = pow_mono h

      go : (t : Bool) → bit x m ≡ t → (ltb m n || not (bit x m)) && every m clear_at ≡ ltb (x % 2 ^ suc m) (2 ^ n)
      go true p =
          let one : x / 2 ^ m % 2 * 2 ^ m ≡ 2 ^ m = rw (set_digit x m p) (omega arith) in
          rw (le-ltb m n h, p) (sym (le-ltb (x % 2 ^ suc m) (2 ^ n) (omega (arith, d, one, up))))
      go false p =
          let none : x / 2 ^ m % 2 * 2 ^ m ≡ 0 = rw (clear_digit x m p) (omega arith) in
          let same : x % 2 ^ m ≡ x % 2 ^ suc m = omega (arith, d, none) in
          rw (le-ltb m n h, p) (before ∙ ap (λ (y : ℕ). ltb y (2 ^ n)) same)

  -- all bits from n up to m are clear exactly if the rest below m is below 2 ^ n
  pub clear_from : (m : ℕ) → n ≤ m → every m clear_at ≡ ltb (x % 2 ^ m) (2 ^ n)
  clear_from zero h = clear_none zero (omega arith)
  clear_from (suc m) h = go (eq-or-lt_of_le h) (clear_from m)
    where
      go : (n ≡ suc m) ⊎ (n < suc m) → (n ≤ m → every m clear_at ≡ ltb (x % 2 ^ m) (2 ^ n))
          → every (suc m) clear_at ≡ ltb (x % 2 ^ suc m) (2 ^ n)
      go (inl e) before = clear_none (suc m) e
      go (inr l) before = clear_more m (le_of_suc-le-suc l) (before (le_of_suc-le-suc l))
