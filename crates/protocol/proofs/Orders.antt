-- Whatever the marks, there is an order that completes the growth: by falling number. Assumes nothing.
use mathlib.Core.Path.{◌≡◌, refl, ◌∙◌}
use mathlib.Core.Bool.{Bool, true, false, not, ◌&&◌}
use mathlib.Core.List.{List, [], ◌∷◌}
use Prim.Native.Nat.{ℕ, zero, suc, ◌+◌, ◌*◌}
use native.Mathlib.Nat.{add-zero}
use native.Mathlib.Omega.{arith}
use Rattle.base.specs.Tests.{if, same, below, same2}
use Rattle.base.proofs.Tests.{off, both_ways, same_eq, same_not, below_lt, lt_below}
use Rattle.protocol.specs.Transfers.{times, Transfer, occurrences}
use Rattle.protocol.specs.Parts.{Growth}
use Rattle.protocol.specs.World.{Journal}
use Rattle.protocol.specs.Completions.{NamesOnce, NamesThrice, Order, Completes}

-- the numbers below n that lack the mark
unfoldable lacking : ℕ → (ℕ → Bool) → List ℕ
lacking zero mark = []
lacking (suc n) mark = if (mark n) (lacking n mark) (n ∷ lacking n mark)

none_below : (x : ℕ) → below x 0 ≡ false
none_below x = off (λ h. let l = below_lt x 0 h in omega arith)

-- x is below n + 1 if it is n, and else if it is below n
below_next : (x n : ℕ) → below x (suc n) ≡ if (same x n) true (below x n)
below_next x n = go (same x n) refl
  where
    go : (b : Bool) → same x n ≡ b → below x (suc n) ≡ if b true (below x n)
    go true p = let e = same_eq x n p in lt_below x (suc n) (omega arith)
    go false p = let d = same_not x n p in both_ways (below x (suc n)) (below x n)
        (λ h. let l = below_lt x (suc n) h in lt_below x n (omega arith)) (λ h. let l = below_lt x n h in lt_below x (suc n) (omega arith))

not_below_itself : (n : ℕ) → below n n ≡ false
not_below_itself n = off (λ h. let l = below_lt n n h in omega arith)

lacking_once : (n : ℕ) (mark : ℕ → Bool) (x : ℕ) → times x (lacking n mark) ≡ if (below x n && not (mark x)) 1 0
unfolding lacking times
lacking_once zero mark x = rw (none_below x)
lacking_once (suc n) mark x = go (mark n) refl (same x n) refl (lacking_once n mark x)
  where
    list : List ℕ
    list = lacking n mark

    go : (a : Bool) → mark n ≡ a → (b : Bool) → same x n ≡ b → times x list ≡ if (below x n && not (mark x)) 1 0
        → times x (if a list (n ∷ list)) ≡ if (below x (suc n) && not (mark x)) 1 0
    go true q true p h = let e = same_eq x n p in h ∙ rw (below_next x n, p, e, not_below_itself n, q)
    go true q false p h = h ∙ rw (below_next x n, p)
    go false q true p h = let e = same_eq x n p in rw (p, h, below_next x n, p, e, not_below_itself n, q)
    go false q false p h = rw (p, h, below_next x n, p)

-- each of these transfers of w three times, and then the rest
unfoldable spread : ℕ → List ℕ → List Transfer → List Transfer
spread w [] rest = rest
spread w (e ∷ es) rest = let i : Transfer = record { stripe = w; item = e } in i ∷ i ∷ i ∷ spread w es rest

spread_thrice : (w : ℕ) (es : List ℕ) (rest : List Transfer) (x y : ℕ)
    → occurrences x y (spread w es rest) ≡ if (same x w) (3 * times y es + occurrences x y rest) (occurrences x y rest)
unfolding spread times occurrences same2
spread_thrice w [] rest x y = elim (same x w) as (λ b. occurrences x y rest ≡ if b (3 * 0 + occurrences x y rest) (occurrences x y rest))
    [ true ↦ omega arith | false ↦ refl ]
spread_thrice w (e ∷ es) rest x y = go (same x w) (same y e) (spread_thrice w es rest x y)
  where
    n : ℕ
    n = occurrences x y rest

    t : ℕ
    t = times y es

    m : ℕ
    m = occurrences x y (spread w es rest)

    go : (a b : Bool) → m ≡ if a (3 * t + n) n
        → if (a && b) (suc (if (a && b) (suc (if (a && b) (suc m) m)) (if (a && b) (suc m) m)))
        (if (a && b) (suc (if (a && b) (suc m) m)) (if (a && b) (suc m) m))
        ≡ if a (3 * if b (suc t) t + n) n
    go true true h = omega arith
    go true false h = h
    go false b h = h

-- the transfers below n of the stripes below p that lack the mark, three times each
unfoldable lacking_thrice : ℕ → ℕ → (ℕ → ℕ → Bool) → List Transfer
lacking_thrice zero n mark = []
lacking_thrice (suc w) n mark = spread w (lacking n (mark w)) (lacking_thrice w n mark)

lacking_thrice_law : (p n : ℕ) (mark : ℕ → ℕ → Bool) (x y : ℕ)
    → occurrences x y (lacking_thrice p n mark) ≡ if (below x p) (3 * times y (lacking n (mark x))) 0
unfolding lacking_thrice occurrences
lacking_thrice_law zero n mark x y = rw (none_below x)
lacking_thrice_law (suc w) n mark x y =
    spread_thrice w (lacking n (mark w)) (lacking_thrice w n mark) x y ∙ go (same x w) refl (lacking_thrice_law w n mark x y)
  where
    earlier : ℕ
    earlier = occurrences x y (lacking_thrice w n mark)

    go : (b : Bool) → same x w ≡ b → earlier ≡ if (below x w) (3 * times y (lacking n (mark x))) 0
        → if b (3 * times y (lacking n (mark w)) + earlier) earlier ≡ if (below x (suc w)) (3 * times y (lacking n (mark x))) 0
    go true p h = let e = same_eq x w p in rw (h, below_next x w, p, e, not_below_itself w) (add-zero _)
    go false p h = rw (h, below_next x w, p)

-- three times one, or none
three : (a b : Bool) → if a (3 * if b 1 0) 0 ≡ if (a && b) 3 0
three true true = refl
three true false = refl
three false b = refl

module _ (G : Growth) where
  open G use {stripes, transfers}

  pub some_order : (j : Journal) → (o : Order G) × Completes G j o
  unfolding NamesOnce NamesThrice
  some_order j = (
    record {
      computing = lacking stripes j.computed;
      transferring = lacking_thrice stripes transfers j.receipted;
      releasing = lacking stripes j.released;
    },
    record {
      uncomputed = lacking_once stripes j.computed;
      unreceipted = λ w e. lacking_thrice_law stripes transfers j.receipted w e
          ∙ (rw (lacking_once transfers (j.receipted w) e) (three (below w stripes) (below e transfers && not (j.receipted w e))));
      unreleased = lacking_once stripes j.released;
    },
  )
