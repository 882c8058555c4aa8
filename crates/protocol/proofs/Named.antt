-- What the lists of a completion name. Assumes nothing.
use mathlib.Core.Path.{◌≡◌, refl}
use mathlib.Core.Bool.{Bool, true, false, not, ◌&&◌}
use mathlib.Core.List.{List}
use mathlib.Core.Logic.{◌⊎◌, inl, inr}
use Prim.Native.Nat.{ℕ, ◌<◌}
use native.Mathlib.Omega.{arith}
use Rattle.base.specs.Tests.{if, below}
use Rattle.base.proofs.Tests.{and_left, and_right, below_lt, lt_below}
use Rattle.protocol.specs.Transfers.{Among, Transfer}
use Rattle.protocol.specs.Parts.{Growth}
use Rattle.protocol.specs.Completions.{NamesOnce, NamesThrice}
use Rattle.protocol.proofs.Lists.{times_pos, times_among, occurrences_pos}

-- what is named at all has its test true
tested : (b : Bool) (n : ℕ) → 0 < if b n 0 → b ≡ true
tested true n h = refl
tested false n h = absurd (omega arith)

module _ (G : Growth) where
  open G use {stripes, transfers}

  abbrev pub InRange : Transfer → Type 0
  InRange i = (i.stripe < stripes) × (i.item < transfers)

  pub once_low : (mark : ℕ → Bool) (ws : List ℕ) → NamesOnce G mark ws → (w : ℕ) → Among w ws → w < stripes
  unfolding NamesOnce
  once_low mark ws h w m =
      below_lt w stripes (and_left (below w stripes) (not (mark w)) (tested _ _ (rw (h w) at (times_pos w ws m))))

  -- a stripe has the mark or is named
  pub once_all : (mark : ℕ → Bool) (ws : List ℕ) → NamesOnce G mark ws → (w : ℕ) → w < stripes → (mark w ≡ true) ⊎ Among w ws
  unfolding NamesOnce
  once_all mark ws h w l = go (mark w) refl
    where
      go : (b : Bool) → mark w ≡ b → (mark w ≡ true) ⊎ Among w ws
      go true e = inl e
      go false e = inr (times_among w ws (rw (h w, lt_below w stripes l, e) (omega arith)))

  pub thrice_low : (mark : ℕ → ℕ → Bool) (is : List Transfer) → NamesThrice G mark is → (i : Transfer) → Among i is → InRange i
  unfolding NamesThrice
  thrice_low mark is h i m =
      let w = i.stripe in
      let e = i.item in
      let t = tested (below w stripes && (below e transfers && not (mark w e))) _ (rw (h w e) at (occurrences_pos i is m)) in (
        below_lt w stripes (and_left (below w stripes) _ t),
        below_lt e transfers (and_left (below e transfers) _ (and_right (below w stripes) _ t)),
      )
