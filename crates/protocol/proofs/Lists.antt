-- Laws of lists: what stands in one stands there at least once. Assumes nothing.
use mathlib.Core.Path.{◌≡◌}
use mathlib.Core.Bool.{Bool, true, false}
use mathlib.Core.List.{List, [], ◌∷◌}
use mathlib.Core.Logic.{◌⊎◌, inl, inr}
use Prim.Native.Nat.{ℕ, suc, ◌<◌}
use native.Mathlib.Omega.{arith}
use Rattle.base.specs.Tests.{if, same, same2}
use Rattle.base.proofs.Tests.{same_refl, same2_refl}
use Rattle.base.proofs.Updates.{at}
use Rattle.protocol.specs.Transfers.{Among, times, Transfer, occurrences}

-- one more, or none
more_or_same : (b : Bool) (n : ℕ) → 0 < n → 0 < if b (suc n) n
more_or_same true n h = omega arith
more_or_same false n h = h

pub times_pos : (w : ℕ) (ws : List ℕ) → Among w ws → 0 < times w ws
unfolding times
times_pos w [] h = absurd h
times_pos w (x ∷ ws) (inl p) = rw (p, same_refl x) (omega arith)
times_pos w (x ∷ ws) (inr h) = more_or_same (same w x) (times w ws) (times_pos w ws h)

pub times_among : (w : ℕ) (ws : List ℕ) → 0 < times w ws → Among w ws
unfolding times
times_among w [] h = absurd (omega arith)
times_among w (x ∷ ws) h =
    (at w x (λ b. 0 < if b (suc (times w ws)) (times w ws) → (w ≡ x) ⊎ Among w ws) (λ p z. inl p) (λ z. inr (times_among w ws z))) h

pub occurrences_pos : (i : Transfer) (is : List Transfer) → Among i is → 0 < occurrences i.stripe i.item is
unfolding occurrences
occurrences_pos i [] h = absurd h
occurrences_pos i (j ∷ is) (inl p) = rw (p, same2_refl j.stripe j.item) (omega arith)
occurrences_pos i (j ∷ is) (inr h) =
    more_or_same (same2 i.stripe j.stripe i.item j.item) (occurrences i.stripe i.item is) (occurrences_pos i is h)

-- a transfer is its stripe and its number
pub transfer_path : (i j : Transfer) → i.stripe ≡ j.stripe → i.item ≡ j.item → i ≡ j
transfer_path i j p q = λ x. record { stripe = p x; item = q x }
