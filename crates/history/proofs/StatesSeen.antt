-- A state is seen as its class: open if it counts as open, closed if it is closed, with the number that refuses a call. Assumes nothing.
use mathlib.Core.Path.{◌≡◌, refl, sym}
use mathlib.Core.Bool.{Bool, true, false, not}
use Prim.Native.Nat.{ℕ, suc, ◌-◌, ◌<◌}
use native.Mathlib.Omega.{arith}
use Rattle.base.specs.Tests.{if}
use Rattle.layout.specs.declared.Shape.{Shape}
use Rattle.journal.specs.States.{closed_state, counts_as_open, is_closed, ended_refusal}
use Rattle.journal.proofs.StateLaws.{finished_positive}
use Rattle.protocol.specs.World as World
use Rattle.protocol.specs.World.{opened, ended}
use Rattle.growth.proofs.WholeParts.{open_unclosed}
use Rattle.history.proofs.Growths.{state_seen}

less_one : (n : ℕ) → 0 < n → suc (n - 1) ≡ n
less_one n l = omega arith

module _ (z : Shape) (state : ℕ) where
  pub open_seen : counts_as_open state ≡ true → state_seen z state ≡ opened
  open_seen h = rw h

  pub open_same : World.counts_as_open (state_seen z state) ≡ counts_as_open state
  open_same = go (counts_as_open state)
    where
      go : (t : Bool) → World.counts_as_open (if t opened (ended (is_closed state) (ended_refusal state - 1))) ≡ t
      go true = refl
      go false = refl

  pub closed_same : World.is_closed (state_seen z state) ≡ is_closed state
  closed_same = go (counts_as_open state) refl
    where
      go : (t : Bool) → counts_as_open state ≡ t
          → World.is_closed (if t opened (ended (is_closed state) (ended_refusal state - 1))) ≡ is_closed state
      go true e = sym (open_unclosed state e)
      go false e = refl

  -- the same refusal, or none and what comes after it
  pub over_same : (x y : ℕ) → x ≡ y
      → if (not (counts_as_open state)) (ended_refusal state) x
      ≡ if (not (World.counts_as_open (state_seen z state))) (World.ended_refusal (state_seen z state)) y
  over_same x y e = go (counts_as_open state)
    where
      go : (t : Bool) → let s = if t opened (ended (is_closed state) (ended_refusal state - 1)) in
          if (not t) (ended_refusal state) x ≡ if (not (World.counts_as_open s)) (World.ended_refusal s) y
      go true = e
      go false = sym (less_one (ended_refusal state) (finished_positive state))

-- the state that close writes
pub closed_is_closed : (z : Shape) → state_seen z closed_state ≡ ended true (ended_refusal closed_state - 1)
unfolding counts_as_open is_closed
closed_is_closed z = refl
