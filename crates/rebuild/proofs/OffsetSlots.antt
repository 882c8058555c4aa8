-- Blocks at offsets that stand one after the other are the slots of the stripe. Assumes nothing.
use mathlib.Core.Path.{◌≡◌, refl, ap}
use mathlib.Core.List.{List}
use Prim.Native.Nat.{ℕ, ◌<◌}
use lib.ListN.{get_or}
use Rattle.area.specs.Area.{block, slot}
use Rattle.combine.specs.Columns.{columns_at, combined, Consecutive}
use Rattle.combine.proofs.Laws.{combination_same}
use Rattle.rebuild.specs.Steps.{combined_blocks}

pub column_slot : (n b : ℕ) (at stripe : List ℕ) → Consecutive n b at → (c : ℕ) → c < n → columns_at at stripe b c ≡ slot stripe b c
unfolding columns_at slot
column_slot n b at stripe one c h = ap (λ (x : ℕ). block stripe x b) (one.each c h)

pub combined_slots : (b n : ℕ) (u at stripe : List ℕ) → Consecutive n b at → combined b n u at stripe ≡ combined_blocks b n u stripe
unfolding combined combined_blocks
combined_slots b n u at stripe one =
    combination_same b n (λ p. get_or u p 0) (λ p. get_or u p 0) (columns_at at stripe b) (slot stripe b) (λ c h. refl)
    (column_slot n b at stripe one)
