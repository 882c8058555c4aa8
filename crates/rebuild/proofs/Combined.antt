-- The stripe's blocks, combined, byte by byte. Assumes nothing.
use mathlib.Core.Path.{◌≡◌}
use mathlib.Core.List.{List}
use Prim.Native.Nat.{ℕ}
use lib.ListN.{length, get_or}
use Rattle.area.specs.Area.{slot}
use Rattle.combine.proofs.Laws.{length_combination}
use Rattle.elimination.specs.Matrix.{weighted}
use Rattle.recovery.proofs.Vectors.{vector, combination_byte}
use Rattle.rebuild.specs.Steps.{combined_blocks}

pub length_combined_blocks : (b n : ℕ) (u s : List ℕ) → length (combined_blocks b n u s) ≡ b
unfolding combined_blocks
length_combined_blocks b n u s = length_combination b n _ (slot s b)

pub combined_byte : (b n : ℕ) (u s : List ℕ) (i : ℕ) → get_or (combined_blocks b n u s) i 0 ≡ weighted n (λ p. get_or u p 0) (vector b s i)
unfolding combined_blocks
combined_byte b n u s i = combination_byte b n (λ p. get_or u p 0) s i
