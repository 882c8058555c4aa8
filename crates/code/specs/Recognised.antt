-- The factor by which a row's coefficients go up, recognised from the coefficients. Assumes nothing.
use Rattle.std.specs.Prelude.{◌≡◌, List, ℕ, ◌<◌, Option, None, IfSome, get_or}
use Rattle.gf256.specs.Field.{pow}
use Rattle.powers.specs.Powers.{Multiplier}
use Rattle.code.specs.Rows.{coefficient, vandermonde}

-- row j's coefficients of the columns 0 to k - 1, at least one, are the powers of m
pub record PowersOf (k j m : ℕ) : Type 0 where
  pub some : 0 < k
  pub known : Multiplier m
  pub each : (c : ℕ) → c < k → coefficient vandermonde j c ≡ pow m c

-- m is such a factor of row j, where there is one
pub record Recognised (k j : ℕ) (m : Option ℕ) : Type 0 where
  pub powers : IfSome m (PowersOf k j)

-- the factors of all four rows
pub record AllRecognised (k : ℕ) (factors : List (Option ℕ)) : Type 0 where
  pub each : (j : ℕ) → j < 4 → Recognised k j (get_or factors j None)
