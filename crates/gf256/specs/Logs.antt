-- FORMAT §2. The inverse; and logarithms to base 2, which product and inverse go through in the code. Assumes nothing.
use Rattle.std.specs.Prelude.{◌≡◌, List, ℕ, ◌-◌, ◌<◌, get_or}
use Rattle.gf256.specs.Field.{pow}

-- the inverse of an element other than 0: its law, mul a (inv a) = 1, is `inverse` of Claims
unfoldable pub inv : ℕ → ℕ
inv a = pow a 254

-- i is the logarithm of a
pub record IsLog (a i : ℕ) : Type 0 where
  pub small : i < 255
  pub power : pow 2 i ≡ a

-- the table has the 255 powers of 2
pub record HasPowers (t : List ℕ) : Type 0 where
  pub power_at : (i : ℕ) → i < 255 → get_or t i 0 ≡ pow 2 i

-- the table has the logarithms of 1 to 255
pub record HasLogs (t : List ℕ) : Type 0 where
  pub log_at : (a : ℕ) → 0 < a → a < 256 → IsLog a (get_or t (a - 1) 0)
