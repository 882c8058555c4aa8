-- A message space in two parts: a message at its front is written, or a receipt behind it; the other part stays. Assumes nothing.
use mathlib.Core.Path.{◌≡◌, sym, ◌∙◌}
use mathlib.Core.List.{List, ◌++◌}
use Prim.Native.Nat.{ℕ, ◌+◌, ◌<◌}
use native.Mathlib.Omega.{arith}
use lib.ListN.{length, take, drop, length-take, length-drop}
use lib.Seq.{take-append_seam, drop-append_seam, ext_get_or, get_or-take, get_or-drop}
use Rattle.area.specs.Area.{put}
use Rattle.area.proofs.Blocks.{length_put, put_below, put_in}

-- a message of the same length at the front
pub front_written : (cut : ℕ) (space m : List ℕ) → length m ≡ cut → take cut (m ++ drop cut space) ≡ m
front_written cut space m e = rw (← e) (take-append_seam m (drop (length m) space))

pub front_leaves : (cut : ℕ) (space m : List ℕ) → length m ≡ cut → drop cut (m ++ drop cut space) ≡ drop cut space
front_leaves cut space m e = rw (← e) (drop-append_seam m (drop (length m) space))

-- bytes that fill the space from the cut on
module _ (cut : ℕ) (space bytes : List ℕ) (fills : length space ≡ cut + length bytes) where
  pub back_written : drop cut (put space cut bytes) ≡ bytes
  back_written =
      ext_get_or 0 _ _ (simp (length-drop, length_put) (omega arith)) (λ i l.
      let n : length (drop cut (put space cut bytes)) ≡ length bytes = simp (length-drop, length_put) (omega arith) in
      get_or-drop cut (put space cut bytes) i 0 ∙ put_in space cut bytes i (omega arith) (omega arith))

  pub back_leaves : take cut (put space cut bytes) ≡ take cut space
  back_leaves =
      ext_get_or 0 _ _ (simp (length-take, length_put) (omega arith)) (λ i l.
      let n : length (take cut (put space cut bytes)) ≡ cut = simp (length-take, length_put) (omega arith) in
      let m : i < cut = omega arith in
      get_or-take cut (put space cut bytes) i 0 m ∙ (put_below space cut bytes i m ∙ sym (get_or-take cut space i 0 m)))
