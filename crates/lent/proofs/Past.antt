-- A stripe whose number is past the journal's end has no words in it. Assumes nothing.
use mathlib.Core.Path.{◌≡◌}
use mathlib.Core.List.{List}
use Prim.Native.Nat.{ℕ, ◌+◌, ◌*◌, ◌≤◌}
use native.Mathlib.Omega.{arith}
use lib.ListN.{length, get_or-eq_default}
use Rattle.journal.specs.Journal.{record_at}

pub record_past : (journal : List ℕ) (w : ℕ) → length journal ≤ w → record_at journal w ≡ record { accepted = 0; progress = 0 }
unfolding record_at
record_past journal w h =
    rw (get_or-eq_default journal 0 {n = 4 + 2 * w} (omega arith), get_or-eq_default journal 0 {n = 5 + 2 * w} (omega arith))
