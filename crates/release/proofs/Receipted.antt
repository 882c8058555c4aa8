-- Every transfer of a stripe is receipted: the test by arithmetic on its word. Assumes nothing.
use mathlib.Core.Path.{◌≡◌}
use mathlib.Core.Bool.{true}
use Prim.Native.Nat.{ℕ, ◌+◌, ◌%◌, ◌^◌}
use lib.Dec.{eqb}
use Rattle.base.specs.Tests.{every}
use Rattle.layout.specs.declared.Shape.{Shape}
use Rattle.layout.specs.Ranges.{InRanges}
use Rattle.layout.specs.Counts.{transfers}
use Rattle.wire.specs.Words.{bit}
use Rattle.records.specs.Records.{is_receipted}
use Rattle.records.specs.Conditions.{progress_ok}
use Rattle.records.proofs.WordTests.{receipted_test}

pub all_bits : (z : Shape) → InRanges z → (word : ℕ) → progress_ok z word ≡ true
    → eqb (word % 67108864 + 1) (2 ^ transfers z) ≡ every (transfers z) (bit word)
unfolding is_receipted
all_bits z ok word s = receipted_test z ok (record { accepted = 0; progress = word }) s
