-- Drive on the small store, by computation. Assumes nothing.
use mathlib.Core.Path.{refl}
use Rattle.scenarios.specs.SmallDrives.{SmallDrives}
use Rattle.scenarios.proofs.Opened.{blocks, layout, words, calls}

pub small_drives : SmallDrives
unfolding blocks layout words calls
small_drives =
    record {
      none = refl;
      computed_row = refl;
      computed_bit = refl;
      enough = refl;
      one_less = refl;
      receipted = refl;
      accepted = refl;
      closes = refl;
    }
