-- The numbers of the kinds. Assumes nothing.
use Rattle.std.specs.Prelude.{ℕ}
use Rattle.places.specs.declared.kinds.Kind.{Kind}
use Rattle.places.specs.declared.kinds.Kind.TheVariants as It

abbrev pub kind_number : Kind → ℕ
kind_number It.Delta = 1
kind_number It.NewBlock = 2
kind_number It.ParityRow = 3
kind_number It.Receipt = 4
