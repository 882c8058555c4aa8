-- `report::numbers::read_numbers` meets its contract. What is left of the text, read from the numbers so far, gives the
-- numbers of the whole. Assumes nothing.
use mathlib.Core.Path.{◌≡◌}
use lib.ListN.{drop}
use Rattle.report.specs.Reading.{after_bytes, numbers_of}
use Rattle.report.proofs.numbers.read_numbers.Given as goal

abbrev pub invariant-loop-c : goal.invariant-loop-c
invariant-loop-c l = numbers_of l.text ≡ after_bytes l.numbers (drop l.c-index l.text)
