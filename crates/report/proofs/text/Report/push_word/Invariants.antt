-- `report::text::Report::push_word` meets its contract. Before each turn the bytes so far are appended. Assumes nothing.
use mathlib.Core.Path.{◌≡◌}
use Prim.Native.Nat.{◌+◌}
use lib.ListN.{take}
use Rattle.report.specs.Writing.{Appends}
use Rattle.report.proofs.text.Report.push_word.Given as goal

abbrev pub invariant-loop-c : goal.invariant-loop-c
invariant-loop-c l = (l.report.length ≡ l.initial.report.length + l.c-index) × Appends l.initial.report (take l.c-index l.word) l.report
