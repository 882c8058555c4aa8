-- `report::text::Report::push_number` calls itself at m / 10: the measure is m. Assumes nothing.
use Rattle.report.proofs.text.Report.+push_number.Given as goal

abbrev pub decreases-push_number : goal.decreases-push_number
decreases-push_number l = l.m
