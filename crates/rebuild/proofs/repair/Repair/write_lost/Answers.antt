-- `rebuild::repair::Repair::write_lost` meets its contract. Assumes nothing.
use mathlib.Core.Path.{ap, ◌∙◌}
use native.Mathlib.Omega.{arith}
use Rattle.recovery.specs.Rebuild.{stripe_multiplier}
use Rattle.rebuild.specs.Steps.{rows_written, all_written}
use Rattle.rebuild.proofs.repair.Repair.write_lost.Goals as goal

pub write_columns-requires : goal.write_columns-requires
write_columns-requires c = record { fixing_rows = c.requires.fixing_rows; room = c.requires.room }

pub write_rows-requires : goal.write_rows-requires
write_rows-requires c = omega arith

pub returns : goal.returns
unfolding all_written
returns c =
    let write-columns = c.write_columns in
    let write-rows = c.write_rows in
    let lost-count = c.lost_count in
    record {
      value = lost-count.ensures;
      stripe_after = write-rows.ensures ∙ ap (rows_written stripe_multiplier _ _ _ _) write-columns.ensures;
    }
