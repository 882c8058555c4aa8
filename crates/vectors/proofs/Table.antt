-- E1 to E8 hold: one theorem for the whole table. Assumes nothing.
use mathlib.Core.Path.{refl}
use Rattle.area.specs.Area.{block, slot, xor_blocks}
use Rattle.base.specs.Tests.{some}
use Rattle.base.specs.Folds.{table, filter_range}
use Rattle.gf256.specs.Field.{xtime, mul_bits, mul, pow, xor_sum}
use Rattle.combine.specs.Combination.{combination}
use Rattle.code.specs.Rows.{coefficient, parity_row, delta}
use Rattle.layout.specs.Ranges.{shape_refusal}
use Rattle.layout.specs.Counts.{kept, dissolved, straight_stripes}
use Rattle.layout.specs.Nodes.{data_node, has_data}
use Rattle.layout.specs.Sources.{listing, source_node, source_rank, source_slot}
use Rattle.layout.specs.Closed.{swapped}
use Rattle.vectors.specs.Examples.{Examples}
use Rattle.vectors.proofs.Loss.{eleven, only_eleven}

pub examples : Examples
unfolding some block slot xor_blocks table xtime mul_bits mul pow xor_sum combination coefficient parity_row delta shape_refusal kept
    dissolved
    straight_stripes filter_range data_node has_data listing source_node source_rank source_slot swapped
examples =
    record {
      e1 = (refl, refl);
      e2 = (refl, refl, refl, refl);
      e3 = refl;
      e4 = (refl, refl, refl, refl, refl, refl);
      e5 = (refl, refl);
      e6 = (refl, refl, refl);
      e7 = (refl, refl, refl);
      e8 = (eleven, only_eleven);
    }
