-- `report::text::Report::push` meets its contract. Assumes nothing.
use mathlib.Core.Path.{refl, ◌∙◌}
use Prim.Native.Nat.{◌<◌}
use native.Mathlib.Numerals.{add-one}
use native.Mathlib.Omega.{arith}
use lib.ListN.{length, length-set}
use lib.Seq.{take-suc-set}
use Rattle.report.specs.Writing.{written}
use Rattle.report.proofs.text.Report.push.Goals as goal

pub returns : goal.returns
unfolding written
returns c =
    let r = c.args.self in
    let h : r.length < length r.text = omega arith in
    record {
      text = rw (add-one, take-suc-set r.text r.length _ h);
      longer = refl;
      fits = omega arith;
      whole =
          length-set r.text _ _ ∙ c.requires.whole;
    }
