-- `report::text::Report::push_pair` meets its contract. Assumes nothing.
use native.Mathlib.Omega.{arith}
use Rattle.report.specs.Text.{pair}
use Rattle.report.proofs.Decimal.{length_six}
use Rattle.report.proofs.Writing.{appends_both}
use Rattle.report.proofs.text.Report.push_pair.Goals as goal

pub push_number-front-requires : goal.push_number-front-requires
push_number-front-requires c =
    let args = c.args in
    let pre = c.requires in
    record {
      whole = c.push_word.ensures.whole;
      fits =
          omega (arith, length_six args.a pre.a_bound.0, length_six args.b pre.a_bound.1);
    }

pub push_word-requires-2 : goal.push_word-requires-2
push_word-requires-2 c =
    let args = c.args in
    let pre = c.requires in
    record {
      whole = c.push_number-front.ensures.whole;
      fits =
          omega (arith, length_six args.a pre.a_bound.0, length_six args.b pre.a_bound.1);
    }

pub push_number-requires : goal.push_number-requires
push_number-requires c =
    let args = c.args in
    let pre = c.requires in
    record {
      whole = c.push_word-2.ensures.whole;
      fits =
          omega (arith, length_six args.a pre.a_bound.0, length_six args.b pre.a_bound.1);
    }

pub push-requires : goal.push-requires
push-requires c =
    let args = c.args in
    let pre = c.requires in
    record {
      whole = c.push_number.ensures.whole;
      fits =
          omega (arith, length_six args.a pre.a_bound.0, length_six args.b pre.a_bound.1);
    }

pub returns : goal.returns
unfolding pair
returns c =
    let push-word = c.push_word in
    let push-number = c.push_number-front in
    let push-word2 = c.push_word-2 in
    let push-number2 = c.push_number in
    let args = c.args in
    let pre = c.requires in (
      appends_both (appends_both (appends_both (appends_both push-word.ensures push-number.ensures) push-word2.ensures)
          push-number2.ensures) c.push.ensures,
      omega (arith, length_six args.a pre.a_bound.0, length_six args.b pre.a_bound.1),
    )
