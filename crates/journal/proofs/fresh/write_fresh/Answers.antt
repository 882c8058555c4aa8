-- `journal::fresh::write_fresh` meets its contract. Before turn w the first w records are fresh. Assumes nothing.
use mathlib.Core.Path.{ap, ◌∙◌}
use native.Mathlib.Omega.{arith}
use lib.ListN.{length}
use Rattle.base.proofs.Runs.{run_start, run_turn, run_end}
use Rattle.journal.specs.Journal.{header_of, journal_length, put_record}
use Rattle.journal.proofs.HeaderLaws.{header_length, header_back}
use Rattle.journal.proofs.FreshRun.{put_fresh, fresh_run}
use Rattle.journal.proofs.fresh.write_fresh.Goals as goal

pub write_header-requires : goal.write_header-requires
unfolding journal_length
write_header-requires c = omega (arith, c.requires.journal_len)

pub loop-w-init : goal.loop-w-init
loop-w-init c = run_start _ _

pub write_record-requires : goal.write_record-requires
unfolding journal_length
write_record-requires c = omega (arith, c.kept_count-w-end.ensures.0, c.requires.journal_len, c.loop-w.auto.journal)

pub loop-w-preserved : goal.loop-w-preserved
loop-w-preserved c =
    run_turn put_fresh _ _ c.loop-w.invariant (c.write_record.ensures ∙ ap (put_record _ _) c.fresh_record.ensures)

pub returns : goal.returns
unfolding journal_length
returns c =
    let l = c.kept_count-w-end.ensures.0 in
    let long = ap length c.write_header.ensures ∙ header_length _ _ in
    let header =
    ap header_of c.write_header.ensures
    ∙ header_back _ _ (omega (arith, c.requires.journal_len))
    ∙ c.fresh_header.ensures in
    run_end put_fresh _ _ c.loop-w.invariant (omega arith) (omega arith)
    ∙ fresh_run _ _ _ (long ∙ c.requires.journal_len) header
