-- A header and one record after the other written over any journal of the length give the fresh journal. Assumes nothing.
use mathlib.Core.Path.{◌≡◌, sym, ◌∙◌}
use mathlib.Core.List.{List}
use Prim.Native.Nat.{ℕ, zero, suc, ◌+◌, ◌*◌, ◌≤◌, ◌<◌}
use native.Mathlib.Nat.{zero-add}
use native.Mathlib.Decide.{ℕ_discrete}
use native.Mathlib.Omega.{arith}
use lib.ListN.{length}
use Rattle.base.specs.Folds.{run}
use Rattle.base.proofs.Runs.{run_keeps}
use Rattle.layout.specs.declared.Shape.{Shape}
use Rattle.layout.specs.Counts.{kept}
use Rattle.journal.specs.Journal.{header_of, journal_length, record_at, put_record}
use Rattle.journal.specs.Fresh.{fresh_header, fresh_record, fresh_journal}
use Rattle.journal.proofs.PutLaws.{put_length, put_back, put_other, put_header_law}
use Rattle.journal.proofs.SameJournal.{journal_ext}
use Rattle.journal.proofs.FreshPairs.{fresh_length, fresh_at, fresh_header_law}

abbrev pub put_fresh : ℕ → List ℕ → List ℕ
put_fresh w journal = put_record journal w fresh_record

fresh_run_length : (n : ℕ) (journal : List ℕ) → length (run put_fresh 0 n journal) ≡ length journal
fresh_run_length n journal = run_keeps put_fresh length 0 n journal (λ q e l u. put_length e q fresh_record)

fresh_run_at : (n : ℕ) (journal : List ℕ) → 4 + 2 * n ≤ length journal → (w : ℕ) → w < n
    → record_at (run put_fresh 0 n journal) w ≡ fresh_record
unfolding run
fresh_run_at zero journal h w l = absurd (omega arith)
fresh_run_at (suc n) journal h w l = rw zero-add (go (ℕ_discrete w n) (fresh_run_at n journal (omega arith) w))
  where
    before : List ℕ
    before = run put_fresh 0 n journal

    go : Dec (w ≡ n) → (w < n → record_at before w ≡ fresh_record) → record_at (put_record before n fresh_record) w ≡ fresh_record
    go (yes e) rest = let q = fresh_run_length n journal in rw e (put_back before n fresh_record (omega arith))
    go (no d) rest = put_other before n fresh_record w d ∙ rest (omega arith)

pub fresh_run : (z : Shape) (number : ℕ) (journal : List ℕ) → length journal ≡ journal_length z → header_of journal ≡ fresh_header z number
    → run put_fresh 0 (kept z) journal ≡ fresh_journal z number
unfolding journal_length
fresh_run z number journal long h =
    let n = kept z in
    journal_ext (run put_fresh 0 n journal) (fresh_journal z number) n
    (fresh_run_length n journal ∙ long)
    (fresh_length z number)
    (run_keeps put_fresh header_of 0 n journal (λ q e l u. put_header_law e q fresh_record) ∙ h ∙ sym (fresh_header_law z number))
    (λ w l. fresh_run_at n journal (omega arith) w l ∙ sym (fresh_at z number w l))
