-- All that is claimed of the journal, for every shape in range. Assumes nothing.
use mathlib.Core.Path.{◌≡◌}
use mathlib.Core.List.{List}
use Prim.Native.Nat.{ℕ, ◌≤◌}
use native.Mathlib.Omega.{arith}
use lib.ListN.{length}
use Rattle.layout.specs.declared.Shape.{Shape}
use Rattle.layout.specs.Ranges.{InRanges}
use Rattle.journal.specs.Journal.{journal_length}
use Rattle.journal.specs.Claims.{JournalClaims}
use Rattle.journal.proofs.HeaderLaws.{header_length, header_back, header_records}
use Rattle.journal.proofs.PutLaws.{puts_hold, accepts_hold}
use Rattle.journal.proofs.FreshLaws.{fresh_holds}

room : (z : Shape) (journal : List ℕ) → length journal ≡ journal_length z → 4 ≤ length journal
unfolding journal_length
room z journal p = omega arith

pub journal_holds : (z : Shape) → InRanges z → JournalClaims z
journal_holds z ok = record {
  puts = λ journal w r p l. puts_hold z journal w p l r;
  headers =
      λ journal h p. record {
        long = header_length journal h;
        back = header_back journal h (room z journal p);
        records =
            header_records journal h;
      };
  accepts = λ journal w e p l m. accepts_hold z journal w p l e m;
  fresh = fresh_holds z ok;
}
