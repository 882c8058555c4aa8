-- The journal that begin writes: open, of its growth's number, with count 0, and without a mark. Assumes nothing.
use mathlib.Core.Path.{◌≡◌, refl, ap}
use mathlib.Core.Bool.{Bool, true, false}
use Prim.Native.Nat.{ℕ, ◌^◌, ◌<◌}
use native.Mathlib.Omega.{arith}
use lib.ListN.{length}
use Rattle.base.specs.Tests.{if}
use Rattle.base.proofs.Tests.{clash, off}
use Rattle.layout.specs.declared.Shape.{Shape}
use Rattle.layout.specs.Ranges.{InRanges}
use Rattle.layout.specs.Counts.{kept, transfers}
use Rattle.wire.specs.Words.{state_word, count_word}
use Rattle.records.specs.declared.StripeRecord.{StripeRecord}
use Rattle.records.specs.Records.{is_accepted, is_receipted, is_computed, is_released}
use Rattle.records.specs.Stages.{stage}
use Rattle.journal.specs.States.{open_state, counts_as_open}
use Rattle.journal.specs.Journal.{header_of, state_of, number_of, count_of, journal_length, record_at}
use Rattle.journal.specs.Fresh.{fresh_header, fresh_journal}
use Rattle.journal.specs.Whole.{whole_ok}
use Rattle.journal.specs.Claims.{FreshClaims}
use Rattle.journal.proofs.FreshPairs.{fresh_header_law}
use Rattle.journal.proofs.JournalHolds.{journal_holds}
use Rattle.growth.proofs.WholeParts.{RecordParts}
use Rattle.growth.proofs.OpenJournals.{OpenJournal, open_record}

-- a stripe at stage 0 is neither computed nor released
stage_none : (r : StripeRecord) → stage r ≡ 0 → (is_computed r ≡ false) × (is_released r ≡ false)
unfolding stage
stage_none r h = go (is_released r) (is_computed r) h
  where
    go : (a b : Bool) → if {A = ℕ} a 2 (if b 1 0) ≡ 0 → (b ≡ false) × (a ≡ false)
    go true b q = absurd (omega arith)
    go false true q = absurd (omega arith)
    go false false q = (refl, refl)

module _ (z : Shape) (ok : InRanges z) (number : ℕ) (small : number < 2 ^ 28) where
  claims : FreshClaims z number
  claims = (journal_holds z ok).fresh number small

  pub fresh_long : length (fresh_journal z number) ≡ journal_length z
  fresh_long = claims.long

  pub fresh_whole : whole_ok z (fresh_journal z number) ≡ true
  fresh_whole = claims.whole

  pub fresh_number : number_of (header_of (fresh_journal z number)) ≡ number
  fresh_number = claims.growth

  state_is : state_of (fresh_header z number) ≡ open_state
  unfolding state_of state_word
  state_is = omega arith

  pub fresh_open : OpenJournal z (fresh_journal z number)
  unfolding counts_as_open
  fresh_open = record { long = fresh_long; whole = fresh_whole; opened = rw (fresh_header_law z number, state_is) }

  pub fresh_count : count_of (header_of (fresh_journal z number)) ≡ 0
  unfolding count_of count_word
  fresh_count = ap count_of (fresh_header_law z number)

  -- ---- no mark: of a record that passes its test only a computed stripe has any

  module _ (w : ℕ) (l : w < kept z) where
    parts : RecordParts z (record_at (fresh_journal z number) w)
    parts = open_record z (fresh_journal z number) fresh_open w l

    pub fresh_computed : is_computed (record_at (fresh_journal z number) w) ≡ false
    fresh_computed = (stage_none (record_at (fresh_journal z number) w) (claims.stages w l)).0

    pub fresh_released : is_released (record_at (fresh_journal z number) w) ≡ false
    fresh_released = (stage_none (record_at (fresh_journal z number) w) (claims.stages w l)).1

    pub fresh_accepted : (e : ℕ) → e < transfers z → is_accepted (record_at (fresh_journal z number) w) e ≡ false
    fresh_accepted e m = off (λ q. clash (parts.accepted_computed e m q) fresh_computed)

    pub fresh_receipted : (e : ℕ) → e < transfers z → is_receipted (record_at (fresh_journal z number) w) e ≡ false
    fresh_receipted e m = off (λ q. clash (parts.receipted_accepted e m q) (fresh_accepted e m))
