-- A record written to its pair of words is read back, changes no other word, and one acceptance in it is one mark more. Assumes nothing.
use mathlib.Core.Path.{◌≡◌, ◌∙◌}
use mathlib.Core.Bool.{false}
use mathlib.Core.List.{List}
use mathlib.Core.Logic.{◌≢◌}
use Prim.Native.Nat.{ℕ, ◌+◌, ◌*◌, ◌<◌}
use native.Mathlib.Omega.{arith}
use lib.ListN.{length, get_or, set, length-set}
use lib.Seq.{get_or-set_same, get_or-set_other}
use Rattle.base.specs.Folds.{total}
use Rattle.base.proofs.Sums.{sum_more}
use Rattle.layout.specs.declared.Shape.{Shape}
use Rattle.layout.specs.Counts.{kept, transfers}
use Rattle.records.specs.declared.StripeRecord.{StripeRecord}
use Rattle.records.specs.Records.{is_accepted, accept}
use Rattle.records.proofs.MarkLaws.{set_more}
use Rattle.records.specs.Stages.{accepted_count}
use Rattle.journal.specs.Journal.{header_of, journal_length, record_at, put_record}
use Rattle.journal.specs.Whole.{marks}
use Rattle.journal.specs.Claims.{PutClaims}

module _ (journal : List ℕ) (w : ℕ) (r : StripeRecord) where
  pub put_length : length (put_record journal w r) ≡ length journal
  unfolding put_record
  put_length = simp length-set

  -- a word outside the pair
  pub put_apart : (i : ℕ) → i ≢ 4 + 2 * w → i ≢ 5 + 2 * w → get_or (put_record journal w r) i 0 ≡ get_or journal i 0
  unfolding put_record
  put_apart i a b =
      get_or-set_other (set journal (4 + 2 * w) r.accepted) (5 + 2 * w) i r.progress 0 b
      ∙ get_or-set_other journal (4 + 2 * w) i r.accepted 0 a

  put_accepted : 4 + 2 * w < length journal → get_or (put_record journal w r) (4 + 2 * w) 0 ≡ r.accepted
  unfolding put_record
  put_accepted l =
      get_or-set_other (set journal (4 + 2 * w) r.accepted) (5 + 2 * w) (4 + 2 * w) r.progress 0 (λ q. omega arith)
      ∙ get_or-set_same journal (4 + 2 * w) r.accepted 0 l

  put_sent : 5 + 2 * w < length journal → get_or (put_record journal w r) (5 + 2 * w) 0 ≡ r.progress
  unfolding put_record
  put_sent l = get_or-set_same (set journal (4 + 2 * w) r.accepted) (5 + 2 * w) r.progress 0 (rw length-set l)

  pub put_back : 5 + 2 * w < length journal → record_at (put_record journal w r) w ≡ r
  unfolding record_at
  put_back l = rw (put_accepted (omega arith), put_sent l)

  pub put_other : (v : ℕ) → v ≢ w → record_at (put_record journal w r) v ≡ record_at journal v
  unfolding record_at
  put_other v d =
      rw (
        put_apart (4 + 2 * v) (λ q. omega arith) (λ q. omega arith),
        put_apart (5 + 2 * v) (λ q. omega arith) (λ q. omega arith),
      )

  pub put_header_law : header_of (put_record journal w r) ≡ header_of journal
  unfolding header_of
  put_header_law = rw (before 0 (omega arith), before 1 (omega arith), before 2 (omega arith), before 3 (omega arith))
    where
      before : (i : ℕ) → i < 4 → get_or (put_record journal w r) i 0 ≡ get_or journal i 0
      before i l = put_apart i (λ q. omega arith) (λ q. omega arith)

-- ---- how many marks

accept_more : (z : Shape) (r : StripeRecord) (e : ℕ) → e < transfers z → is_accepted r e ≡ false
    → accepted_count z (accept r e) ≡ accepted_count z r + 1
unfolding is_accepted accept
accept_more z r e l h = set_more r.accepted e (transfers z) l h

module _ (z : Shape) (journal : List ℕ) (w : ℕ) (long : length journal ≡ journal_length z) (l : w < kept z) where
  pub pair_inside : 5 + 2 * w < length journal
  unfolding journal_length
  pair_inside = omega arith

  -- one more in one stripe is one more in all
  marks_more : (r : StripeRecord) → accepted_count z r ≡ accepted_count z (record_at journal w) + 1
      → marks z (put_record journal w r) ≡ marks z journal + 1
  unfolding marks total
  marks_more r h =
      sum_more (kept z) (λ v. accepted_count z (record_at journal v)) (λ v. accepted_count z (record_at (put_record journal w r) v)) w l
      (rw (put_back journal w r pair_inside) h)
      (λ v d. rw (put_other journal w r v d))

  pub puts_hold : (r : StripeRecord) → PutClaims journal w r
  puts_hold r = record {
    long = put_length journal w r;
    back = put_back journal w r pair_inside;
    other = put_other journal w r;
    header = put_header_law journal w r;
  }

  pub accepts_hold : (e : ℕ) → e < transfers z → is_accepted (record_at journal w) e ≡ false
      → marks z (put_record journal w (accept (record_at journal w) e)) ≡ marks z journal + 1
  accepts_hold e m h = let r = record_at journal w in marks_more (accept r e) (accept_more z r e m h)
