-- The test of the whole journal, stripe by stripe: what one pass over the pairs finds. Assumes nothing.
use mathlib.Core.Path.{◌≡◌, refl, ap}
use mathlib.Core.Bool.{Bool, true, false, ◌&&◌, and-true, and-false}
use mathlib.Core.List.{List}
use Prim.Native.Nat.{ℕ, ◌+◌, ◌<◌}
use native.Mathlib.Numerals.{add-one}
use lib.Dec.{eqb}
use Rattle.base.specs.Folds.{sum, total}
use Rattle.base.specs.Tests.{only_if, every}
use Rattle.base.proofs.Tests.{and_left, every_fails, every_suc}
use Rattle.layout.specs.declared.Shape.{Shape}
use Rattle.layout.specs.Counts.{kept}
use Rattle.records.specs.declared.StripeRecord.{StripeRecord}
use Rattle.records.specs.Records.{is_released}
use Rattle.records.specs.Conditions.{accepted_ok, record_ok}
use Rattle.records.specs.Stages.{accepted_count}
use Rattle.journal.specs.declared.headers.JournalHeader.{JournalHeader}
use Rattle.journal.specs.States.{is_closed}
use Rattle.journal.specs.Journal.{header_of, state_of, count_of, header_ok, record_at}
use Rattle.journal.specs.Whole.{marks, whole_ok}

-- a stripe that passes has a good word of kind 10
pub record_accepted : (z : Shape) (r : StripeRecord) → record_ok z r ≡ true → accepted_ok z r.accepted ≡ true
unfolding record_ok
record_accepted z r h = and_left (accepted_ok z r.accepted) _ h

-- whether stripe w is released, and of one stripe more whether all are
abbrev pub stripe_released : List ℕ → ℕ → Bool
stripe_released journal w = is_released (record_at journal w)

pub released_turn : (journal : List ℕ) (w : ℕ) (b t : Bool) (r : StripeRecord) → r ≡ record_at journal w
    → b ≡ every w (stripe_released journal)
    → t ≡ is_released r → t && b ≡ every (w + 1) (stripe_released journal)
released_turn journal w b t r e f g = rw (add-one w, every_suc w (stripe_released journal), f, g, e)

module _ (z : Shape) (journal : List ℕ) where
  -- stripe w as the pass tests it, and its marks as the pass counts them
  abbrev pub stripe_good : ℕ → Bool
  stripe_good w = record_ok z (record_at journal w)

  unfoldable pub stripe_marks : ℕ → ℕ
  stripe_marks w = accepted_count z (record_at journal w)

  -- the header fails, or a stripe does
  pub header_fails : (h : JournalHeader) → h ≡ header_of journal → header_ok z h ≡ false → whole_ok z journal ≡ false
  unfolding whole_ok
  header_fails h e f = rw (rw e at f)

  bad_stripe : every (kept z) stripe_good ≡ false → whole_ok z journal ≡ false
  unfolding whole_ok
  bad_stripe e = rw e (and-false (header_ok z (header_of journal)))

  pub stripe_fails : (w : ℕ) (r : StripeRecord) → r ≡ record_at journal w → w < kept z → record_ok z r ≡ false → whole_ok z journal ≡ false
  stripe_fails w r e l f = bad_stripe (every_fails (kept z) stripe_good w l (rw e at f))

  -- neither does: the count decides, and whether all stripes are released
  pub pass_tells : (w m : ℕ) (h : JournalHeader) (b : Bool) → w ≡ kept z → h ≡ header_of journal → header_ok z h ≡ true
      → every w stripe_good ≡ true → m ≡ sum w stripe_marks → b ≡ every w (stripe_released journal)
      → whole_ok z journal ≡ eqb (count_of h) m && only_if (is_closed (state_of h)) b
  unfolding whole_ok marks total stripe_marks
  pass_tells w m h b e f p q s t =
      let good : every (kept z) stripe_good ≡ true = rw e at q in
      let header : header_ok z (header_of journal) ≡ true = rw f at p in
      let closed : Bool = is_closed (state_of (header_of journal)) in
      let all : Bool = every (kept z) (stripe_released journal) in
      let counted : Bool = eqb (count_of (header_of journal)) (sum (kept z) stripe_marks) in
      rw (header, good, s, t, e, f) (ap (λ x. counted && x) (and-true (only_if closed all)))

  -- before the first stripe, and one stripe more
  pub marks_none : 0 ≡ sum 0 stripe_marks
  unfolding sum
  marks_none = refl

  pub marks_turn : (w m c : ℕ) (r : StripeRecord) → r ≡ record_at journal w → m ≡ sum w stripe_marks → c ≡ accepted_count z r
      → m + c ≡ sum (w + 1) stripe_marks
  unfolding sum stripe_marks
  marks_turn w m c r e f g = rw (add-one w, f, g, e)
