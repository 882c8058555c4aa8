-- Two whole journals of one number with the same state and marks are the same. Assumes nothing.
use mathlib.Core.Path.{◌≡◌, refl, sym, ap, ◌∙◌}
use mathlib.Core.Bool.{Bool, true, false}
use mathlib.Core.List.{List, [], ◌∷◌}
use Prim.Native.Nat.{ℕ, ◌<◌}
use native.Mathlib.Omega.{arith}
use lib.Dec.{eqb, ltb}
use borrow.Author.Tests.{eqb-true, ltb-true}
use Rattle.base.specs.Folds.{total, indicator}
use Rattle.base.proofs.Tests.{clash, all_true}
use Rattle.base.proofs.Sums.{sum_same}
use Rattle.layout.specs.declared.Shape.{Shape}
use Rattle.layout.specs.Counts.{kept, transfers}
use Rattle.wire.specs.Words.{state_word, size_word, growth_word, count_word, bit}
use Rattle.records.specs.Records.{is_accepted, is_receipted, is_computed, is_released}
use Rattle.records.specs.Conditions.{accepted_names, progress_names, accepted_ok, progress_ok}
use Rattle.journal.specs.declared.headers.JournalHeader.{JournalHeader}
use Rattle.journal.specs.States.{listed_state}
use Rattle.journal.specs.Journal.{header_of, state_of, number_of, count_of, header_ok, journal_length, record_at}
use Rattle.journal.specs.Whole.{marks}
use Rattle.journal.proofs.SameJournal.{journal_ext}
use Rattle.growth.proofs.WholeParts.{WholeParts, whole_parts}
use Rattle.stages.specs.Journals.{GoodJournal, SameMarks}
use Rattle.stages.proofs.SameWords.{words_same}

-- ---- the header: each of its words is made of what it tells

module _ (z : Shape) where
  made : ℕ → ℕ → ℕ → JournalHeader
  made state number count = record { state = state_word state z; size = size_word z; growth = growth_word number; count = count_word count }

  header_made : (h : JournalHeader) → header_ok z h ≡ true → h ≡ made (state_of h) (number_of h) (count_of h)
  unfolding header_ok made
  header_made h ok =
      let p = all_true (listed_state (state_of h) ∷ eqb h.state (state_word (state_of h) z) ∷ eqb h.size (size_word z)
      ∷ eqb h.growth (growth_word (number_of h)) ∷ eqb h.count (count_word (count_of h)) ∷ []) ok in
      let state = eqb-true _ _ p.1.0 in
      let size = eqb-true _ _ p.1.1.0 in
      let growth = eqb-true _ _ p.1.1.1.0 in
      let count = eqb-true _ _ p.1.1.1.1.0 in
      λ i. record { state = state i; size = size i; growth = growth i; count = count i }

-- ---- the words of a stripe

-- a named bit of kind 11 is a transfer's, computed or released
sent_bit : (z : Shape) (x y e : ℕ) → progress_names z e ≡ true
    → (e < transfers z → bit x e ≡ bit y e) → bit x 26 ≡ bit y 26 → bit x 27 ≡ bit y 27 → bit x e ≡ bit y e
sent_bit z x y e n transfer computed released = go (ltb e (transfers z)) refl (eqb e 26) refl (eqb e 27) refl
  where
    go : (a : Bool) → ltb e (transfers z) ≡ a → (b : Bool) → eqb e 26 ≡ b → (c : Bool) → eqb e 27 ≡ c → bit x e ≡ bit y e
    go true p b q c t = transfer (ltb-true e (transfers z) p)
    go false p true q c t = rw (eqb-true e 26 q) computed
    go false p false q true t = rw (eqb-true e 27 t) released
    go false p false q false t = absurd (clash n (rw (p, q, t)))

module _ (z : Shape) (number : ℕ) (a b : List ℕ) (good-a : GoodJournal z number a) (good-b : GoodJournal z number b)
    (same : SameMarks z a b) where
  abbrev parts_a : WholeParts z a
  parts_a = whole_parts z a good-a.whole

  abbrev parts_b : WholeParts z b
  parts_b = whole_parts z b good-b.whole

  accepted_same : (w : ℕ) → w < kept z → (record_at a w).accepted ≡ (record_at b w).accepted
  unfolding record_at accepted_ok is_accepted
  accepted_same w l = words_same 10 (omega arith) (accepted_names z) _ _
      (parts_a.records w l).accepted_word_law (parts_b.records w l).accepted_word_law
      (λ e _ n. (same.stages w l).accepted e (ltb-true e (transfers z) n))

  sent_same : (w : ℕ) → w < kept z → (record_at a w).progress ≡ (record_at b w).progress
  unfolding record_at progress_ok is_receipted is_computed is_released
  sent_same w l = words_same 11 (omega arith) (progress_names z) _ _
      (parts_a.records w l).progress_word_law (parts_b.records w l).progress_word_law
      (λ e _ n. sent_bit z _ _ e n (λ m. same.receipted w e l m) (same.stages w l).computed (same.stages w l).released)

  record_same : (w : ℕ) → w < kept z → record_at a w ≡ record_at b w
  record_same w l = λ i. record { accepted = accepted_same w l i; progress = sent_same w l i }

  -- the count is that of the marks
  count_same : count_of (header_of a) ≡ count_of (header_of b)
  unfolding marks total
  count_same =
      parts_a.counted
      ∙ sum_same (kept z) _ _ (λ w l. sum_same (transfers z) _ _ (λ e m. ap indicator ((same.stages w l).accepted e m)))
      ∙ sym parts_b.counted

  header_same : header_of a ≡ header_of b
  header_same =
      header_made z (header_of a) parts_a.header
      ∙ (λ i. made z (same.state i) (growth i) (count_same i))
      ∙ sym (header_made z (header_of b) parts_b.header)
    where
      growth : number_of (header_of a) ≡ number_of (header_of b)
      growth = good-a.growth ∙ sym good-b.growth

  pub journal_by_marks : a ≡ b
  unfolding journal_length
  journal_by_marks = journal_ext a b (kept z) good-a.long good-b.long header_same record_same
