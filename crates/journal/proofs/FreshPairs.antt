-- The words of a fresh journal: how many they are, its header, and each pair. Assumes nothing.
use mathlib.Core.Path.{◌≡◌, refl, ◌∙◌}
use mathlib.Core.List.{[], ◌∷◌}
use Prim.Native.Nat.{ℕ, zero, suc, ◌+◌, ◌*◌, ◌<◌}
use native.Mathlib.Omega.{arith}
use lib.ListN.{length, get_or}
use lib.Seq.{get_or-append-add}
use Rattle.layout.specs.declared.Shape.{Shape}
use Rattle.layout.specs.Counts.{kept}
use Rattle.wire.specs.Words.{state_word, size_word, growth_word, count_word, accepted_word, progress_word}
use Rattle.journal.specs.States.{open_state}
use Rattle.journal.specs.Journal.{header_of, journal_length, record_at}
use Rattle.journal.specs.Fresh.{fresh_header, fresh_record, fresh_pairs, fresh_journal}

pairs_length : (n : ℕ) → length (fresh_pairs n) ≡ 2 * n
unfolding fresh_pairs
pairs_length zero = refl
pairs_length (suc n) = let r = pairs_length n in omega arith

pairs_past : (n i : ℕ) → get_or (fresh_pairs (suc n)) (2 + i) 0 ≡ get_or (fresh_pairs n) i 0
unfolding fresh_pairs
pairs_past n i = get_or-append-add (accepted_word 0 ∷ progress_word 0 0 0 ∷ []) (fresh_pairs n) i 0

pairs_accepted : (n w : ℕ) → w < n → get_or (fresh_pairs n) (2 * w) 0 ≡ accepted_word 0
unfolding fresh_pairs
pairs_accepted zero w l = absurd (omega arith)
pairs_accepted (suc n) zero l = refl
pairs_accepted (suc n) (suc w) l =
    let q : 2 * suc w ≡ 2 + 2 * w = omega arith in
    rw q (pairs_past n (2 * w) ∙ pairs_accepted n w (omega arith))

pairs_sent : (n w : ℕ) → w < n → get_or (fresh_pairs n) (1 + 2 * w) 0 ≡ progress_word 0 0 0
unfolding fresh_pairs
pairs_sent zero w l = absurd (omega arith)
pairs_sent (suc n) zero l = refl
pairs_sent (suc n) (suc w) l =
    let q : 1 + 2 * suc w ≡ 2 + (1 + 2 * w) = omega arith in
    rw q (pairs_past n (1 + 2 * w) ∙ pairs_sent n w (omega arith))

module _ (z : Shape) (number : ℕ) where
  pub fresh_length : length (fresh_journal z number) ≡ journal_length z
  unfolding fresh_journal journal_length
  fresh_length = let r = pairs_length (kept z) in omega arith

  fresh_past : (i : ℕ) → get_or (fresh_journal z number) (4 + i) 0 ≡ get_or (fresh_pairs (kept z)) i 0
  unfolding fresh_journal
  fresh_past i = get_or-append-add (state_word open_state z ∷ size_word z ∷ growth_word number ∷ count_word 0 ∷ []) (fresh_pairs (kept z)) i
      0

  pub fresh_at : (w : ℕ) → w < kept z → record_at (fresh_journal z number) w ≡ fresh_record
  unfolding record_at
  fresh_at w l =
      let q : 5 + 2 * w ≡ 4 + (1 + 2 * w) = omega arith in
      rw (q, fresh_past (2 * w), fresh_past (1 + 2 * w), pairs_accepted (kept z) w l, pairs_sent (kept z) w l)

pub fresh_header_law : (z : Shape) (number : ℕ) → header_of (fresh_journal z number) ≡ fresh_header z number
unfolding header_of fresh_journal
fresh_header_law z number = refl
