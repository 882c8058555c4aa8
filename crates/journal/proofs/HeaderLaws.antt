-- A header that was written is read back, and writing it leaves the length and every record. Assumes nothing.
use mathlib.Core.Path.{◌≡◌, refl, ◌∙◌}
use mathlib.Core.List.{List, [], ◌∷◌}
use Prim.Native.Nat.{ℕ, ◌+◌, ◌*◌, ◌≤◌}
use native.Mathlib.Omega.{arith}
use lib.ListN.{length, get_or, set, length-set}
use lib.Seq.{get_or-set_other}
use Rattle.journal.specs.declared.headers.JournalHeader.{JournalHeader}
use Rattle.journal.specs.Journal.{header_of, put_header, record_at}

pub header_length : (journal : List ℕ) (h : JournalHeader) → length (put_header journal h) ≡ length journal
unfolding put_header
header_length journal h = simp length-set

pub header_back : (journal : List ℕ) (h : JournalHeader) → 4 ≤ length journal → header_of (put_header journal h) ≡ h
unfolding put_header header_of
header_back [] h l = absurd (omega arith)
header_back (a ∷ []) h l = absurd (omega arith)
header_back (a ∷ b ∷ []) h l = absurd (omega arith)
header_back (a ∷ b ∷ c ∷ []) h l = absurd (omega arith)
header_back (a ∷ b ∷ c ∷ d ∷ rest) h l = refl

past_header : (journal : List ℕ) (h : JournalHeader) (i : ℕ) → 4 ≤ i → get_or (put_header journal h) i 0 ≡ get_or journal i 0
unfolding put_header
past_header journal h i l =
    let a : List ℕ = set journal 0 h.state in
    let b : List ℕ = set a 1 h.size in
    let c : List ℕ = set b 2 h.growth in
    get_or-set_other c 3 i h.count 0 (λ q. omega arith)
    ∙ get_or-set_other b 2 i h.growth 0 (λ q. omega arith)
    ∙ get_or-set_other a 1 i h.size 0 (λ q. omega arith)
    ∙ get_or-set_other journal 0 i h.state 0 (λ q. omega arith)

pub header_records : (journal : List ℕ) (h : JournalHeader) (w : ℕ) → record_at (put_header journal h) w ≡ record_at journal w
unfolding record_at
header_records journal h w = rw (past_header journal h (4 + 2 * w) (omega arith), past_header journal h (5 + 2 * w) (omega arith))
