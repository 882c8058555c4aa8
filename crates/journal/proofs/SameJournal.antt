-- A journal is its header and its records: two of a length with the same ones are the same. Assumes nothing.
use mathlib.Core.Path.{◌≡◌, sym, ap, ◌∙◌}
use mathlib.Core.List.{List}
use Prim.Native.Nat.{ℕ, zero, suc, ◌+◌, ◌*◌, ◌/◌, ◌%◌, ◌<◌}
use native.Mathlib.Omega.{arith}
use lib.ListN.{length, get_or}
use lib.Seq.{ext_get_or}
use Rattle.journal.specs.Journal.{header_of, record_at}

same_word : (a b : List ℕ) (n i : ℕ) → header_of a ≡ header_of b → ((w : ℕ) → w < n → record_at a w ≡ record_at b w) → i < 4 + 2 * n
    → get_or a i 0 ≡ get_or b i 0
unfolding header_of record_at
same_word a b n zero h r l = ap (λ x. x.state) h
same_word a b n (suc zero) h r l = ap (λ x. x.size) h
same_word a b n (suc (suc zero)) h r l = ap (λ x. x.growth) h
same_word a b n (suc (suc (suc zero))) h r l = ap (λ x. x.count) h
same_word a b n (suc (suc (suc (suc i)))) h r l = go (i / 2) (i % 2) (omega arith) (omega arith)
  where
    go : (w p : ℕ) → suc (suc (suc (suc i))) ≡ 4 + 2 * w + p → p < 2
        → get_or a (suc (suc (suc (suc i)))) 0 ≡ get_or b (suc (suc (suc (suc i)))) 0
    go w zero e q =
        let f : suc (suc (suc (suc i))) ≡ 4 + 2 * w = omega arith in
        rw f (ap (λ x. x.accepted) (r w (omega arith)))
    go w (suc zero) e q =
        let f : suc (suc (suc (suc i))) ≡ 5 + 2 * w = omega arith in
        rw f (ap (λ x. x.progress) (r w (omega arith)))
    go w (suc (suc p)) e q = absurd (omega arith)

pub journal_ext : (a b : List ℕ) (n : ℕ) → length a ≡ 4 + 2 * n → length b ≡ 4 + 2 * n → header_of a ≡ header_of b
    → ((w : ℕ) → w < n → record_at a w ≡ record_at b w) → a ≡ b
journal_ext a b n la lb h r = ext_get_or 0 a b (la ∙ sym lb) (λ i l. same_word a b n i h r (omega arith))
