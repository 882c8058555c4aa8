-- Receipt depends on the header, its word and the receipt alone, and changes nothing else. Assumes nothing.
use mathlib.Core.Path.{◌≡◌, refl, ap}
use mathlib.Core.List.{List}
use Prim.Native.Nat.{ℕ, ◌+◌, ◌*◌, ◌<◌}
use lib.ListN.{length}
use Rattle.answer.specs.Answers.{done}
use Rattle.answer.proofs.Answers.{answered_done, done_cases, done_both}
use Rattle.layout.specs.declared.Shape.{Shape}
use Rattle.wire.specs.Words.{bit}
use Rattle.wire.specs.Headers.{header_at, stripe_of, transfer_of}
use Rattle.wire.proofs.FormLaws.{receipt_is}
use Rattle.records.specs.Records as Records
use Rattle.journal.specs.Journal.{header_of, record_at}
use Rattle.journal.proofs.PutLaws.{pair_inside}
use Rattle.growth.specs.Receipt.{receipted_journal, receipt}
use Rattle.growth.specs.Local.{SameProgress, OnlyProgress, ReceiptLocal}
use Rattle.growth.proofs.Allowed.{receipt_allowed}
use Rattle.growth.proofs.LocalWords.{only_sent_none, same_sent, only_sent}

module _ (z : Shape) (node : ℕ) (bytes : List ℕ) where
  w : ℕ
  w = stripe_of (header_at bytes 0)

  e : ℕ
  e = transfer_of (header_at bytes 0)

  receipt_same : (i j : List ℕ) → SameProgress w i j → (receipt z i node bytes).answer ≡ (receipt z j node bytes).answer
  unfolding receipt w e
  receipt_same i j t = rw (t.long, t.header, t.word)

  pair_there : (i : List ℕ) → (receipt z i node bytes).answer ≡ done → 5 + 2 * w < length i
  unfolding receipt w e
  pair_there i q =
      let m =
      receipt_allowed z (length i) (length bytes) (header_of i) _ node (header_at bytes 0)
      (answered_done _ (bit (record_at i w).progress e) q).0 in
      pair_inside z i (stripe_of (header_at bytes 0)) m.journal_long (receipt_is z (header_at bytes 0) m.form).transfer.stripe

  pub receipt_local : ReceiptLocal z node bytes
  unfolding receipt receipted_journal Records.receipt w e
  receipt_local = record {
    answer = receipt_same;
    journal = λ i j t. done_both (SameProgress w) (receipt z i node bytes).answer (receipt z j node bytes).answer _ _ _ _
        (receipt_same i j t)
        (λ q. same_sent w i j _ _ (pair_there i q) (ap (λ x. Records.set_bit x e) t.word) t) t;
    only_word =
        λ i. done_cases (OnlyProgress w i) (receipt z i node bytes).answer _ _ (λ q. only_sent w i _ (pair_there i q) refl)
        (only_sent_none w i);
  }
