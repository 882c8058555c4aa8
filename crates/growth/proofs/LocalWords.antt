-- Laws of two journals with the same header and touched word, and of a journal that differs in no other word. Assumes nothing.
use mathlib.Core.Path.{◌≡◌, refl, sym, ap, ◌∙◌}
use mathlib.Core.List.{List}
use Prim.Native.Nat.{ℕ, ◌+◌, ◌*◌, ◌<◌}
use native.Mathlib.Omega.{arith}
use lib.ListN.{length}
use Rattle.records.specs.declared.StripeRecord.{StripeRecord}
use Rattle.records.specs.Records.{accept, set_bit}
use Rattle.journal.specs.Journal.{record_at, put_record}
use Rattle.journal.proofs.PutLaws.{put_length, put_back, put_other, put_header_law}
use Rattle.growth.specs.Deliver.{counted_up, delivered_journal}
use Rattle.growth.specs.Local.{SameProgress, SameAccepted, OnlyProgress, OnlyAccepted}
use Rattle.growth.proofs.DeliveredWords.{delivered_length, delivered_header, delivered_records}

module _ (w : ℕ) where
  pub only_sent_none : (i : List ℕ) → OnlyProgress w i i
  only_sent_none i = record { long = refl; header = refl; accepted = refl; others = λ x d. refl }

  pub only_accepted_none : (i : List ℕ) → OnlyAccepted w i i
  only_accepted_none i = record { long = refl; state = refl; size = refl; growth = refl; progress = refl; others = λ x d. refl }

  -- ---- a record put in the place of w that changes kind 11 only

  pub same_sent : (i j : List ℕ) (p q : StripeRecord) → 5 + 2 * w < length i → p.progress ≡ q.progress → SameProgress w i j
      → SameProgress w (put_record i w p) (put_record j w q)
  same_sent i j p q l e s = record {
    long = put_length i w p ∙ (s.long ∙ sym (put_length j w q));
    header = put_header_law i w p ∙ (s.header ∙ sym (put_header_law j w q));
    word = ap (λ r. r.progress) (put_back i w p l) ∙ (e ∙ sym (ap (λ r. r.progress) (put_back j w q (rw (sym s.long) l))));
  }

  pub only_sent : (i : List ℕ) (p : StripeRecord) → 5 + 2 * w < length i → p.accepted ≡ (record_at i w).accepted
      → OnlyProgress w i (put_record i w p)
  only_sent i p l e = record {
    long = put_length i w p;
    header = put_header_law i w p;
    accepted = ap (λ r. r.accepted) (put_back i w p l) ∙ e;
    others = put_other i w p;
  }

  -- ---- a deliver's acceptance of transfer e

  delivered_record : (i : List ℕ) (e : ℕ) → 5 + 2 * w < length i → record_at (delivered_journal i w e) w ≡ accept (record_at i w) e
  delivered_record i e l = delivered_records i w e w ∙ put_back i w (accept (record_at i w) e) l

  pub same_delivered : (i j : List ℕ) (e : ℕ) → 5 + 2 * w < length i → SameAccepted w i j
      → SameAccepted w (delivered_journal i w e) (delivered_journal j w e)
  unfolding accept
  same_delivered i j e l s =
      let k : 5 + 2 * w < length j = rw (sym s.long) l in
      record {
        long = delivered_length i w e ∙ (s.long ∙ sym (delivered_length j w e));
        header = delivered_header i w e (omega arith) ∙ (ap counted_up s.header ∙ sym (delivered_header j w e (omega arith)));
        word = ap (λ r. r.accepted) (delivered_record i e l)
            ∙ (ap (λ x. set_bit x e) s.word ∙ sym (ap (λ r. r.accepted) (delivered_record j e k)));
      }

  pub only_delivered : (i : List ℕ) (e : ℕ) → 5 + 2 * w < length i → OnlyAccepted w i (delivered_journal i w e)
  unfolding accept counted_up
  only_delivered i e l =
      let h = delivered_header i w e (omega arith) in
      record {
        long = delivered_length i w e;
        state = ap (λ x. x.state) h;
        size = ap (λ x. x.size) h;
        growth = ap (λ x. x.growth) h;
        progress = ap (λ r. r.progress) (delivered_record i e l);
        others = λ x d. delivered_records i w e x ∙ put_other i w (accept (record_at i w) e) x d;
      }
