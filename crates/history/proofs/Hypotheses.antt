-- The theorem of histories asks for no more than it says: any genuine call, any list of them, any order, any spaces. Assumes nothing.
use mathlib.Core.Path.{◌≡◌, refl, sym, ap, ◌∙◌}
use mathlib.Core.Bool.{Bool, true, false}
use mathlib.Core.List.{List, [], ◌∷◌, ◌++◌}
use Prim.Native.Nat.{ℕ, suc}
use Rattle.base.specs.Tests.{if, same, same2}
use Rattle.layout.specs.declared.Shape.{Shape}
use Rattle.protocol.specs.Transfers.{times, Transfer, occurrences}
use Rattle.protocol.specs.Histories.{EachWasSent}
use Rattle.protocol.proofs.Histories.{each_both}
use Rattle.history.specs.Contents.{Trace, Contents}
use Rattle.history.specs.Begun.{begun_contents}
use Rattle.history.specs.Completions.{NamesOnce, NamesThrice}
use Rattle.history.specs.Hypotheses.{AnyCall, AnyHistory, AnyOrder, AnySpaces}
use Rattle.history.specs.Claims.{begun_store, IsHistory}

pub any_call : (c : Contents) → AnyCall c
any_call c = record {
  delivers = λ y node bytes space h. h;
  receipts = λ y node bytes h. h;
  computes = λ y w. tt;
  sends = λ y w e space. tt;
  releases = λ y w. tt;
  closes = λ y. tt;
  drives = λ y space limit. tt;
}

pub any_history : (z : Shape) (area : List ℕ) (number : ℕ) → AnyHistory (begun_contents z area number) (IsHistory z area number)
unfolding EachWasSent
any_history z area number = record {
  none = tt;
  one_more = λ history h k q. each_both (begun_store z area number) history (k ∷ []) (begun_contents z area number) h (q, tt);
}

-- ---- how often something stands in a list does not depend on the order

swap_counts : (a b : Bool) (n : ℕ) → if a (suc (if b (suc n) n)) (if b (suc n) n) ≡ if b (suc (if a (suc n) n)) (if a (suc n) n)
swap_counts true true n = refl
swap_counts true false n = refl
swap_counts false true n = refl
swap_counts false false n = refl

times_swap : (w : ℕ) (first rest : List ℕ) (x y : ℕ) → times w (first ++ (x ∷ y ∷ rest)) ≡ times w (first ++ (y ∷ x ∷ rest))
unfolding times
times_swap w [] rest x y = swap_counts (same w x) (same w y) (times w rest)
times_swap w (v ∷ first) rest x y = ap (λ (n : ℕ). if (same w v) (suc n) n) (times_swap w first rest x y)

occurrences_swap : (w e : ℕ) (first rest : List Transfer) (x y : Transfer)
    → occurrences w e (first ++ (x ∷ y ∷ rest)) ≡ occurrences w e (first ++ (y ∷ x ∷ rest))
unfolding occurrences
occurrences_swap w e [] rest x y =
    swap_counts (same2 w x.stripe e x.item) (same2 w y.stripe e y.item) (occurrences w e rest)
occurrences_swap w e (v ∷ first) rest x y =
    ap (λ (n : ℕ). if (same2 w v.stripe e v.item) (suc n) n) (occurrences_swap w e first rest x y)

pub any_order : (z : Shape) (t : Trace) → AnyOrder z t
unfolding NamesOnce NamesThrice
any_order z t = record {
  computing = λ first rest x y is rs h. record {
    uncomputed = λ w. sym (times_swap w first rest x y) ∙ h.uncomputed w;
    unreceipted = h.unreceipted;
    unreleased = h.unreleased;
  };
  transferring = λ cs first rest x y rs h. record {
    uncomputed = h.uncomputed;
    unreceipted = λ w e. sym (occurrences_swap w e first rest x y) ∙ h.unreceipted w e;
    unreleased = h.unreleased;
  };
  releasing = λ cs is first rest x y h. record {
    uncomputed = h.uncomputed;
    unreceipted = h.unreceipted;
    unreleased = λ w. sym (times_swap w first rest x y) ∙ h.unreleased w;
  };
}

pub any_spaces : (z : Shape) → AnySpaces z
any_spaces z for_message for_receipt m r =
    (record { for_message = for_message; for_receipt = for_receipt; message_long = m; receipt_long = r }, refl, refl)
