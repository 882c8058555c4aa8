-- What a completion names by what was done so far, it names by the marks, and the other way round. Assumes nothing.
use mathlib.Core.Path.{◌≡◌, refl, sym, ap, ◌∙◌}
use mathlib.Core.Bool.{Bool, true, false, not, ◌&&◌}
use mathlib.Core.List.{List}
use Prim.Native.Nat.{ℕ, ◌<◌}
use lib.Dec.{eqb, ltb}
use borrow.Author.Tests.{ltb-true}
use Rattle.base.specs.Tests.{if, below}
use Rattle.base.specs.Folds.{indicator}
use Rattle.layout.specs.declared.Shape.{Shape}
use Rattle.layout.specs.Counts.{kept, transfers}
use Rattle.protocol.specs.Transfers.{times, occurrences}
use Rattle.protocol.specs.Completions as Protocol
use Rattle.history.specs.Contents.{Contents, computed_of, released_of, receipted_of}
use Rattle.history.specs.Completions.{Order, NamesOnce, NamesThrice, Completes}
use Rattle.history.proofs.Growths.{growth_of, journal_of, MarkedOnce}
use Rattle.history.proofs.Lists.{none_done}

-- of a stripe that there is, and of a transfer of it that there is: not done so far is not marked
once_same : (there mark : Bool) (n : ℕ) → (there ≡ true → n ≡ indicator mark) → there && eqb n 0 ≡ there && not (there && mark)
once_same true mark n h = none_done n mark (h refl)
once_same false mark n h = refl

thrice_same : (there both mark : Bool) (n : ℕ) → (there ≡ true → both ≡ true → n ≡ indicator mark)
    → there && (both && eqb n 0) ≡ there && (both && not (there && (both && mark)))
thrice_same true both mark n h = once_same both mark n (h refl)
thrice_same false both mark n h = refl

module _ (z : Shape) (start : List ℕ) where
  abbrev pub as_order : Order → Protocol.Order (growth_of z start)
  as_order o = record { computing = o.computing; transferring = o.transferring; releasing = o.releasing }

  abbrev pub order_of : Protocol.Order (growth_of z start) → Order
  order_of o = record { computing = o.computing; transferring = o.transferring; releasing = o.releasing }

  module _ (c : Contents) (marked : (w : ℕ) → w < kept z → MarkedOnce z c.journal c.trace w) where
    -- the marks and what was done tell the same of what is left
    uncomputed_same : (w : ℕ)
        → ltb w (kept z) && eqb (times w (computed_of c.trace)) 0 ≡ below w (kept z) && not ((journal_of z c.journal).computed w)
    unfolding below
    uncomputed_same w = once_same (ltb w (kept z)) _ _ (λ e. (marked w (ltb-true w (kept z) e)).computed)

    unreleased_same : (w : ℕ)
        → ltb w (kept z) && eqb (times w (released_of c.trace)) 0 ≡ below w (kept z) && not ((journal_of z c.journal).released w)
    unfolding below
    unreleased_same w = once_same (ltb w (kept z)) _ _ (λ e. (marked w (ltb-true w (kept z) e)).released)

    unreceipted_same : (w e : ℕ)
        → ltb w (kept z) && (ltb e (transfers z) && eqb (occurrences w e (receipted_of c.trace)) 0)
        ≡ below w (kept z) && (below e (transfers z) && not ((journal_of z c.journal).receipted w e))
    unfolding below
    unreceipted_same w e = thrice_same (ltb w (kept z)) (ltb e (transfers z)) _ _
        (λ p q. (marked w (ltb-true w (kept z) p)).receipted e (ltb-true e (transfers z) q))

    pub completes_marks : (o : Order) → Completes z c.trace o
        → Protocol.Completes (growth_of z start) (journal_of z c.journal) (as_order o)
    unfolding NamesOnce NamesThrice Protocol.NamesOnce Protocol.NamesThrice
    completes_marks o h = record {
      uncomputed = λ w. h.uncomputed w ∙ ap (λ b. if b 1 0) (uncomputed_same w);
      unreceipted = λ w e. h.unreceipted w e ∙ ap (λ b. if b 3 0) (unreceipted_same w e);
      unreleased = λ w. h.unreleased w ∙ ap (λ b. if b 1 0) (unreleased_same w);
    }

    pub marks_complete : (o : Protocol.Order (growth_of z start)) → Protocol.Completes (growth_of z start) (journal_of z c.journal) o
        → Completes z c.trace (order_of o)
    unfolding NamesOnce NamesThrice Protocol.NamesOnce Protocol.NamesThrice
    marks_complete o h = record {
      uncomputed = λ w. h.uncomputed w ∙ ap (λ b. if b 1 0) (sym (uncomputed_same w));
      unreceipted = λ w e. h.unreceipted w e ∙ ap (λ b. if b 3 0) (sym (unreceipted_same w e));
      unreleased = λ w. h.unreleased w ∙ ap (λ b. if b 1 0) (sym (unreleased_same w));
    }
