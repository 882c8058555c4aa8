-- Appending to a report: two texts after each other, and the digits of a number. Assumes nothing.
use mathlib.Core.Path.{◌≡◌, ap, ◌∙◌}
use mathlib.Core.List.{List, [], ◌∷◌, ◌++◌, append_assoc}
use Prim.Native.Nat.{ℕ, ◌+◌, ◌/◌, ◌%◌, ◌≤◌, ◌<◌}
use native.Mathlib.Omega.{arith}
use lib.ListN.{length-append}
use Rattle.report.specs.declared.text.Report.{Report}
use Rattle.report.specs.Text.{decimal}
use Rattle.report.specs.Writing.{written, Appends, Holds}
use Rattle.report.proofs.Decimal.{decimal_one, decimal_more}

pub appends_both : {r q p : Report} {a b : List ℕ} → Appends r a q → Appends q b p → Appends r (a ++ b) p
appends_both {r} {q} {p} {a} {b} f g =
    record {
      text = g.text ∙ ap (λ (t : List ℕ). t ++ b) f.text ∙ append_assoc (written r) a b;
      longer = omega (arith, length-append a b, f.longer, g.longer);
      fits = g.fits;
      whole = g.whole;
    }

pub appends_digit : {r q : Report} (m : ℕ) → m < 10 → Appends r ((48 + m % 10) ∷ []) q → Appends r (decimal m) q
appends_digit m h f = rw (decimal_one m h) f

pub appends_digits : {r q p : Report} (m : ℕ) → 10 ≤ m → Appends r (decimal (m / 10)) q → Appends q ((48 + m % 10) ∷ []) p
    → Appends r (decimal m) p
appends_digits m h f g = rw (decimal_more m h) (appends_both f g)

-- what is appended to an empty text is the text
pub holds : {r q : Report} {bytes : List ℕ} → written r ≡ [] → Appends r bytes q → Holds bytes q
holds {r} {q} {bytes} e f = record { text = f.text ∙ ap (λ (t : List ℕ). t ++ bytes) e; fits = f.fits; whole = f.whole }
