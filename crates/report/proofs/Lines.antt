-- The length of a line, and the answer. Assumes nothing.
use mathlib.Core.Path.{◌≡◌}
use Prim.Native.Nat.{ℕ, ◌≤◌, ◌<◌}
use native.Mathlib.Omega.{arith}
use lib.ListN.{length, length-append}
use borrow.Author.Tests.{eq-eqb, ne_eqb}
use Rattle.layout.specs.Ranges.{shape_refusal}
use Rattle.report.specs.declared.text.Report.{Report}
use Rattle.report.specs.Text.{line, refused_text, shape_text, shape_of, answer_text}
use Rattle.report.specs.Writing.{Holds}
use Rattle.report.proofs.Decimal.{length_three}

pub length_line : (n k s : ℕ) → n < 1000 → k < 1000 → s < 1000 → length (line n k s) ≤ 12
unfolding line
length_line n k s a b c = simp length-append (omega (arith, length_three n a, length_three k b, length_three s c))

-- the answer to a line, by the shape's number
pub answer_accepted : (n k s : ℕ) {r : Report} → shape_refusal (shape_of n k s) ≡ 0 → Holds (shape_text (shape_of n k s)) r
    → Holds (answer_text n k s) r
unfolding answer_text
answer_accepted n k s e h = rw (eq-eqb (shape_refusal (shape_of n k s)) 0 e) h

pub answer_refused : (n k s m : ℕ) {r : Report} → m ≡ shape_refusal (shape_of n k s) → (m ≡ 0 → ⊥) → Holds (refused_text m) r
    → Holds (answer_text n k s) r
unfolding answer_text
answer_refused n k s m q e h = rw (← q, ne_eqb m 0 e) h
