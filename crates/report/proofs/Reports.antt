-- The relation of what is read and what is printed: each input has a text, and one only, and 16 bytes of it decide.
-- Assumes nothing.
use mathlib.Core.Path.{◌≡◌, refl, sym, ap, ◌∙◌}
use mathlib.Core.List.{List, [], List-discrete}
use Prim.Native.Nat.{ℕ, ◌≤◌, ◌<◌}
use native.Mathlib.Decide.{dec_lt, ℕ_discrete}
use native.Mathlib.Omega.{arith}
use lib.ListN.{length, take, length-take}
use lib.Seq.{take_all}
use Rattle.report.specs.declared.text.Report.{Report}
use Rattle.report.specs.declared.numbers.Numbers.{Numbers}
use Rattle.report.specs.Text.{line, answer_text, refused_text}
use Rattle.report.specs.Writing.{written, Appends, Holds}
use Rattle.report.specs.Reading.{three, numbers_of}
use Rattle.report.specs.Reports.{IsLine, Reports}
use Rattle.report.specs.Reports.Reports.{shape, other}
use Rattle.report.proofs.Reading.{numbers_line}
use Rattle.report.proofs.Writing.{holds}
use Rattle.report.proofs.Lines.{length_line}

-- ---- the numbers read from a line are its own

numbers_of_law : (input : List ℕ) (n k s : ℕ) → IsLine input n k s → numbers_of input ≡ three n k s
numbers_of_law input n k s l = ap numbers_of l.text ∙ numbers_line n k s l.n_short l.k_short l.s_short

short : (input : List ℕ) (n k s : ℕ) → IsLine input n k s → length input ≤ 12
short input n k s l = rw l.text (length_line n k s l.n_short l.k_short l.s_short)

-- ---- an input has one report: the numbers of a line are read from it, so they decide the answer

line_one : (input : List ℕ) (n k s m l t : ℕ) → IsLine input n k s → IsLine input m l t → answer_text n k s ≡ answer_text m l t
line_one input n k s m l t a b =
    let p : ◌≡◌ {A = Numbers} (three n k s) (three m l t) = sym (numbers_of_law input n k s a) ∙ numbers_of_law input m l t b in
    ap (λ (z : Numbers). answer_text z.first z.second z.third) p

pub reports_one : {input a b : List ℕ} → Reports input a → Reports input b → a ≡ b
reports_one {input} (shape n k s a) (shape m l t b) = line_one input n k s m l t a b
reports_one (shape n k s a) (other h) = absurd (h n k s a)
reports_one (other h) (shape n k s a) = absurd (h n k s a)
reports_one (other h) (other l) = refl

-- ---- 16 bytes of an input decide: a line has at most 12

same_line : {input input' : List ℕ} {n k s : ℕ} → input ≡ input' → IsLine input n k s → IsLine input' n k s
same_line e l = rw e at l

whole_of : (input : List ℕ) → length (take 16 input) ≤ 12 → take 16 input ≡ input
whole_of input h = take_all 16 input (omega (arith, length-take 16 input))

pub reports_prefix : {input out : List ℕ} → Reports (take 16 input) out → Reports input out
reports_prefix {input} (shape n k s l) = shape n k s (same_line (whole_of input (short (take 16 input) n k s l)) l)
reports_prefix {input} (other h) =
    other (λ n k s l. h n k s (same_line (sym (take_all 16 input (omega (arith, short input n k s l)))) l))

-- ---- an input from which other numbers are read, or another line is written, is no line

module _ (input : List ℕ) (z : Numbers) (read : z ≡ numbers_of input) where
  numbers_are : (n k s : ℕ) → IsLine input n k s → (z.first ≡ n) × (z.second ≡ k) × (z.third ≡ s)
  numbers_are n k s l =
      let e = read ∙ numbers_of_law input n k s l in
      (ap (λ (y : Numbers). y.first) e, ap (λ (y : Numbers). y.second) e, ap (λ (y : Numbers). y.third) e)

  pub large_first : 1000 ≤ z.first → (n k s : ℕ) → IsLine input n k s → ⊥
  large_first h n k s l = let e = numbers_are n k s l in omega arith

  pub large_second : 1000 ≤ z.second → (n k s : ℕ) → IsLine input n k s → ⊥
  large_second h n k s l = let e = numbers_are n k s l in omega arith

  pub large_third : 1000 ≤ z.third → (n k s : ℕ) → IsLine input n k s → ⊥
  large_third h n k s l = let e = numbers_are n k s l in omega arith

  pub another_line : (line z.first z.second z.third ≡ input → ⊥) → (n k s : ℕ) → IsLine input n k s → ⊥
  another_line d n k s l = let e = numbers_are n k s l in d (rw (e.0, e.1, e.2) (sym l.text))

-- ---- every input has a report

pub reports_some : (input : List ℕ) → (out : List ℕ) × Reports input out
reports_some input =
    let z = numbers_of input in
    go z refl (dec_lt z.first 1000) (dec_lt z.second 1000) (dec_lt z.third 1000)
    (List-discrete ℕ_discrete (line z.first z.second z.third) input)
  where
    go : (z : Numbers) → z ≡ numbers_of input → Dec (z.first < 1000) → Dec (z.second < 1000) → Dec (z.third < 1000)
        → Dec (line z.first z.second z.third ≡ input) → (out : List ℕ) × Reports input out
    go z r (yes a) (yes b) (yes c) (yes e) = (
      answer_text z.first z.second z.third,
      shape z.first z.second z.third (record { n_short = a; k_short = b; s_short = c; text = sym e }),
    )
    go z r (yes a) (yes b) (yes c) (no e) = (refused_text 5, other (another_line input z r e))
    go z r (yes a) (yes b) (no c) d = (refused_text 5, other (large_third input z r (omega arith)))
    go z r (yes a) (no b) c d = (refused_text 5, other (large_second input z r (omega arith)))
    go z r (no a) b c d = (refused_text 5, other (large_first input z r (omega arith)))

-- ---- what the code's branches tell; q is the line that was written anew, p the answer

abbrev pub Answered : List ℕ → Report → Type 0
Answered input p = Reports input (written p) × (p.length ≤ 128) × (length p.text ≡ 128)

pub answered : (input : List ℕ) (n k s : ℕ) {p : Report} → IsLine input n k s → Holds (answer_text n k s) p → Answered input p
answered input n k s l h = (rw h.text (shape n k s l), h.fits, h.whole)

pub refused_other : (input : List ℕ) {p : Report} → ((n k s : ℕ) → IsLine input n k s → ⊥) → Holds (refused_text 5) p → Answered input p
refused_other input f h = (rw h.text (other f), h.fits, h.whole)

pub written_line : (input : List ℕ) (n k s : ℕ) {r q : Report} → written r ≡ [] → Appends r (line n k s) q → written q ≡ input
    → input ≡ line n k s
written_line input n k s e f t = sym t ∙ (holds e f).text

pub written_other : (input : List ℕ) (n k s : ℕ) {r q : Report} → written r ≡ [] → Appends r (line n k s) q → (written q ≡ input → ⊥)
    → line n k s ≡ input → ⊥
written_other input n k s e f d q = d ((holds e f).text ∙ q)
