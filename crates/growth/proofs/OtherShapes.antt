-- A header is of one shape only, so a call with another one is refused, whatever the lengths. Assumes nothing.
use mathlib.Core.Path.{◌≡◌, refl, sym, ap, ◌∙◌}
use mathlib.Core.Bool.{true}
use mathlib.Core.List.{List, [], ◌∷◌}
use Prim.Native.Nat.{ℕ, zero, suc, ◌<◌}
use native.Mathlib.Omega.{arith}
use lib.Dec.{eqb}
use borrow.Author.Tests.{eqb-true, not-false}
use Rattle.base.specs.Refusals.{first}
use Rattle.base.proofs.Refusals.{first_zero, or_else_zero}
use Rattle.base.proofs.Tests.{and_left, all_true}
use Rattle.answer.specs.Located.{Refused}
use Rattle.answer.proofs.Answers.{or_refused}
use Rattle.layout.specs.declared.Shape.{Shape}
use Rattle.layout.specs.Ranges.{InRanges, shape_refusal}
use Rattle.layout.proofs.RangeLaws.{in_ranges}
use Rattle.wire.specs.Words.{state_word, size_word, growth_word, count_word, field_at, rest_of}
use Rattle.wire.proofs.WordLaws.{state_back, size_back}
use Rattle.journal.specs.declared.headers.JournalHeader.{JournalHeader}
use Rattle.journal.specs.States.{listed_state}
use Rattle.journal.specs.Journal.{header_of, state_of, number_of, count_of, header_ok}
use Rattle.journal.specs.Whole.{whole_ok}
use Rattle.journal.specs.Status as Status
use Rattle.journal.specs.StatusAnswer as Tell
use Rattle.growth.specs.Compute.{compute_refusal, compute}
use Rattle.growth.specs.Send.{send_refusal, send}
use Rattle.growth.specs.Deliver.{deliver_refusal, deliver}
use Rattle.growth.specs.Receipt.{receipt_refusal, receipt}
use Rattle.growth.specs.Release.{release_refusal, release}
use Rattle.growth.specs.Close.{close_refusal, close}
use Rattle.growth.specs.Read.{read_refusal, at_or, offset_of, locate}
use Rattle.growth.specs.Drive.{drive_refusal, drive}
use Rattle.growth.specs.Claims.{RefusesAll, OtherShape}
use Rattle.growth.proofs.Allowed.{compute_allowed, send_allowed, deliver_allowed, receipt_allowed, release_allowed, close_allowed}
use Rattle.growth.proofs.Allowed.{read_allowed, drive_allowed}

same_shape_law : (y z : Shape) → y.n ≡ z.n → y.k ≡ z.k → y.s ≡ z.s → y.b ≡ z.b → y ≡ z
same_shape_law y z en ek es eb = λ i. record { n = en i; k = ek i; s = es i; b = eb i }

-- the words of kinds 7 and 8 are the shape's
header_words : (z : Shape) (h : JournalHeader) → header_ok z h ≡ true → (h.state ≡ state_word (state_of h) z) × (h.size ≡ size_word z)
unfolding header_ok
header_words z h e =
    let p = all_true
    (listed_state (state_of h) ∷ eqb h.state (state_word (state_of h) z) ∷ eqb h.size (size_word z)
    ∷ eqb h.growth (growth_word (number_of h)) ∷ eqb h.count (count_word (count_of h)) ∷ []) e in
    (eqb-true _ _ p.1.0, eqb-true _ _ p.1.1.0)

pub one_shape : (y z : Shape) → InRanges y → InRanges z → (h : JournalHeader) → header_ok y h ≡ true → header_ok z h ≡ true → y ≡ z
unfolding state_of
one_shape y z oy oz h ey ez =
    let p = header_words y h ey in
    let q = header_words z h ez in
    let small : state_of h < 16 = omega arith in
    let f =
    state_back (state_of h) y small (omega (arith, oy.few_nodes)) (omega (arith, oy.some_rows, oy.few_nodes))
    (omega (arith, oy.few_nodes)) in
    let g =
    state_back (state_of h) z small (omega (arith, oz.few_nodes)) (omega (arith, oz.some_rows, oz.few_nodes))
    (omega (arith, oz.few_nodes)) in
    let e : state_word (state_of h) y ≡ state_word (state_of h) z = sym p.0 ∙ q.0 in
    let b : size_word y ≡ size_word z = sym p.1 ∙ q.1 in
    same_shape_law y z
    (sym f.nodes ∙ (ap (field_at 16 8) e ∙ g.nodes))
    (sym f.data_columns ∙ (ap (field_at 8 8) e ∙ g.data_columns))
    (sym f.new_nodes ∙ (ap (field_at 0 8) e ∙ g.new_nodes))
    (sym (size_back y (omega (arith, oy.few_bytes))).rest ∙ (ap rest_of b ∙ (size_back z (omega (arith, oz.few_bytes))).rest))

whole_header : (z : Shape) (journal : List ℕ) → whole_ok z journal ≡ true → header_ok z (header_of journal) ≡ true
unfolding whole_ok
whole_header z journal e = and_left (header_ok z (header_of journal)) _ e

-- a number that is not 0
number_place : (n offset : ℕ) → (n ≡ 0 → ⊥) → (x : ℕ) × (at_or n offset ≡ Refused x)
number_place zero offset h = absurd (h refl)
number_place (suc n) offset h = (suc n, refl)

number_status : (n : ℕ) (journal : List ℕ) → (n ≡ 0 → ⊥) → (x : ℕ) × (Status.state_or n journal ≡ Tell.Refused x)
number_status zero journal h = absurd (h refl)
number_status (suc n) journal h = (suc n, refl)

module _ (y z : Shape) (ok : InRanges y) (journal : List ℕ) (header : header_ok y (header_of journal) ≡ true) (other : z ≡ y → ⊥) where
  -- no call with z comes past the test of the header
  never : InRanges z → header_ok z (header_of journal) ≡ true → ⊥
  never oz e = other (sym (one_shape y z ok oz (header_of journal) header e))

  status_never : Status.status_refusal z journal ≡ 0 → ⊥
  unfolding Status.status_refusal
  status_never e =
      let (s, f) = or_else_zero (shape_refusal z) (first (Status.status_refusals z journal)) e in
      let p = first_zero (Status.status_refusals z journal) (tt, (tt, tt)) f in
      never (in_ranges z s) (whole_header z journal (not-false _ p.1.0))

  pub refuses_all : RefusesAll z journal
  unfolding compute send deliver receipt release close drive locate Status.status
  refuses_all = record {
    computes =
        λ area w. or_refused (compute_refusal z _ _ (header_of journal) _ w) _
        (λ e. let m = compute_allowed z _ _ _ _ w e in never m.ok m.header);
    sends = λ area w e space. or_refused (send_refusal z _ _ _ (header_of journal) _ w e) _
        (λ q. let m = send_allowed z _ _ _ _ _ w e q in never m.ok m.header);
    delivers = λ area node message space. or_refused (deliver_refusal z _ _ _ _ (header_of journal) _ node _) _
        (λ e. let m = deliver_allowed z _ _ _ _ _ _ node _ e in never m.ok m.header);
    receipts = λ node bytes. or_refused (receipt_refusal z _ _ (header_of journal) _ node _) _
        (λ e. let m = receipt_allowed z _ _ _ _ node _ e in never m.ok m.header);
    releases = λ area w. or_refused (release_refusal z _ _ (header_of journal) _ w) _
        (λ e. let m = release_allowed z _ _ _ _ w e in never m.ok m.header);
    closes = λ area. or_refused (close_refusal z _ journal) _
        (λ e. let m = close_allowed z _ journal e in never m.ok (whole_header z journal m.whole));
    drives = λ area space limit. or_refused (drive_refusal z _ journal _) _
        (λ e. let m = (drive_allowed z _ journal _ e).0 in never m.ok (whole_header z journal m.whole));
    locates = λ area_bytes g d. number_place (read_refusal z area_bytes journal g d) (offset_of z journal g d)
        (λ e. let m = read_allowed z area_bytes journal g d e in never m.ok m.header);
    tells = number_status (Status.status_refusal z journal) journal status_never;
  }

pub other_shape_law : (y : Shape) → InRanges y → OtherShape y
other_shape_law y ok z journal header other = refuses_all y z ok journal header other
