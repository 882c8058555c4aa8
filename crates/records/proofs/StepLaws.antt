-- Each step of a stripe sets its mark, takes no stage back and keeps the tests of its word. Assumes nothing.
use mathlib.Core.Path.{◌≡◌, refl}
use mathlib.Core.Bool.{Bool, true, false, not, ◌||◌, or-true}
use mathlib.Core.List.{[], ◌∷◌}
use Prim.Native.Nat.{ℕ, ◌≤◌, ◌<◌}
use native.Mathlib.Decide.{ℕ_discrete}
use native.Mathlib.Omega.{arith}
use lib.Dec.{ltb}
use borrow.Author.Tests.{lt-ltb, eq-eqb, eqb-true}
use Rattle.base.specs.Tests.{if}
use Rattle.base.proofs.Tests.{every_at, every_intro, all_true}
use Rattle.layout.specs.declared.Shape.{Shape}
use Rattle.layout.specs.Ranges.{InRanges}
use Rattle.layout.specs.Counts.{transfers}
use Rattle.layout.proofs.Bounds.{transfers_le}
use Rattle.wire.specs.Words.{field, word, rest_of, bit}
use Rattle.records.specs.declared.StripeRecord.{StripeRecord}
use Rattle.records.specs.Records.{is_accepted, is_receipted, is_computed, is_released, set_bit, accept, receipt, compute, release}
use Rattle.records.specs.Stages.{stage}
use Rattle.records.specs.Conditions.{accepted_names, progress_names, only_named, of_kind, word_ok, accepted_ok, progress_ok}
use Rattle.records.specs.Claims.{StepClaims}
use Rattle.records.proofs.MarkLaws.{set_same, set_other, set_above}

-- ---- the tests of one word

-- a mark with a name leaves the bits without one clear
named_kept : (named : ℕ → Bool) (x e : ℕ) → named e ≡ true → only_named named x ≡ true → only_named named (set_bit x e) ≡ true
unfolding only_named
named_kept named x e h o = every_intro 28 (λ i. named i || not (bit (set_bit x e) i)) (λ i l. go i l (ℕ_discrete e i))
  where
    go : (i : ℕ) → i < 28 → Dec (e ≡ i) → (named i || not (bit (set_bit x e) i)) ≡ true
    go i l (yes q) = rw (← q, h)
    go i l (no d) = rw (set_other x e i d) (every_at 28 (λ f. named f || not (bit x f)) o i l)

kind_kept : (kind x e : ℕ) → e < 28 → of_kind kind x ≡ true → of_kind kind (set_bit x e) ≡ true
kind_kept kind x e l h =
    let is : x ≡ word kind (field 28 (rest_of x) ∷ []) = eqb-true _ _ h in
    let above = set_above x e l in
    let y : ℕ = set_bit x e in
    eq-eqb y (word kind (field 28 (rest_of y) ∷ [])) (omega (arith, is, above))

word_kept : (kind : ℕ) (named : ℕ → Bool) (x e : ℕ) → e < 28 → named e ≡ true → word_ok kind named x ≡ true
    → word_ok kind named (set_bit x e) ≡ true
word_kept kind named x e l h o =
    let q = all_true (of_kind kind x ∷ only_named named x ∷ []) o in
    rw (kind_kept kind x e l q.0, named_kept named x e h q.1.0)

pub compute_ok : (z : Shape) (x : ℕ) → progress_ok z x ≡ true → progress_ok z (set_bit x 26) ≡ true
unfolding progress_ok
compute_ok z x o = word_kept 11 (progress_names z) x 26 (omega arith) (or-true (ltb 26 (transfers z))) o

pub release_ok : (z : Shape) (x : ℕ) → progress_ok z x ≡ true → progress_ok z (set_bit x 27) ≡ true
unfolding progress_ok
release_ok z x o = word_kept 11 (progress_names z) x 27 (omega arith) (or-true (ltb 27 (transfers z))) o

module _ (z : Shape) (ok : InRanges z) where
  pub accept_ok : (x e : ℕ) → e < transfers z → accepted_ok z x ≡ true → accepted_ok z (set_bit x e) ≡ true
  unfolding accepted_ok
  accept_ok x e l o = let m = transfers_le z ok in word_kept 10 (accepted_names z) x e (omega arith) (lt-ltb e (transfers z) l) o

  pub receipt_ok : (x e : ℕ) → e < transfers z → progress_ok z x ≡ true → progress_ok z (set_bit x e) ≡ true
  unfolding progress_ok
  receipt_ok x e l o = let m = transfers_le z ok in word_kept 11 (progress_names z) x e (omega arith) (rw (lt-ltb e (transfers z) l)) o

-- ---- the stages

module _ (r : StripeRecord) where
  pub compute_released : is_released (compute r) ≡ is_released r
  unfolding is_released compute
  compute_released = set_other r.progress 26 27 (λ q. omega arith)

  pub release_computed : is_computed (release r) ≡ is_computed r
  unfolding is_computed release
  release_computed = set_other r.progress 27 26 (λ q. omega arith)

  compute_stage : stage r ≤ stage (compute r)
  unfolding stage is_computed compute
  compute_stage = rw (compute_released, set_same r.progress 26) (go (is_released r) (is_computed r))
    where
      go : (a b : Bool) → if a 2 (if b 1 0) ≤ if a 2 1
      go true b = omega arith
      go false true = omega arith
      go false false = omega arith

  release_stage : stage r ≤ stage (release r)
  unfolding stage is_released release
  release_stage = rw (set_same r.progress 27) (go (is_released r) (is_computed r))
    where
      go : (a b : Bool) → if a 2 (if b 1 0) ≤ 2
      go true b = omega arith
      go false true = omega arith
      go false false = omega arith

  accept_stage : (e : ℕ) → stage (accept r e) ≡ stage r
  unfolding stage is_released is_computed accept
  accept_stage e = refl

  receipt_stage : (e : ℕ) → e < 26 → stage (receipt r e) ≡ stage r
  unfolding stage is_released is_computed receipt
  receipt_stage e l = rw (set_other r.progress e 27 (λ q. omega arith), set_other r.progress e 26 (λ q. omega arith))

module _ (z : Shape) (ok : InRanges z) where
  pub steps_hold : (r : StripeRecord) → StepClaims z r
  unfolding is_accepted is_receipted is_computed is_released accept receipt compute release
  steps_hold r = record {
    accepts = set_same r.accepted;
    receipts = set_same r.progress;
    computes = set_same r.progress 26;
    releases = set_same r.progress 27;
    accept_stage = accept_stage r;
    receipt_stage = λ e l. receipt_stage r e (omega (arith, transfers_le z ok));
    compute_stage = compute_stage r;
    release_stage = release_stage r;
    release_computed = release_computed r;
    accepted_ok_law = accept_ok z ok r.accepted;
    receipt_ok = receipt_ok z ok r.progress;
    compute_ok = compute_ok z r.progress;
    release_ok = release_ok z r.progress;
  }
