-- What is claimed of a stripe's record: what each mark changes and leaves, and that stages move only forward. Assumes nothing.
use Rattle.std.specs.Prelude.{◌≡◌, true, false, ℕ, ◌+◌, ◌^◌, ◌≤◌, ◌<◌}
use Rattle.base.specs.Folds.{sum, indicator}
use Rattle.layout.specs.declared.Shape.{Shape}
use Rattle.layout.specs.Counts.{transfers}
use Rattle.wire.specs.Words.{kind_of, bit}
use Rattle.records.specs.declared.StripeRecord.{StripeRecord}
use Rattle.records.specs.Records.{is_accepted, is_receipted, is_computed, is_released, set_bit, accept, receipt, compute, release}
use Rattle.records.specs.Stages.{stage}
use Rattle.records.specs.Conditions.{accepted_ok, progress_ok}

-- a mark: its bit, the other bits, the kind, the number of marks
pub record MarkClaims : Type 0 where
  pub same : (x e : ℕ) → bit (set_bit x e) e ≡ true
  pub other : (x e f : ℕ) → (e ≡ f → ⊥) → bit (set_bit x e) f ≡ bit x f
  pub kind : (x e : ℕ) → e < 28 → kind_of (set_bit x e) ≡ kind_of x
  pub again : (x e : ℕ) → bit x e ≡ true → set_bit x e ≡ x
  pub more : (x e n : ℕ) → e < n → bit x e ≡ false → sum n (λ i. indicator (bit (set_bit x e) i)) ≡ sum n (λ i. indicator (bit x i)) + 1

-- what each step of a stripe sets, and that no step takes a stage back
pub record StepClaims (z : Shape) (r : StripeRecord) : Type 0 where
  pub accepts : (e : ℕ) → is_accepted (accept r e) e ≡ true
  pub receipts : (e : ℕ) → is_receipted (receipt r e) e ≡ true
  pub computes : is_computed (compute r) ≡ true
  pub releases : is_released (release r) ≡ true
  pub accept_stage : (e : ℕ) → stage (accept r e) ≡ stage r
  pub receipt_stage : (e : ℕ) → e < transfers z → stage (receipt r e) ≡ stage r
  pub compute_stage : stage r ≤ stage (compute r)
  pub release_stage : stage r ≤ stage (release r)
  pub release_computed : is_computed (release r) ≡ is_computed r
  -- the words stay as the touched-word tests want them
  pub accepted_ok_law : (e : ℕ) → e < transfers z → accepted_ok z r.accepted ≡ true → accepted_ok z (accept r e).accepted ≡ true
  pub receipt_ok : (e : ℕ) → e < transfers z → progress_ok z r.progress ≡ true → progress_ok z (receipt r e).progress ≡ true
  pub compute_ok : progress_ok z r.progress ≡ true → progress_ok z (compute r).progress ≡ true
  pub release_ok : progress_ok z r.progress ≡ true → progress_ok z (release r).progress ≡ true

-- a word that passes its test has its kind, and no more than 32 bits
pub record WordClaims (z : Shape) : Type 0 where
  pub accepted : (x : ℕ) → accepted_ok z x ≡ true → (kind_of x ≡ 10) × (x < 2 ^ 32)
  pub progress : (x : ℕ) → progress_ok z x ≡ true → (kind_of x ≡ 11) × (x < 2 ^ 32)

pub record RecordClaims (z : Shape) : Type 0 where
  pub mark : MarkClaims
  pub words : WordClaims z
  pub steps : (r : StripeRecord) → StepClaims z r
