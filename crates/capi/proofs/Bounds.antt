-- The values that answers carry are small, so that code + 256 * value fits 64 bits. Assumes nothing.
use mathlib.Core.Path.{◌≡◌, refl}
use mathlib.Core.List.{List}
use Prim.Native.Nat.{ℕ, zero, suc, ◌*◌, ◌^◌, ◌≤◌, ◌<◌}
use native.Mathlib.Omega.{arith}
use lib.ListN.{length}
use Rattle.base.specs.Folds.{indicator}
use Rattle.base.proofs.Sums.{sum_le, indicator_le}
use Rattle.answer.specs.Answers.{carried}
use Rattle.layout.specs.declared.Shape.{Shape}
use Rattle.layout.proofs.Bounds.{area_length_le}
use Rattle.wire.proofs.WordLaws.{rest_lt}
use Rattle.journal.specs.declared.headers.JournalHeader.{JournalHeader}
use Rattle.journal.specs.Journal.{header_of, count_of}
use Rattle.journal.specs.Status as Status
use Rattle.code.specs.Agreement.{is_lost, lost_count}
use Rattle.recovery.specs.RebuildAnswer.{RebuildAnswer}
use Rattle.recovery.specs.Rebuild.{Rebuilds, refused, rebuilt, several, nothing}
use Rattle.recovery.proofs.Passed.{passed}
use Rattle.growth.specs.Read.{read_refusal, offset_of, at_or, locate}
use Rattle.growth.specs.Drive.{drive_refusal, drive}
use Rattle.growth.proofs.Allowed.{read_allowed}
use Rattle.growth.proofs.DriveLaws.{drive_claims}
use Rattle.growth.proofs.ReadLaws.{read_cells}
use Rattle.growth.proofs.WholeParts.{whole_parts}
use Rattle.numbering.specs.Values.{offset, count, lost}

-- a count is what a word of the header holds
count_small : (h : JournalHeader) → count_of h < 2 ^ 28
unfolding count_of
count_small h = rest_lt h.count

-- what a drive newly accepted is within the count that it leaves
module _ (z : Shape) (area journal space : List ℕ) (limit : ℕ) where
  abbrev number : ℕ
  number = drive_refusal z (length area) journal (length space)

  abbrev left : List ℕ
  left = (drive z area journal space limit).journal

  refused_none : (x : ℕ) → number ≡ suc x → carried (drive z area journal space limit).answer ≡ 0
  unfolding drive
  refused_none x e = rw e

  driven_some : number ≡ 0 → carried (drive z area journal space limit).answer < 2 ^ 28
  driven_some e =
      let claims = drive_claims z area journal space limit e in
      let same = claims.marks_added in
      let counted = (whole_parts z left claims.whole).counted in
      let small = count_small (header_of left) in omega arith

  pub accepted_small : carried (drive z area journal space limit).answer < 2 ^ 32
  accepted_small = go number refl
    where
      go : (x : ℕ) → number ≡ x → carried (drive z area journal space limit).answer < 2 ^ 32
      go zero e = let small = driven_some e in omega arith
      go (suc x) e = let none = refused_none x e in omega arith

-- an offset is within the area
module _ (z : Shape) (area journal : List ℕ) (g d : ℕ) where
  within : read_refusal z (length area) journal g d ≡ 0 → offset_of z journal g d < 2 ^ 32
  within e =
      let allowed = read_allowed z (length area) journal g d e in
      let inside = (read_cells z area journal g d e).inside in
      let long = allowed.area_long in
      let few = area_length_le z allowed.ok in omega arith

  at_small : (x : ℕ) → read_refusal z (length area) journal g d ≡ x → offset (at_or x (offset_of z journal g d)) < 2 ^ 32
  at_small zero e = within e
  at_small (suc x) e = omega arith

  pub offset_small : offset (locate z (length area) journal g d) < 2 ^ 32
  unfolding locate
  offset_small = at_small (read_refusal z (length area) journal g d) refl

-- what status tells is a count
pub told_small : (x : ℕ) (journal : List ℕ) → count (Status.state_or x journal) < 2 ^ 32
told_small zero journal = let small = count_small (header_of journal) in omega arith
told_small (suc x) journal = omega arith

pub status_small : (z : Shape) (journal : List ℕ) → count (Status.status z journal) < 2 ^ 32
unfolding Status.status
status_small z journal = told_small (Status.status_refusal z journal) journal

-- no more blocks are lost than the stripe has
lost_few : (losses : List ℕ) (n : ℕ) → lost_count losses n ≤ n * 1
unfolding lost_count
lost_few losses n = sum_le n 1 (λ p. indicator (is_lost losses p)) (λ p. indicator_le (is_lost losses p))

module _ (m : ℕ → ℕ) (n k b : ℕ) (losses stripe : List ℕ) where
  pub lost_small : (answer : RebuildAnswer) (out : List ℕ) → Rebuilds m n k b losses stripe answer out → lost answer < 2 ^ 32
  lost_small answer out (refused some) = omega arith
  lost_small answer out (rebuilt pass dataset left one encodes) =
      let few = lost_few losses n in let blocks = (passed n k b losses stripe pass).blocks in omega arith
  lost_small answer out (several pass two) = omega arith
  lost_small answer out (nothing pass none) = omega arith
