-- The refusals of compute, tested in two parts. Assumes nothing.
use mathlib.Core.Path.{◌≡◌, refl}
use Prim.Native.Nat.{ℕ}
use borrow.Author.Tests.{eq-eqb}
use Rattle.base.specs.Refusals.{or_else}
use Rattle.base.proofs.Refusals.{in_parts}
use Rattle.layout.specs.declared.Shape.{Shape}
use Rattle.layout.specs.Ranges.{shape_refusal}
use Rattle.layout.specs.Transfers.{sender}
use Rattle.journal.specs.declared.headers.JournalHeader.{JournalHeader}
use Rattle.growth.specs.Compute.{compute_refusal}
use Rattle.growth.specs.Shared.{store_refusals, kept_refusals}
use Rattle.lent.specs.Checks.{store_refusal, stripe_refusal}

pub compute_parts : (z : Shape) (area_bytes journalWords : ℕ) (h : JournalHeader) (word w : ℕ)
    → or_else (store_refusal z area_bytes journalWords) (stripe_refusal z h word (sender z w) w)
    ≡ compute_refusal z area_bytes journalWords h word w
unfolding compute_refusal store_refusal stripe_refusal
compute_parts z area_bytes journalWords h word w =
    rw (eq-eqb (sender z w) (sender z w) refl)
    (in_parts (shape_refusal z) (store_refusals z area_bytes journalWords) (kept_refusals z h word w) (tt, (tt, tt)))
