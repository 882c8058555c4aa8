-- Release's refusals in three parts: the lengths, the stripe, and what is left to do for it. Assumes nothing.
use mathlib.Core.Path.{◌≡◌, refl, sym, ap, ◌∙◌}
use mathlib.Core.List.{◌++◌}
use Prim.Native.Nat.{ℕ}
use borrow.Author.Tests.{eq-eqb}
use Rattle.base.specs.Refusals.{first, or_else}
use Rattle.base.proofs.Refusals.{or_else_pass, first_then, in_parts}
use Rattle.layout.specs.declared.Shape.{Shape}
use Rattle.layout.specs.Ranges.{shape_refusal}
use Rattle.layout.specs.Transfers.{sender}
use Rattle.journal.specs.declared.headers.JournalHeader.{JournalHeader}
use Rattle.journal.specs.States.{ended_refusal}
use Rattle.growth.specs.Release.{release_refusal, unfinished}
use Rattle.growth.specs.Shared.{store_refusals, kept_refusals}
use Rattle.lent.specs.Checks.{store_refusal, sender_refusal, stripe_refusal}
use Rattle.release.specs.Own.{own_refusal}

-- over area and journal
pub release_parts : (z : Shape) (area_bytes journalWords : ℕ) (h : JournalHeader) (word w : ℕ)
    → or_else (store_refusal z area_bytes journalWords) (or_else (stripe_refusal z h word (sender z w) w) (first (unfinished z word)))
    ≡ release_refusal z area_bytes journalWords h word w
unfolding release_refusal store_refusal stripe_refusal ended_refusal
release_parts z area_bytes journalWords h word w =
    rw (eq-eqb (sender z w) (sender z w) refl)
    (ap (or_else (store_refusal z area_bytes journalWords))
    (first_then (kept_refusals z h word w) (unfinished z word) (tt, (tt, (tt, (tt, tt)))))
    ∙ in_parts (shape_refusal z) (store_refusals z area_bytes journalWords) (kept_refusals z h word w ++ unfinished z word) (tt, (tt, tt)))

-- at the node, past the tests of the length and of the stripe, which answered the layout y
pub passes : {y z : Shape} (ownBytes : ℕ) (h : JournalHeader) (word node w : ℕ) → y ≡ z → 0 ≡ sender_refusal z ownBytes
    → 0 ≡ stripe_refusal y h word node w → own_refusal z ownBytes h word node w ≡ first (unfinished z word)
unfolding own_refusal
passes {y} {z} ownBytes h word node w layout told tested =
    let same : stripe_refusal z h word node w ≡ 0 = rw (← layout) (sym tested) in
    or_else_pass _ _ (sym told) ∙ or_else_pass _ _ same
