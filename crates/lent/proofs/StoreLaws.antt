-- What a call may rely on where its shape and its lengths are right. Assumes nothing.
use mathlib.Core.Path.{◌≡◌}
use mathlib.Core.Bool.{true}
use Prim.Native.Nat.{ℕ, ◌*◌, ◌<◌}
use lib.Dec.{ltb}
use borrow.Author.Tests.{eq-eqb, ne_eqb, eqb-true, ltb-true, not-false}
use Rattle.base.specs.Refusals.{first}
use Rattle.base.proofs.Refusals.{first_zero, or_else_zero}
use Rattle.layout.specs.declared.Shape.{Shape}
use Rattle.layout.specs.Ranges.{InRanges, shape_refusal}
use Rattle.layout.specs.Counts.{kept, stripes}
use Rattle.layout.specs.Addresses.{area_length}
use Rattle.layout.specs.Transfers.{sender}
use Rattle.layout.proofs.RangeLaws.{in_ranges, accepted}
use Rattle.records.specs.Conditions.{progress_ok}
use Rattle.journal.specs.declared.headers.JournalHeader.{JournalHeader}
use Rattle.journal.specs.States.{ended_refusal}
use Rattle.journal.specs.Journal.{journal_length}
use Rattle.growth.specs.Shared.{store_refusals, kept_refusals}
use Rattle.lent.specs.Checks.{store_refusal, sender_refusals, sender_refusal, stripe_refusals, stripe_refusal}

pub record StoreLent (z : Shape) (area_bytes journalWords : ℕ) : Type 0 where
  pub ok : InRanges z
  pub area_long : area_bytes ≡ area_length z
  pub journal_long : journalWords ≡ journal_length z

pub store_lent : (z : Shape) (area_bytes journalWords : ℕ) → store_refusal z area_bytes journalWords ≡ 0
    → StoreLent z area_bytes journalWords
unfolding store_refusal
store_lent z area_bytes journalWords e =
    let (s, f) = or_else_zero (shape_refusal z) (first (store_refusals z area_bytes journalWords)) e in
    let p = first_zero (store_refusals z area_bytes journalWords) (tt, (tt, tt)) f in
    record { ok = in_ranges z s; area_long = eqb-true _ _ (not-false _ p.0); journal_long = eqb-true _ _ (not-false _ p.1.0) }

pub store_passes : (z : Shape) (area_bytes journalWords : ℕ) → InRanges z → area_bytes ≡ area_length z → journalWords ≡ journal_length z
    → store_refusal z area_bytes journalWords ≡ 0
unfolding store_refusal
store_passes z area_bytes journalWords ok a j = rw (accepted z ok, eq-eqb _ _ a, eq-eqb _ _ j)

-- ---- a sender with its own cells alone

pub record SenderLent (z : Shape) (ownBytes : ℕ) : Type 0 where
  pub ok : InRanges z
  pub own_long : ownBytes ≡ stripes z * z.b

pub sender_lent : (z : Shape) (ownBytes : ℕ) → sender_refusal z ownBytes ≡ 0 → SenderLent z ownBytes
unfolding sender_refusal
sender_lent z ownBytes e =
    let (s, f) = or_else_zero (shape_refusal z) (first (sender_refusals z ownBytes)) e in
    record { ok = in_ranges z s; own_long = eqb-true _ _ (not-false _ (first_zero (sender_refusals z ownBytes) (tt, tt) f).0) }

pub sender_passes : (z : Shape) (ownBytes : ℕ) → InRanges z → ownBytes ≡ stripes z * z.b → sender_refusal z ownBytes ≡ 0
unfolding sender_refusal
sender_passes z ownBytes ok e = rw (accepted z ok, eq-eqb _ _ e)

-- ---- a kept stripe and its word of kind 11

pub record StripeLent (z : Shape) (word node w : ℕ) : Type 0 where
  pub word_ok : progress_ok z word ≡ true
  pub stripe : w < kept z
  pub its_own : node ≡ sender z w

pub stripe_lent : (z : Shape) (h : JournalHeader) (word node w : ℕ) → stripe_refusal z h word node w ≡ 0 → StripeLent z word node w
unfolding stripe_refusal ended_refusal
stripe_lent z h word node w e =
    let p = first_zero (stripe_refusals z h word node w) (tt, (tt, (tt, (tt, (tt, tt))))) e in
    let inside : ltb w (kept z) ≡ true = not-false _ p.1.1.1.0 in
    let its_own : node ≡ sender z w = eqb-true _ _ (not-false _ p.1.1.1.1.0) in
    record { word_ok = not-false _ (rw inside at p).1.0; stripe = ltb-true _ _ inside; its_own = its_own }

-- 5 at another node, unless header, word, state or the range of w come first
pub another_sender : (z : Shape) (h : JournalHeader) (word node w : ℕ) → (node ≡ sender z w → ⊥) → first (kept_refusals z h word w) ≡ 0
    → stripe_refusal z h word node w ≡ 5
unfolding stripe_refusal ended_refusal
another_sender z h word node w d e =
    let p = first_zero (kept_refusals z h word w) (tt, (tt, (tt, (tt, tt)))) e in
    rw (p.0, p.1.0, p.1.1.0, p.1.1.1.0, ne_eqb node (sender z w) d)
