-- What encode, begin, the steps of a growth, close, drive and read answer is listed: the number of a refusal is 1 or more, since nothing
-- refuses at 0, and 13 or less, since each number in the call's list is. Assumes nothing.
use mathlib.Core.Path.{◌≡◌, refl}
use mathlib.Core.Bool.{Bool, true, false}
use mathlib.Core.List.{List}
use Prim.Native.Nat.{ℕ, zero, suc, ◌≤◌}
use native.Mathlib.Omega.{arith}
use lib.ListN.{length}
use Rattle.base.specs.Tests.{if}
use Rattle.base.specs.Refusals.{Refusal, first, or_else}
use Rattle.answer.specs.Answers.{Answer, already, done, spent, finished, refused_or, answer_for}
use Rattle.layout.specs.declared.Shape.{Shape}
use Rattle.layout.specs.Ranges.{shape_refusal}
use Rattle.wire.specs.Words.{bit}
use Rattle.wire.specs.Headers.{header_at, stripe_of, transfer_of}
use Rattle.journal.specs.States.{ended_refusal}
use Rattle.journal.specs.Journal.{header_of, record_at}
use Rattle.growth.specs.Encode.{encode_refusals, encode_refusal, encode}
use Rattle.growth.specs.Begin.{begin_refusals, begin_refusal, begin}
use Rattle.growth.specs.Compute.{compute_refusals, compute_refusal, compute}
use Rattle.growth.specs.Send.{send_refusals, send_refusal, send}
use Rattle.growth.specs.Deliver.{deliver_refusals, deliver_refusal, deliver}
use Rattle.growth.specs.Receipt.{receipt_refusals, receipt_refusal, receipt}
use Rattle.growth.specs.Release.{release_refusals, release_refusal, release}
use Rattle.growth.specs.Close.{close_refusals, close_refusal, close}
use Rattle.growth.specs.Read.{read_refusals, read_refusal, offset_of, at_or, locate}
use Rattle.growth.specs.Drive.{drive_refusals, drive_refusal, lent_store, driven_store, drive}
use Rattle.numbering.specs.Claims.{ListedAnswer, ListedPlace}
use Rattle.numbering.proofs.Listed.{is_low, number_low}

-- ---- an answer after refusals of 13 or less

-- a number of 13 or less refuses, or the answer behind it is listed
refused_listed : (x : ℕ) (a : Answer) → x ≤ 13 → ListedAnswer a → ListedAnswer (refused_or x a)
refused_listed zero a low listed = listed
refused_listed (suc x) a low listed = (omega arith, low)

at_listed : (x offset : ℕ) → x ≤ 13 → ListedPlace (at_or x offset)
at_listed zero offset low = tt
at_listed (suc x) offset low = (omega arith, low)

-- the shape's refusals, the call's own, and then: already or done by the call's own mark; what a drive that stopped, or did not, accepted
module _ (z : Shape) (rs : List Refusal) (low : is_low rs ≡ true) where
  step_listed : (marked : Bool) → ListedAnswer (answer_for (or_else (shape_refusal z) (first rs)) marked)
  step_listed true = refused_listed _ already (number_low z rs low) tt
  step_listed false = refused_listed _ done (number_low z rs low) tt

  drive_listed : (stopped : Bool) (accepted : ℕ)
      → ListedAnswer (refused_or (or_else (shape_refusal z) (first rs)) (if stopped (spent accepted) (finished accepted)))
  drive_listed true accepted = refused_listed _ (spent accepted) (number_low z rs low) tt
  drive_listed false accepted = refused_listed _ (finished accepted) (number_low z rs low) tt

-- ---- the calls; in compute and release the own mark is bit 26 and bit 27 of kind 11

pub encodes : (z : Shape) (area : List ℕ) → ListedAnswer (encode z area).answer
unfolding encode encode_refusal
encodes z area = step_listed z (encode_refusals z (length area)) refl false

pub begins : (z : Shape) (area journal : List ℕ) (growth : ℕ) → ListedAnswer (begin z area journal growth).answer
unfolding begin begin_refusal
begins z area journal growth = step_listed z (begin_refusals z area (length journal) growth) refl false

pub computes : (z : Shape) (area journal : List ℕ) (w : ℕ) → ListedAnswer (compute z area journal w).answer
unfolding compute compute_refusal ended_refusal
computes z area journal w =
    let word = (record_at journal w).progress in
    step_listed z (compute_refusals z (length area) (length journal) (header_of journal) word w) refl (bit word 26)

pub sends : (z : Shape) (area journal : List ℕ) (w e : ℕ) (space : List ℕ) → ListedAnswer (send z area journal w e space).answer
unfolding send send_refusal ended_refusal
sends z area journal w e space =
    let word = (record_at journal w).progress in
    step_listed z (send_refusals z (length area) (length journal) (length space) (header_of journal) word w e) refl false

pub delivers : (z : Shape) (area journal : List ℕ) (node : ℕ) (message space : List ℕ)
    → ListedAnswer (deliver z area journal node message space).answer
unfolding deliver deliver_refusal ended_refusal
delivers z area journal node message space =
    let m = header_at message 0 in
    let word = (record_at journal (stripe_of m)).accepted in
    let rs = deliver_refusals z (length area) (length journal) (length message) (length space) (header_of journal) word node m in
    step_listed z rs refl (bit word (transfer_of m))

pub receipts : (z : Shape) (journal : List ℕ) (node : ℕ) (bytes : List ℕ) → ListedAnswer (receipt z journal node bytes).answer
unfolding receipt receipt_refusal ended_refusal
receipts z journal node bytes =
    let m = header_at bytes 0 in
    let word = (record_at journal (stripe_of m)).progress in
    step_listed z (receipt_refusals z (length journal) (length bytes) (header_of journal) word node m) refl (bit word (transfer_of m))

pub releases : (z : Shape) (area journal : List ℕ) (w : ℕ) → ListedAnswer (release z area journal w).answer
unfolding release release_refusal ended_refusal
releases z area journal w =
    let word = (record_at journal w).progress in
    step_listed z (release_refusals z (length area) (length journal) (header_of journal) word w) refl (bit word 27)

pub closes : (z : Shape) (area journal : List ℕ) → ListedAnswer (close z area journal).answer
unfolding close close_refusal ended_refusal
closes z area journal = step_listed z (close_refusals z (length area) journal) refl false

pub drives : (z : Shape) (area journal space : List ℕ) (limit : ℕ) → ListedAnswer (drive z area journal space limit).answer
unfolding drive drive_refusal ended_refusal
drives z area journal space limit =
    let r = driven_store z limit (lent_store z area journal space) in
    drive_listed z (drive_refusals z (length area) journal (length space)) refl r.stopped r.accepted

pub reads : (z : Shape) (area_bytes : ℕ) (journal : List ℕ) (g d : ℕ) → ListedPlace (locate z area_bytes journal g d)
unfolding locate read_refusal
reads z area_bytes journal g d = at_listed _ (offset_of z journal g d) (number_low z (read_refusals z area_bytes journal g d) refl)
