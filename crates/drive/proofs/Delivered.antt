-- What accept leaves, with the receipt written behind the message or not, is what deliver leaves in a drive's store. Assumes nothing.
use mathlib.Core.Path.{◌≡◌, refl, sym, ◌∙◌}
use mathlib.Core.Bool.{true, false}
use mathlib.Core.List.{List}
use Prim.Native.Nat.{ℕ, ◌+◌}
use native.Mathlib.Omega.{arith}
use lib.ListN.{length, take, drop, length-drop}
use Rattle.std.specs.Prelude.{Ok}
use Rattle.answer.specs.declared.Step.{Step}
use Rattle.answer.specs.declared.Step.TheVariants as It
use Rattle.answer.specs.Answers.{is_refused, unless_refused}
use Rattle.answer.specs.Cases.{of_step}
use Rattle.area.specs.Area.{put}
use Rattle.layout.specs.declared.Shape.{Shape}
use Rattle.layout.specs.Transfers.{receiver}
use Rattle.wire.specs.declared.Header.{Header}
use Rattle.wire.specs.Headers.{header_bytes, header_at, receipt_of}
use Rattle.wire.specs.Claims.{Words32}
use Rattle.wire.proofs.ByteLaws.{length_header, header_alone}
use Rattle.growth.specs.Shared.{Outcome}
use Rattle.growth.specs.Send.{message_length}
use Rattle.growth.specs.Deliver.{deliver}
use Rattle.growth.specs.Drive.{lent_store, deliver_on}
use Rattle.deliver.specs.Acceptance.{acceptance}
use Rattle.drive.proofs.Spaces.{back_written, back_leaves}

module _ (z : Shape) (area journal space : List ℕ) (long : length space ≡ 32 + z.b) (w e : ℕ) (o : Outcome) {node : ℕ}
    (at : node ≡ receiver z w e)
    (q : o ≡ acceptance z area journal node (take (message_length z) space) 16) where
  abbrev message : List ℕ
  message = take (message_length z) space

  abbrev receipt : List ℕ
  receipt = header_bytes (receipt_of (header_at message 0))

  room : length (drop (message_length z) space) ≡ 16
  room = simp (length-drop) (omega arith)

  accepts : o ≡ acceptance z area journal (receiver z w e) message (length (drop (message_length z) space))
  accepts = q ∙ rw (at, room)

  -- deliver leaves the same, and in the last 16 bytes the receipt if it is not refused
  delivered : deliver_on z w e (lent_store z area journal space)
      ≡ record {
        area = o.area;
        journal = o.journal;
        message = message;
        receipt =
            unless_refused o.answer receipt (drop (message_length z) space);
      }
  unfolding deliver_on deliver acceptance
  delivered = rw accepts

  pub refused_view : is_refused o.answer ≡ true
      → lent_store z o.area o.journal space ≡ deliver_on z w e (lent_store z area journal space)
  refused_view r = rw (delivered, r)

  -- the words that are read from the message, and the receipt made of them
  pub deliver_view : {m r : Header} {out : List ℕ} → is_refused o.answer ≡ false → m ≡ header_at message 0 → r ≡ receipt_of m
      → out ≡ put space (message_length z) (header_bytes r)
      → lent_store z o.area o.journal out ≡ deliver_on z w e (lent_store z area journal space)
  deliver_view {m} {r} unrefused words made writes =
      let fills : length space ≡ message_length z + length receipt = omega (arith, length_header (receipt_of (header_at message 0))) in
      rw (
        delivered,
        unrefused,
        writes,
        made,
        words,
        back_leaves (message_length z) space receipt fills,
        back_written (message_length z) space receipt fills,
      )

-- a call that was not refused
pub unrefused : (step : Step) → is_refused (of_step (Ok step)) ≡ false
unrefused It.Done = refl
unrefused It.Already = refl

-- the receipt's words are read back from its place
pub words_back : (z : Shape) (space : List ℕ) → length space ≡ 32 + z.b → {r : Header} {out : List ℕ} → Words32 r
    → out ≡ put space (message_length z) (header_bytes r) → r ≡ header_at (drop (message_length z) out) 0
words_back z space long {r} {out} fit writes =
    let fills : length space ≡ message_length z + length (header_bytes r) = omega (arith, length_header r) in
    rw (writes, back_written (message_length z) space (header_bytes r) fills) (sym (header_alone r fit))
