-- Compute, send, release and close with the growth's own shape and exact lengths do what the growth without bytes does. Assumes nothing.
use mathlib.Core.Path.{◌≡◌, refl, sym, ◌∙◌}
use mathlib.Core.Bool.{true, false}
use mathlib.Core.List.{List}
use Prim.Native.Nat.{ℕ, ◌<◌}
use lib.Dec.{ltb}
use borrow.Author.Tests.{not-false}
use lib.ListN.{length}
use Rattle.base.proofs.Tests.{and_right, every_at}
use Rattle.answer.specs.Answers.{done}
use Rattle.answer.proofs.Answers.{answered_done}
use Rattle.layout.specs.declared.Shape.{Shape}
use Rattle.layout.specs.Ranges.{InRanges}
use Rattle.layout.specs.Counts.{kept, transfers}
use Rattle.wire.specs.Words.{bit}
use Rattle.wire.specs.Headers.{message}
use Rattle.records.specs.Records.{is_receipted, is_computed, is_released, computed_in, released_in}
use Rattle.journal.specs.Journal.{header_of, record_at}
use Rattle.protocol.specs.Parts.{Growth}
use Rattle.protocol.specs.Steps as P
use Rattle.protocol.proofs.Answered.{when_done_law}
use Rattle.growth.specs.Compute as Compute
use Rattle.growth.specs.Send as Send
use Rattle.growth.specs.Release as Release
use Rattle.growth.specs.Close as Close
use Rattle.growth.proofs.OpenJournals.{OpenJournal}
use Rattle.growth.proofs.Allowed.{compute_allowed, send_allowed, release_allowed, close_allowed}
use Rattle.growth.proofs.CallJournals.{computed_step, released_step}
use Rattle.growth.proofs.BlockLaws.{length_payload}
use Rattle.growth.proofs.CloseCells.{length_cleared}
use Rattle.growth.proofs.LengthLaws.{length_computed, length_released}
use Rattle.history.specs.Contents.{Contents}
use Rattle.history.specs.Steps.{compute, send, release, close, step_answer, after_step}
use Rattle.history.proofs.Growths.{growth_of, view_of, Fit, MessageOf}
use Rattle.history.proofs.CellSteps.{compute_cells, payload_seen, release_cells, close_cells}
use Rattle.history.proofs.ClosedJournals.{closed_long, closed_whole, closed_number_is}
use Rattle.history.proofs.SeenMarks.{computed_seen, released_seen, closed_seen_law}
use Rattle.history.proofs.DoneOnce.{computed_once, released_once, closed_once}
use Rattle.history.proofs.FitSeen.{number_few}
use Rattle.history.proofs.WireSeen.{says_message}
use Rattle.history.proofs.StepsTold.{compute_told, send_told, release_told, close_told}
use Rattle.history.proofs.StepLeaves.{compute_again, release_again, compute_done, send_done, release_done, close_done_law}
use Rattle.history.proofs.Lists.{among_more}
use Rattle.history.proofs.Following.{unmarked_not_already, Leads, Followed, followed}
use Rattle.history.proofs.Traces.{messages_of}

module _ (z : Shape) (ok : InRanges z) (start : List ℕ) (number : ℕ) (c : Contents) (f : Fit z number c) where
  abbrev G : Growth
  G = growth_of z start

  -- ---- compute

  compute_leads : (w : ℕ) → step_answer c (compute z w) ≡ done
      → Leads z start number (after_step c (compute z w)) (P.when_done G (view_of z start c) (P.compute w))
  unfolding step_answer Compute.compute P.when_done is_computed
  compute_leads w h =
      let word = (record_at c.journal w).progress in
      let (n, m) =
      answered_done (Compute.compute_refusal z (length c.area) (length c.journal) (header_of c.journal) word w)
      (computed_in word) h in
      let a = compute_allowed z (length c.area) (length c.journal) (header_of c.journal) word w n in
      let o : OpenJournal z c.journal = record { long = f.journal_long; whole = f.whole; opened = a.opened } in
      let j = computed_step z ok c.journal w o a.stripe in
      rw (compute_done z c w h) (
        rw (compute_cells z ok c.area w f.area_long a.stripe, computed_seen z ok c.journal o w a.stripe),
        record {
          area_long = length_computed z c.area w ∙ f.area_long;
          journal_long = j.opens.long;
          whole = j.opens.whole;
          number_is = j.number ∙ f.number_is;
          marked = computed_once z ok c.journal o c.trace f.marked w a.stripe m;
          messages = f.messages;
          receipts = f.receipts;
        },
      )

  pub compute_follows : (w : ℕ) → Followed z start number c (compute z w) (P.compute w)
  unfolding P.when_already
  compute_follows w = followed z start number c f (compute z w) (P.compute w) (compute_told z ok start number c f w)
      (λ h. rw (compute_again z c w h) (refl, f)) (compute_leads w)

  -- ---- send

  send_leads : (w e : ℕ) (space : List ℕ) → step_answer c (send z w e space) ≡ done
      → Leads z start number (after_step c (send z w e space)) (P.when_done G (view_of z start c) (P.send w e))
  unfolding step_answer Send.send P.when_done
  send_leads w e space h =
      let word = (record_at c.journal w).progress in
      let body = Send.payload z c.area w e in
      let (n, m) =
      answered_done (Send.send_refusal z (length c.area) (length c.journal) (length space) (header_of c.journal) word w e) false h in
      let a = send_allowed z (length c.area) (length c.journal) (length space) (header_of c.journal) word w e n in
      let written : MessageOf z number (message z w e number body) = record {
        stripe = w;
        transfer = e;
        payload = body;
        stripe_lt = a.stripe;
        transfer_lt = a.transfer;
        payload_long = length_payload z c.area w e;
        is = refl;
      } in
      let says = says_message z ok number (number_few z number c f) (message z w e number body) written in
      rw (send_done z c w e space h, f.number_is) (
        rw (says.transfer, says.carries, payload_seen z ok c.area w e a.stripe a.transfer),
        record {
          area_long = f.area_long;
          journal_long = f.journal_long;
          whole = f.whole;
          number_is = f.number_is;
          marked =
              λ v l. record {
                computed = (f.marked v l).computed;
                receipted = (f.marked v l).receipted;
                released =
                    (f.marked v l).released;
              };
          messages = among_more (MessageOf z number) (message z w e number body) (messages_of c.trace) written f.messages;
          receipts = f.receipts;
        },
      )

  pub send_follows : (w e : ℕ) (space : List ℕ) → length space ≡ Send.message_length z
      → Followed z start number c (send z w e space) (P.send w e)
  unfolding step_answer Send.send
  send_follows w e space l =
      let word = (record_at c.journal w).progress in
      let n = Send.send_refusal z (length c.area) (length c.journal) (length space) (header_of c.journal) word w e in
      followed z start number c f (send z w e space) (P.send w e) (send_told z ok start number c f w e space l)
      (λ h. absurd (unmarked_not_already n h)) (send_leads w e space)

  -- ---- release

  release_leads : (w : ℕ) → step_answer c (release z w) ≡ done
      → Leads z start number (after_step c (release z w)) (P.when_done G (view_of z start c) (P.release w))
  unfolding step_answer Release.release P.when_done is_released is_receipted
  release_leads w h =
      let word = (record_at c.journal w).progress in
      let (n, m) =
      answered_done (Release.release_refusal z (length c.area) (length c.journal) (header_of c.journal) word w)
      (released_in word) h in
      let a = release_allowed z (length c.area) (length c.journal) (header_of c.journal) word w n in
      let o : OpenJournal z c.journal = record { long = f.journal_long; whole = f.whole; opened = a.opened } in
      let all = every_at (transfers z) (bit word) a.receipted in
      let j = released_step z ok c.journal w o a.stripe all in
      rw (release_done z c w h) (
        rw (release_cells z ok c.area w f.area_long a.stripe, released_seen z ok c.journal o w a.stripe all),
        record {
          area_long = length_released z c.area w ∙ f.area_long;
          journal_long = j.opens.long;
          whole = j.opens.whole;
          number_is = j.number ∙ f.number_is;
          marked = released_once z ok c.journal o c.trace f.marked w a.stripe all m;
          messages = f.messages;
          receipts = f.receipts;
        },
      )

  pub release_follows : (w : ℕ) → Followed z start number c (release z w) (P.release w)
  unfolding P.when_already
  release_follows w = followed z start number c f (release z w) (P.release w) (release_told z ok start number c f w)
      (λ h. rw (release_again z c w h) (refl, f)) (release_leads w)

  -- ---- close

  -- close is done only if every stripe is released
  all_released : step_answer c (close z) ≡ done → (w : ℕ) → w < kept z → is_released (record_at c.journal w) ≡ true
  all_released h w l =
      let free = (when_done_law G (view_of z start c) P.close (sym (close_told z ok start number c f) ∙ h)).free in
      and_right (ltb w (kept z)) _ (every_at (kept z) (view_of z start c).journal.released (not-false _ free.1.0) w l)

  close_leads : step_answer c (close z) ≡ done → Leads z start number (after_step c (close z)) (P.when_done G (view_of z start c) P.close)
  unfolding step_answer Close.close P.when_done
  close_leads h =
      let (n, m) = answered_done (Close.close_refusal z (length c.area) c.journal) false h in
      let a = close_allowed z (length c.area) c.journal n in
      let o : OpenJournal z c.journal = record { long = f.journal_long; whole = f.whole; opened = a.opened } in
      let all = all_released h in
      rw (close_done_law z c h) (
        rw (close_cells z ok c.area f.area_long, closed_seen_law z ok c.journal o),
        record {
          area_long = length_cleared z c.area ∙ f.area_long;
          journal_long = closed_long z ok c.journal o;
          whole = closed_whole z ok c.journal o all;
          number_is = closed_number_is z ok c.journal o ∙ f.number_is;
          marked = closed_once z ok c.journal o c.trace f.marked;
          messages = f.messages;
          receipts = f.receipts;
        },
      )

  pub close_follows : Followed z start number c (close z) P.close
  unfolding step_answer Close.close
  close_follows = followed z start number c f (close z) P.close (close_told z ok start number c f)
      (λ h. absurd (unmarked_not_already (Close.close_refusal z (length c.area) c.journal) h)) close_leads
