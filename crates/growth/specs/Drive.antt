-- FORMAT §14; document 01, "Calls": drive with limit b takes stripes by rising w, computes, sends, delivers and receipts each unreceipted
-- item by rising e, releases. It is a fold of those calls and writes nothing itself; the rule by which it goes on, stops and counts is
-- `driven` in protocol/specs/Drive. Assumes nothing.
use Rattle.std.specs.Prelude.{List, ◌∷◌, ◌++◌, ℕ, ◌+◌, length, take, drop}
use Rattle.base.specs.Refusals.{Refusal, first, or_else}
use Rattle.answer.specs.Answers.{Answer, refused_or, unless_refused}
use Rattle.layout.specs.declared.Shape.{Shape}
use Rattle.layout.specs.Ranges.{shape_refusal}
use Rattle.layout.specs.Counts.{kept, transfers}
use Rattle.layout.specs.Transfers.{sender, receiver}
use Rattle.records.specs.Records.{is_accepted, is_receipted}
use Rattle.journal.specs.Journal.{record_at}
use Rattle.protocol.specs.Drive.{Drivable, Progress, driven, drive_answer}
use Rattle.growth.specs.Shared.{wrong_length, store_refusals, whole_refusals}
use Rattle.growth.specs.Compute.{compute}
use Rattle.growth.specs.Send.{message_length, send, sent_in}
use Rattle.growth.specs.Deliver.{receipt_length, deliver}
use Rattle.growth.specs.Receipt.{receipt}
use Rattle.growth.specs.Release.{release}

-- ---- the refusals: 4 the whole book, 13

abbrev pub drive_refusals : Shape → ℕ → List ℕ → ℕ → List Refusal
drive_refusals z area_bytes journal spaceBytes =
    store_refusals z area_bytes (length journal)
    ++ (wrong_length spaceBytes (message_length z + receipt_length) ∷ whole_refusals z journal)

unfoldable pub drive_refusal : Shape → ℕ → List ℕ → ℕ → ℕ
drive_refusal z area_bytes journal spaceBytes = or_else (shape_refusal z) (first (drive_refusals z area_bytes journal spaceBytes))

-- ---- the steps

-- the buffers of a drive; the first 16 + B bytes of its space are for messages, the last 16 for receipts
pub record Store : Type 0 where
  pub area : List ℕ
  pub journal : List ℕ
  pub message : List ℕ
  pub receipt : List ℕ

unfoldable pub compute_on : Shape → ℕ → Store → Store
compute_on z w c =
    let o = compute z c.area c.journal w in
    record { area = o.area; journal = o.journal; message = c.message; receipt = c.receipt }

unfoldable pub send_on : Shape → ℕ → ℕ → Store → Store
send_on z w e c =
    let o = send z c.area c.journal w e c.message in
    record { area = c.area; journal = c.journal; message = o.space; receipt = c.receipt }

-- what was sent, at its receiver
unfoldable pub deliver_on : Shape → ℕ → ℕ → Store → Store
deliver_on z w e c =
    let o = deliver z c.area c.journal (receiver z w e) (sent_in c.message) c.receipt in
    record { area = o.area; journal = o.journal; message = c.message; receipt = o.receipt }

-- its receipt, at its sender
unfoldable pub receipt_on : Shape → ℕ → Store → Store
receipt_on z w c =
    let o = receipt z c.journal (sender z w) c.receipt in
    record { area = c.area; journal = o.journal; message = c.message; receipt = c.receipt }

unfoldable pub pass_on : Shape → ℕ → ℕ → Store → Store
pass_on z w e c = receipt_on z w (deliver_on z w e (send_on z w e c))

unfoldable pub release_on : Shape → ℕ → Store → Store
release_on z w c =
    let o = release z c.area c.journal w in
    record { area = o.area; journal = o.journal; message = c.message; receipt = c.receipt }

abbrev pub store_drive : Shape → Drivable
store_drive z = record {
  Contents = Store;
  is_accepted = λ c w e. is_accepted (record_at c.journal w) e;
  is_receipted = λ c w e. is_receipted (record_at c.journal w) e;
  compute_on = compute_on z;
  pass_on = pass_on z;
  release_on = release_on z;
}

-- ---- the call

abbrev pub lent_store : Shape → List ℕ → List ℕ → List ℕ → Store
lent_store z area journal space =
    record { area = area; journal = journal; message = take (message_length z) space; receipt = drop (message_length z) space }

unfoldable pub driven_store : Shape → ℕ → Store → Progress Store
driven_store z limit c = driven (store_drive z) limit (kept z) (transfers z) c

pub record DriveOutcome : Type 0 where
  pub answer : Answer
  pub area : List ℕ
  pub journal : List ℕ
  pub space : List ℕ

unfoldable pub drive : Shape → List ℕ → List ℕ → List ℕ → ℕ → DriveOutcome
drive z area journal space limit =
    let r = driven_store z limit (lent_store z area journal space) in
    let a = refused_or (drive_refusal z (length area) journal (length space)) (drive_answer r) in
    record {
      answer = a;
      area = unless_refused a r.contents.area area;
      journal = unless_refused a r.contents.journal journal;
      space = unless_refused a (r.contents.message ++ r.contents.receipt) space;
    }
