-- What is claimed of the numbers that the functions for C answer: a refusal is one of document 01's, so below 32, and no two answers of a
-- function have the same number. Proved as `numbering_holds` in proofs/NumberingHolds. Assumes nothing.
use Rattle.std.specs.Prelude.{◌≡◌, List, ℕ, ◌≤◌}
use Rattle.answer.specs.Answers.{Answer, refused, already, done, spent, finished}
use Rattle.answer.specs.Located.{Located}
use Rattle.answer.specs.Located as Locate
use Rattle.layout.specs.declared.Shape.{Shape}
use Rattle.journal.specs.Status as Status
use Rattle.journal.specs.StatusAnswer.{StatusAnswer}
use Rattle.journal.specs.StatusAnswer as Tell
use Rattle.recovery.specs.RebuildAnswer.{RebuildAnswer}
use Rattle.recovery.specs.RebuildAnswer as Rebuild
use Rattle.recovery.specs.Rebuild.{Rebuilds}
use Rattle.growth.specs.Encode.{encode}
use Rattle.growth.specs.Begin.{begin}
use Rattle.growth.specs.Compute.{compute}
use Rattle.growth.specs.Send.{send}
use Rattle.growth.specs.Deliver.{deliver}
use Rattle.growth.specs.Receipt.{receipt}
use Rattle.growth.specs.Release.{release}
use Rattle.growth.specs.Close.{close}
use Rattle.growth.specs.Read.{locate}
use Rattle.growth.specs.Drive.{drive}
use Rattle.numbering.specs.Numbering.{coded_answer, coded_place, coded_status, coded_rebuild}

-- document 01's refusals are 1 to 13
abbrev pub Listed : ℕ → Type 0
Listed x = (1 ≤ x) × (x ≤ 13)

-- an answer's refusal is listed; status's state is open, 1, or closed, 2
abbrev pub ListedAnswer : Answer → Type 0
ListedAnswer (refused x) = Listed x
ListedAnswer already = Unit {0}
ListedAnswer done = Unit {0}
ListedAnswer (spent x) = Unit {0}
ListedAnswer (finished x) = Unit {0}

abbrev pub ListedPlace : Located → Type 0
ListedPlace (Locate.At offset) = Unit {0}
ListedPlace (Locate.Refused x) = Listed x

abbrev pub ListedStatus : StatusAnswer → Type 0
ListedStatus (Tell.State state count) = (1 ≤ state) × (state ≤ 2)
ListedStatus (Tell.Refused x) = Listed x

abbrev pub ListedRebuild : RebuildAnswer → Type 0
ListedRebuild (Rebuild.Rebuilt lost) = Unit {0}
ListedRebuild (Rebuild.Refused x) = Listed x

pub record NumberingClaims : Type 0 where
  -- what each call answers, with any arguments, is listed
  pub encodes : (z : Shape) (area : List ℕ) → ListedAnswer (encode z area).answer
  pub begins : (z : Shape) (area journal : List ℕ) (growth : ℕ) → ListedAnswer (begin z area journal growth).answer
  pub computes : (z : Shape) (area journal : List ℕ) (w : ℕ) → ListedAnswer (compute z area journal w).answer
  pub sends : (z : Shape) (area journal : List ℕ) (w e : ℕ) (space : List ℕ) → ListedAnswer (send z area journal w e space).answer
  pub delivers : (z : Shape) (area journal : List ℕ) (node : ℕ) (message space : List ℕ)
      → ListedAnswer (deliver z area journal node message space).answer
  pub receipts : (z : Shape) (journal : List ℕ) (node : ℕ) (bytes : List ℕ) → ListedAnswer (receipt z journal node bytes).answer
  pub releases : (z : Shape) (area journal : List ℕ) (w : ℕ) → ListedAnswer (release z area journal w).answer
  pub closes : (z : Shape) (area journal : List ℕ) → ListedAnswer (close z area journal).answer
  pub drives : (z : Shape) (area journal space : List ℕ) (limit : ℕ) → ListedAnswer (drive z area journal space limit).answer
  pub reads : (z : Shape) (area_bytes : ℕ) (journal : List ℕ) (g d : ℕ) → ListedPlace (locate z area_bytes journal g d)
  pub tells : (z : Shape) (journal : List ℕ) → ListedStatus (Status.status z journal)
  pub rebuilds : (m : ℕ → ℕ) (n k b : ℕ) (losses stripe : List ℕ) (a : RebuildAnswer) (out : List ℕ)
      → Rebuilds m n k b losses stripe a out → ListedRebuild a
  -- no two listed answers have the same number
  pub answers_apart : (a c : Answer) → ListedAnswer a → ListedAnswer c → coded_answer a ≡ coded_answer c → a ≡ c
  pub places_apart : (a c : Located) → ListedPlace a → ListedPlace c → coded_place a ≡ coded_place c → a ≡ c
  pub statuses_apart : (a c : StatusAnswer) → ListedStatus a → ListedStatus c → coded_status a ≡ coded_status c → a ≡ c
  pub rebuilds_apart : (a c : RebuildAnswer) → ListedRebuild a → ListedRebuild c → coded_rebuild a ≡ coded_rebuild c → a ≡ c
