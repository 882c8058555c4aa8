-- Send over the whole area and journal is the sender's own; a node refuses stripes that are not its own, and reads its own word of the
-- record alone, and of the header the growth's number, the state and whether it passes its test. Assumes nothing.
use Rattle.std.specs.Prelude.{◌≡◌, true, List, ℕ, length}
use Rattle.base.specs.Refusals.{first}
use Rattle.answer.specs.Answers.{refused, is_refused}
use Rattle.layout.specs.declared.Shape.{Shape}
use Rattle.layout.specs.Addresses.{area_length}
use Rattle.layout.specs.Transfers.{sender}
use Rattle.records.specs.declared.StripeRecord.{StripeRecord}
use Rattle.journal.specs.declared.headers.JournalHeader.{JournalHeader}
use Rattle.journal.specs.Journal.{header_of, journal_length, record_at}
use Rattle.growth.specs.Send.{message_length, send}
use Rattle.lent.specs.Checks.{sender_refusal}
use Rattle.growth.specs.Shared.{kept_refusals}
use Rattle.lent.specs.SameGrowth.{SameGrowth}
use Rattle.parts.specs.Own.{part_of}
use Rattle.send.specs.Own.{send_at_node}

pub record NodeClaims (z : Shape) : Type 0 where
  -- for every w and e, in range or not
  pub handed_on : (area journal : List ℕ) (w e : ℕ) (space : List ℕ) → length area ≡ area_length z → length journal ≡ journal_length z
      → send_at_node z (part_of z (sender z w) area) (header_of journal) (record_at journal w) (sender z w) w e space
      ≡ send z area journal w e space
  -- a stripe of another sender is refused
  pub not_its_own_law : (own : List ℕ) (h : JournalHeader) (stripe : StripeRecord) (node w e : ℕ) (space : List ℕ) → (node ≡ sender z w → ⊥)
      → is_refused (send_at_node z own h stripe node w e space).answer ≡ true
  -- with 5, unless a length, the header, the word, the state or the range of w comes first
  pub refused_5 : (own : List ℕ) (h : JournalHeader) (stripe : StripeRecord) (node w e : ℕ) (space : List ℕ) → (node ≡ sender z w → ⊥)
      → sender_refusal z (length own) ≡ 0 → length space ≡ message_length z → first (kept_refusals z h stripe.progress w) ≡ 0
      → (send_at_node z own h stripe node w e space).answer ≡ refused 5
  -- it reads three things of the header: the growth's number, the state, and whether it passes its test
  pub own_header : (own : List ℕ) (h i : JournalHeader) (stripe : StripeRecord) (node w e : ℕ) (space : List ℕ) → SameGrowth z h i
      → send_at_node z own h stripe node w e space ≡ send_at_node z own i stripe node w e space
  -- whatever stands in the other word, kind 10
  pub own_word : (own : List ℕ) (h : JournalHeader) (word node w e : ℕ) (space : List ℕ) (x y : ℕ)
      → send_at_node z own h (record { accepted = x; progress = word }) node w e space
      ≡ send_at_node z own h (record { accepted = y; progress = word }) node w e space
