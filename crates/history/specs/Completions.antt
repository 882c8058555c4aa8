-- FORMAT §18; document 01, "Runs of calls", not stranded: compute each uncomputed stripe; then send each unreceipted item, deliver that
-- message at its receiver and hand the receipt to its sender, once each, the items in any order, interleaved or not; then release each
-- unreleased stripe. Assumes nothing.
use Rattle.std.specs.Prelude.{◌≡◌, ◌&&◌, List, [], ◌∷◌, ◌++◌, map, ℕ, zero, suc, eqb, ltb, length}
use Rattle.base.specs.Tests.{if}
use Rattle.layout.specs.declared.Shape.{Shape}
use Rattle.layout.specs.Counts.{kept, transfers}
use Rattle.layout.specs.Transfers.{sender, receiver}
use Rattle.wire.specs.Headers.{header_for, header_bytes, message}
use Rattle.protocol.specs.Transfers.{times, Transfer, occurrences}
use Rattle.growth.specs.Compute.{computed_area}
use Rattle.growth.specs.Send.{message_length, payload}
use Rattle.growth.specs.Deliver.{receipt_length}
use Rattle.history.specs.Contents.{Trace, computed_of, released_of, receipted_of}
use Rattle.history.specs.Steps.{Step, compute, send, deliver, receipt, release, close}
use Rattle.history.specs.Calls.{Call, step}

-- ---- the one message and the one receipt of a transfer

-- from the area that begin accepted: what send writes once stripe w is computed
unfoldable pub message_for : Shape → List ℕ → ℕ → ℕ → ℕ → List ℕ
message_for z area number w e = message z w e number (payload z (computed_area z area w) w e)

unfoldable pub receipt_for : Shape → ℕ → ℕ → ℕ → List ℕ
receipt_for z number w e = header_bytes (header_for z 4 w e number)

-- ---- what is left to do

-- the order in which stripes are computed, transfers taken and stripes released
pub record Order : Type 0 where
  pub computing : List ℕ
  pub transferring : List Transfer
  pub releasing : List ℕ

module _ (z : Shape) where
  -- the list names, once each, the stripes that are not among those done, and nothing else
  unfoldable pub NamesOnce : (done : List ℕ) → List ℕ → Type 0
  NamesOnce done ws = (w : ℕ) → times w ws ≡ if (ltb w (kept z) && eqb (times w done) 0) 1 0

  -- the list names, three times each, the transfers that are not among those done, and nothing else
  unfoldable pub NamesThrice : (done : List Transfer) → List Transfer → Type 0
  NamesThrice done is = (w e : ℕ) → occurrences w e is ≡ if (ltb w (kept z) && (ltb e (transfers z) && eqb (occurrences w e done) 0)) 3 0

  -- by what was done so far
  pub record Completes (t : Trace) (o : Order) : Type 0 where
    pub uncomputed : NamesOnce (computed_of t) o.computing
    pub unreceipted : NamesThrice (receipted_of t) o.transferring
    pub unreleased : NamesOnce (released_of t) o.releasing

  -- message spaces of exact lengths, whatever they hold
  pub record Spaces : Type 0 where
    pub for_message : (w e : ℕ) → List ℕ
    pub for_receipt : (w e : ℕ) → List ℕ
    pub message_long : (w e : ℕ) → length (for_message w e) ≡ message_length z
    pub receipt_long : (w e : ℕ) → length (for_receipt w e) ≡ receipt_length

  -- ---- the calls, with the growth's own shape

  module _ (area : List ℕ) (number : ℕ) (spaces : Spaces) where
    -- a transfer that is named for the first time is sent, for the second time delivered at its receiver; for the third time its sender
    -- gets its receipt. The number says how often it is still named after this.
    unfoldable pub leg_of : ℕ → Transfer → Step
    leg_of zero i = receipt z (sender z i.stripe) (receipt_for z number i.stripe i.item)
    leg_of (suc zero) i =
        let w = i.stripe in let e = i.item in
        deliver z (receiver z w e) (message_for z area number w e) (spaces.for_receipt w e)
    leg_of (suc (suc k)) i = send z i.stripe i.item (spaces.for_message i.stripe i.item)

    unfoldable pub legs : List Transfer → List Step
    legs [] = []
    legs (i ∷ is) = leg_of (occurrences i.stripe i.item is) i ∷ legs is

    unfoldable pub completion : Order → List Call
    completion o = map step (map (λ w. compute z w) o.computing ++ (legs o.transferring ++ map (λ w. release z w) o.releasing))

  abbrev pub closing : List Call
  closing = step (close z) ∷ []
