-- FORMAT §18. What the theorem of histories asks for, and that it asks for no more: any genuine call, any list of them, any order, any
-- spaces. Assumes nothing.
use Rattle.std.specs.Prelude.{◌≡◌, List, [], ◌∷◌, ◌++◌, ◌⊎◌, ℕ, length}
use Rattle.layout.specs.declared.Shape.{Shape}
use Rattle.protocol.specs.Transfers.{Among, Transfer}
use Rattle.protocol.specs.Histories.{after_all}
use Rattle.growth.specs.Send.{message_length}
use Rattle.growth.specs.Deliver.{receipt_length}
use Rattle.history.specs.Contents.{Trace, Contents, wrote_message, wrote_receipt}
use Rattle.history.specs.Steps.{compute, send, deliver, receipt, release, close}
use Rattle.history.specs.Calls.{Call, step, drive, WasSent, store}
use Rattle.history.specs.Completions.{Order, Completes, Spaces}

-- the link may hand any copy of what was written to deliver and to receipt, at any node, with any shape and space; any other call may be
-- made at any time
pub record AnyCall (c : Contents) : Type 0 where
  pub delivers : (y : Shape) (node : ℕ) (bytes space : List ℕ)
      → Among (wrote_message bytes) c.trace ⊎ Among (wrote_receipt bytes) c.trace
      → WasSent c (step (deliver y node bytes space))
  pub receipts : (y : Shape) (node : ℕ) (bytes : List ℕ) → Among (wrote_message bytes) c.trace ⊎ Among (wrote_receipt bytes) c.trace
      → WasSent c (step (receipt y node bytes))
  pub computes : (y : Shape) (w : ℕ) → WasSent c (step (compute y w))
  pub sends : (y : Shape) (w e : ℕ) (space : List ℕ) → WasSent c (step (send y w e space))
  pub releases : (y : Shape) (w : ℕ) → WasSent c (step (release y w))
  pub closes : (y : Shape) → WasSent c (step (close y))
  pub drives : (y : Shape) (space : List ℕ) (limit : ℕ) → WasSent c (drive y space limit)

-- from what a growth has begun with: no call at all is a history, and a history and one genuine call more is one
pub record AnyHistory (begun : Contents) (IsHistory : List Call → Type 0) : Type 0 where
  pub none : IsHistory []
  pub one_more : (history : List Call) → IsHistory history → (k : Call) → WasSent (after_all (store begun) begun history) k
      → IsHistory (history ++ (k ∷ []))

abbrev pub order : List ℕ → List Transfer → List ℕ → Order
order computing transferring releasing = record { computing = computing; transferring = transferring; releasing = releasing }

-- what was done so far leaves the order open: two neighbours of any of the three lists may change places
pub record AnyOrder (z : Shape) (t : Trace) : Type 0 where
  pub computing : (first rest : List ℕ) (x y : ℕ) (is : List Transfer) (rs : List ℕ)
      → Completes z t (order (first ++ (x ∷ y ∷ rest)) is rs) → Completes z t (order (first ++ (y ∷ x ∷ rest)) is rs)
  pub transferring : (cs : List ℕ) (first rest : List Transfer) (x y : Transfer) (rs : List ℕ)
      → Completes z t (order cs (first ++ (x ∷ y ∷ rest)) rs) → Completes z t (order cs (first ++ (y ∷ x ∷ rest)) rs)
  pub releasing : (cs : List ℕ) (is : List Transfer) (first rest : List ℕ) (x y : ℕ)
      → Completes z t (order cs is (first ++ (x ∷ y ∷ rest))) → Completes z t (order cs is (first ++ (y ∷ x ∷ rest)))

-- whatever the spaces hold
abbrev pub AnySpaces : Shape → Type 0
AnySpaces z = (for_message for_receipt : (w e : ℕ) → List ℕ) → ((w e : ℕ) → length (for_message w e) ≡ message_length z)
    → ((w e : ℕ) → length (for_receipt w e) ≡ receipt_length)
    → (spaces : Spaces z) × (spaces.for_message ≡ for_message) × (spaces.for_receipt ≡ for_receipt)
