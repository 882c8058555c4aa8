-- FORMAT §18; document 01, "Runs of calls": a drive counts as the steps it takes. The list of its steps, each with the bytes that it is
-- handed: drive's own fold (growth/specs/Drive), with the list kept beside the store. Assumes nothing.
use Rattle.std.specs.Prelude.{List, [], ◌∷◌, ◌++◌, ℕ}
use Rattle.layout.specs.declared.Shape.{Shape}
use Rattle.layout.specs.Counts.{kept, transfers}
use Rattle.layout.specs.Transfers.{sender, receiver}
use Rattle.protocol.specs.Drive.{Drivable, Progress, driven}
use Rattle.growth.specs.Send.{sent_in}
use Rattle.growth.specs.Drive as Drive
use Rattle.growth.specs.Drive.{Store, store_drive, lent_store}
use Rattle.history.specs.Contents.{Contents}
use Rattle.history.specs.Steps.{Step, compute, send, deliver, receipt, release}

-- what a drive has in hand, and the steps that it has taken, the first one first
pub record Driving : Type 0 where
  pub store : Store
  pub steps : List Step

-- one step more, and what it makes of the store
abbrev pub takes : Step → (Store → Store) → Driving → Driving
takes x next d = record { store = next d.store; steps = d.steps ++ (x ∷ []) }

abbrev pub compute_on : Shape → ℕ → Driving → Driving
compute_on z w d = takes (compute z w) (Drive.compute_on z w) d

abbrev pub send_on : Shape → ℕ → ℕ → Driving → Driving
send_on z w e d = takes (send z w e d.store.message) (Drive.send_on z w e) d

-- what was sent, at its receiver
abbrev pub deliver_on : Shape → ℕ → ℕ → Driving → Driving
deliver_on z w e d = takes (deliver z (receiver z w e) (sent_in d.store.message) d.store.receipt) (Drive.deliver_on z w e) d

-- its receipt, at its sender
abbrev pub receipt_on : Shape → ℕ → Driving → Driving
receipt_on z w d = takes (receipt z (sender z w) d.store.receipt) (Drive.receipt_on z w) d

abbrev pub release_on : Shape → ℕ → Driving → Driving
release_on z w d = takes (release z w) (Drive.release_on z w) d

abbrev pub steps_drive : Shape → Drivable
steps_drive z = record {
  Contents = Driving;
  is_accepted = λ d. (store_drive z).is_accepted d.store;
  is_receipted = λ d. (store_drive z).is_receipted d.store;
  compute_on = compute_on z;
  pass_on = λ w e d. receipt_on z w (deliver_on z w e (send_on z w e d));
  release_on = release_on z;
}

unfoldable pub driven_steps : Shape → Contents → (space : List ℕ) (limit : ℕ) → Progress Driving
driven_steps z c space limit =
    driven (steps_drive z) limit (kept z) (transfers z) (record { store = lent_store z c.area c.journal space; steps = [] })

-- the steps of a drive that nothing refuses
abbrev pub drive_steps : Shape → Contents → (space : List ℕ) (limit : ℕ) → List Step
drive_steps z c space limit = (driven_steps z c space limit).contents.steps
