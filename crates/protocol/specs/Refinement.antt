-- What makes a machine of bytes one of the growth: laws of its calls, one by one. Assumes nothing.
use Rattle.std.specs.Prelude.{◌≡◌, true}
use Rattle.answer.specs.Answers.{is_done}
use Rattle.protocol.specs.Parts.{Growth}
use Rattle.protocol.specs.World.{World, begun_world}
use Rattle.protocol.specs.Calls as Calls
use Rattle.protocol.specs.Histories.{Machine}
use Rattle.protocol.specs.Invariant.{Invariant}

-- how the machine is seen: which contents are in order, what the growth without bytes sees of them, what a call means there; and the
-- machine's call for one of the growth's own. Of a machine of bytes the cells are to be seen in its area and the marks in its journal;
-- nothing but the trace is kept beside them
pub record View (G : Growth) (M : Machine) : Type 1 where
  pub Fit : M.Contents → Type 0
  pub view : M.Contents → World G
  pub meaning : M.Contents → M.Call → Calls.Call G.Block
  pub make : Calls.Call G.Block → M.Call

module _ (G : Growth) (M : Machine) (A : View G M) where
  open A use {Fit, view, meaning, make}

  -- one call of the machine is what it means
  pub record Follows (c : M.Contents) (k : M.Call) : Type 0 where
    pub fit : Fit (M.after c k)
    pub view_after : view (M.after c k) ≡ Calls.after_call G (view c) (meaning c k)
    pub answer_same : M.answer c k ≡ Calls.answer G (view c) (meaning c k)
    pub was_sent : Calls.WasSent G (view c) (meaning c k)
    -- what was done was a deliver, or a close, by its name
    pub deliver_same : is_done (M.answer c k) ≡ true → M.is_deliver k ≡ Calls.is_deliver (meaning c k)
    pub close_same : is_done (M.answer c k) ≡ true → M.is_close k ≡ Calls.is_close (meaning c k)

  -- the machine's call for x may be made, and means x
  pub record Makes (c : M.Contents) (x : Calls.Call G.Block) : Type 0 where
    pub was_sent : M.WasSent c (make x)
    pub means : meaning c (make x) ≡ x

  pub record Refines : Type 0 where
    pub begun_fit : Fit M.begun
    pub begun_view : view M.begun ≡ begun_world G
    pub follows : (c : M.Contents) (k : M.Call) → Fit c → Invariant G (view c) → M.WasSent c k → Follows c k
    pub makes : (c : M.Contents) (x : Calls.Call G.Block) → Fit c → Invariant G (view c) → Calls.is_own x ≡ true
        → Calls.WasSent G (view c) x → Makes c x
