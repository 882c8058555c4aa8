-- `flips::recount` is safe and ends: each word has at most 32 set bits. Assumes nothing.
use Prim.Native.Nat.{◌*◌, ◌≤◌}
use Rattle.flips.proofs.recount.Given as goal

abbrev pub invariant-loop-w : goal.invariant-loop-w
invariant-loop-w l = l.marks ≤ l.w * 32
