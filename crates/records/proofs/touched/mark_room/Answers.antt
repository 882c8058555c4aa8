-- `records::touched::mark_room` meets its contract. Assumes nothing.
use mathlib.Core.Path.{◌≡◌, ap, ◌∙◌}
use Prim.Native.Nat.{ℕ, ◌≤◌, ◌^◌}
use native.Mathlib.Omega.{arith}
use lib.Pow.{pow_mono}
use Rattle.layout.specs.Counts.{transfers}
use Rattle.layout.proofs.Bounds.{transfers_le}
use Rattle.records.proofs.touched.mark_room.Goals as goal

pub returns : goal.returns
returns c =
    let z = c.args.z in
    let m : 2 ^ transfers z.shape ≤ 2 ^ 18 = pow_mono (transfers_le _ z.in_ranges) in
    let e = c.power.ensures in
    let q : 2 ^ c.transfer_count.result ≡ 2 ^ transfers z.shape = ap (λ (x : ℕ). 2 ^ x) c.transfer_count.ensures.0 in
    (e.0 ∙ q, e.1, omega (arith, e.0, q, m))
