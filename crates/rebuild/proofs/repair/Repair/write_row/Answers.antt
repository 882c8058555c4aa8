-- `rebuild::repair::Repair::write_row` meets its contract. Assumes nothing.
use Prim.Native.Nat.{◌+◌}
use native.Mathlib.Omega.{arith}
use Rattle.area.proofs.Slots.{room}
use Rattle.combine.proofs.OffsetLaws.{clear_consecutive}
use Rattle.rebuild.proofs.StoreLaws.{row_left, row_stored, inside_first}
use Rattle.rebuild.proofs.repair.Repair.write_row.Goals as goal

pub overflow_mul-self : goal.overflow_mul-self
overflow_mul-self c =
    let args = c.args in
    omega (
      arith,
      c.args.self.now.sizes,
      room (args.self.now.k + args.j) args.self.now.n args.self.now.b (omega (
        arith,
        c.args.self.now.sizes,
      )),
    )

pub write_row-requires : goal.write_row-requires
write_row-requires c =
    let args = c.args in
    let pre = c.requires in
    let multiplier = c.multiplier-m in
    record {
      inside = inside_first _ args.self.now.n _ _ _ c.args.self.now.consecutive (omega (arith, c.args.self.now.sizes)) (omega (
        arith,
        c.args.self.now.sizes,
      )) (omega (arith, c.args.self.now.sizes));
      b_in_bounds = omega (
        arith,
        c.args.self.now.sizes,
        room (args.self.now.k + args.j) args.self.now.n args.self.now.b (omega (
          arith,
          c.args.self.now.sizes,
        )),
      );
      clear = clear_consecutive _ args.self.now.n (args.self.now.k + args.j) _ _ c.args.self.now.consecutive (omega (
        arith,
        c.args.self.now.sizes,
      ));
      recognised = multiplier.ensures;
    }

pub returns-then-self-j-eq1 : goal.returns-then-self-j-eq1
returns-then-self-j-eq1 c =
    let pre = c.requires in
    let if1 = c.if-self-j-eq1 in
    let write-row = c.write_row in
    row_stored _ _ _ _ _ _ _ _ c.args.self.now.consecutive (omega (arith, c.args.self.now.sizes)) if1.true write-row.ensures

pub returns-else-self-j-eq1 : goal.returns-else-self-j-eq1
returns-else-self-j-eq1 c = row_left _ _ _ _ _ _ c.if-self-j-eq1.false
