-- `rebuild::repair::Repair::write_column` meets its contract. Assumes nothing.
use native.Mathlib.Omega.{arith}
use Rattle.area.proofs.Slots.{room}
use Rattle.rebuild.proofs.StoreLaws.{column_left, column_stored, inside_first}
use Rattle.rebuild.proofs.repair.Repair.write_column.Goals as goal

pub overflow_mul-c : goal.overflow_mul-c
overflow_mul-c c =
    let args = c.args in
    omega (arith, c.args.self.now.sizes, room args.c args.self.now.n args.self.now.b (omega (arith, c.args.self.now.sizes)))

pub store-requires : goal.store-requires
store-requires c =
    let pre = c.requires in
    let args = c.args in
    record {
      inside = inside_first _ _ _ _ _ c.args.self.now.consecutive (omega (arith, c.args.self.now.sizes)) (omega (
        arith,
        c.args.self.now.sizes,
      )) (omega (arith, c.args.self.now.sizes));
      b_in_bounds = omega (
        arith,
        c.args.self.now.sizes,
        room args.c args.self.now.n args.self.now.b (omega (
          arith,
          c.args.self.now.sizes,
        )),
      );
    }

pub returns-then-self-c-eq1 : goal.returns-then-self-c-eq1
returns-then-self-c-eq1 c =
    let pre = c.requires in
    let if1 = c.if-self-c-eq1 in
    let coefficients = c.coefficients-u in
    let store = c.store in
    column_stored _ _ _ _ _ _ _ _ _ c.args.self.now.consecutive if1.true coefficients.ensures store.ensures

pub returns-else-self-c-eq1 : goal.returns-else-self-c-eq1
returns-else-self-c-eq1 c = column_left _ _ _ _ _ _ _ c.if-self-c-eq1.false
