-- `area::product::product` meets its contract. Assumes nothing.
use mathlib.Core.Path.{sym}
use Rattle.area.proofs.BitProduct.{mul_masks}
use Rattle.area.proofs.product.mul_bitwise.Goals as goal

pub returns : goal.returns
returns c =
    let bit-times7 = c.bit_times-7 in
    let bit-times6 = c.bit_times-6 in
    let bit-times5 = c.bit_times-5 in
    let bit-times4 = c.bit_times-4 in
    let bit-times3 = c.bit_times-3 in
    let bit-times2 = c.bit_times-2 in
    let bit-times = c.bit_times in
    let double =
    c.double-p1 in
    let double2 = c.double-p2 in
    let double3 = c.double-p3 in
    let double4 = c.double-p4 in
    let double5 = c.double-p5 in
    let double6 = c.double-p6 in
    let double7 = c.double-p7 in
    rw (
      c.bit_times-8.ensures,
      bit-times7.ensures,
      bit-times6.ensures,
      bit-times5.ensures,
      bit-times4.ensures,
      bit-times3.ensures,
      bit-times2.ensures,
      bit-times.ensures,
    )
    (sym (mul_masks _ _ double.ensures double2.ensures double3.ensures double4.ensures double5.ensures double6.ensures
    double7.ensures))
