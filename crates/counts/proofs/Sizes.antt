-- How large the numbers are that the code goes through, beside the bounds of crate `layout`. Assumes nothing.
use Prim.Native.Nat.{ℕ, ◌+◌, ◌*◌, ◌/◌, ◌≤◌}
use native.Mathlib.Nat.{mul-le-mul, mul-le-mul_left, div-mul-le_self, div-le_self, le_trans}
use native.Mathlib.Omega.{arith}
use mir.Syntax.{w64}
use mir.Val.{Fits}
use Rattle.layout.specs.declared.Shape.{Shape}
use Rattle.layout.specs.Ranges.{InRanges}
use Rattle.layout.specs.Counts.{dissolved, stripes}
use Rattle.layout.proofs.Bounds.{stripes_le}

pub dissolved_le : (z : Shape) → InRanges z → dissolved z ≤ 7220
unfolding stripes
dissolved_le z ok = let h = stripes_le z ok in omega arith

-- a quotient
pub quotient_le : (x m b : ℕ) → x ≤ b → x / m ≤ b
quotient_le x m b h = le_trans (div-le_self x m) h

-- k for each of the n that x has, and at most 20 more
pub part_le : (x n k o : ℕ) → x ≤ 7220 → k ≤ n → o ≤ 20 → x / n * k + o ≤ 7240
part_le x n k o h l m = let a = le_trans (mul-le-mul_left (x / n) l) (div-mul-le_self x n) in omega arith

-- products of small numbers do not wrap, nor sums of them
pub product_fits : (a b : ℕ) → a ≤ 65536 → b ≤ 65536 → Fits w64 (a * b)
product_fits a b h l = let m : a * b ≤ 4294967296 = mul-le-mul h l in omega arith

pub triple_fits : (a b c : ℕ) → a ≤ 65536 → b ≤ 65536 → c ≤ 65536 → Fits w64 (a * b * c)
triple_fits a b c h l m =
    let u : a * b ≤ 4294967296 = mul-le-mul h l in
    let v : a * b * c ≤ 281474976710656 = mul-le-mul u m in
    omega arith

pub more_fits : (a b c : ℕ) → a ≤ 65536 → b ≤ 65536 → c ≤ 4294967296 → Fits w64 (a * b + c)
more_fits a b c h l m = let u : a * b ≤ 4294967296 = mul-le-mul h l in omega arith

pub products_fit : (a b c d : ℕ) → a ≤ 65536 → b ≤ 65536 → c ≤ 65536 → d ≤ 65536 → Fits w64 (a * b + c * d)
products_fit a b c d h l m o = let u : c * d ≤ 4294967296 = mul-le-mul m o in more_fits a b (c * d) h l u

-- the first byte of a slot of the area
pub byte_fits : (x b : ℕ) → x ≤ 144020 → b ≤ 4096 → Fits w64 (x * b)
byte_fits x b h l = let m : x * b ≤ 589905920 = mul-le-mul h l in omega arith
