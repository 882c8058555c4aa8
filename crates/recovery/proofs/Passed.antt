-- What a call may rely on that is refused for no shape, length or loss byte. Assumes nothing.
use mathlib.Core.Path.{◌≡◌}
use mathlib.Core.List.{List, [], ◌∷◌}
use Prim.Native.Nat.{ℕ, ◌+◌, ◌-◌, ◌*◌, ◌≤◌, ◌<◌}
use native.Mathlib.Omega.{arith}
use lib.Dec.{leb, ltb}
use lib.ListN.{length, get_or}
use borrow.Author.Tests.{eqb-true, ltb-true, leb-true, not-false, le-leb, lt-ltb, eq-eqb}
use Rattle.base.proofs.Refusals.{first_zero}
use Rattle.base.proofs.Tests.{every_at, every_intro, all_true}
use Rattle.gf256.proofs.PowerLaws.{pow_lt}
use Rattle.code.specs.Rows.{coefficient}
use Rattle.solver.specs.Claims.{Solvable}
use Rattle.recovery.specs.Rebuild.{is_flag, within_ranges, refusals, rebuild_refusal}

pub record Passed (n k b : ℕ) (losses stripe : List ℕ) : Type 0 where
  pub some_column : 1 ≤ k
  pub columns : k < n
  pub blocks : n ≤ 20
  pub rows : n ≤ k + 4
  pub some_byte : 1 ≤ b
  pub small : b ≤ 4096
  pub size : length stripe ≡ n * b
  pub loss_bytes : length losses ≡ n
  pub flags : (p : ℕ) → p < n → get_or losses p 0 ≤ 1

pub passed : (n k b : ℕ) (losses stripe : List ℕ) → rebuild_refusal n k b (length stripe) losses ≡ 0 → Passed n k b losses stripe
unfolding rebuild_refusal is_flag
passed n k b losses stripe e =
    let p = first_zero (refusals n k b (length stripe) losses) (tt, (tt, (tt, (tt, tt)))) e in
    let q = all_true (leb 1 k ∷ ltb k n ∷ leb n 20 ∷ leb (n - k) 4 ∷ leb 1 b ∷ leb b 4096 ∷ []) (not-false (within_ranges n k b) p.0) in
    let columns : k < n = ltb-true k n q.1.0 in
    let rows : n - k ≤ 4 = leb-true (n - k) 4 q.1.1.1.0 in
    record {
      some_column = leb-true 1 k q.0;
      columns = columns;
      blocks = leb-true n 20 q.1.1.0;
      rows = omega arith;
      some_byte = leb-true 1 b q.1.1.1.1.0;
      small = leb-true b 4096 q.1.1.1.1.1.0;
      size = eqb-true (length stripe) (n * b) (not-false _ p.1.0);
      loss_bytes = eqb-true (length losses) n (not-false _ p.1.1.0);
      flags = λ o h. leb-true (get_or losses o 0) 1 (every_at n (is_flag losses) (not-false _ p.1.1.1.0) o h);
    }

-- and the other way round
pub unrefused : (n k b : ℕ) (losses stripe : List ℕ) → Passed n k b losses stripe → rebuild_refusal n k b (length stripe) losses ≡ 0
unfolding rebuild_refusal is_flag
unrefused n k b losses stripe ok =
    rw (
      le-leb 1 k ok.some_column,
      lt-ltb k n ok.columns,
      le-leb n 20 ok.blocks,
      le-leb (n - k) 4 (let few : n - k ≤ 4 = omega (arith, ok.rows) in few),
      le-leb 1 b ok.some_byte,
      le-leb b 4096 ok.small,
      eq-eqb (length stripe) (n * b) ok.size,
      eq-eqb (length losses) n ok.loss_bytes,
      every_intro n (is_flag losses) (λ p h. le-leb (get_or losses p 0) 1 (ok.flags p h)),
    )

-- the solver takes such losses
pub solvable : (m : ℕ → ℕ) → ((j : ℕ) → j < 4 → m j < 256) → (n k b : ℕ) (losses stripe : List ℕ) → Passed n k b losses stripe
    → Solvable (coefficient m) n k losses
unfolding coefficient
solvable m hm n k b losses stripe ok =
    record {
      columns = ok.columns;
      blocks = ok.blocks;
      rows = ok.rows;
      coefficients = λ j c h. pow_lt (m j) c (hm j h);
      flags =
          ok.flags;
    }
