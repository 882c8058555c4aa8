-- What a run of steps leaves: what its step q sets and no later step touches is there afterwards. Assumes nothing.
use mathlib.Core.Path.{◌≡◌, ◌∙◌}
use mathlib.Core.List.{List}
use mathlib.Core.Logic.{⊎_elim}
use Prim.Native.Nat.{ℕ, zero, suc, ◌+◌, ◌≤◌, ◌<◌}
use native.Mathlib.Nat.{eq-or-lt_of_le}
use native.Mathlib.Omega.{arith}
use lib.ListN.{length}
use Rattle.base.specs.Folds.{run}
use Rattle.base.proofs.Runs.{run_keeps}
use Rattle.layout.specs.declared.Shape.{Shape}
use Rattle.layout.specs.Addresses.{node_slots, area_length}
use Rattle.growth.specs.Cells.{cell, put_cell}
use Rattle.growth.proofs.CellLaws.{length_put_cell, cell_same, cell_other}

-- ---- steps of any kind that keep the length of the area

module _ (f : ℕ → List ℕ → List ℕ) (keeps-length : (q : ℕ) (e : List ℕ) → length (f q e) ≡ length e) where
  pub run_length : (p n : ℕ) (a : List ℕ) → length (run f p n a) ≡ length a
  run_length p n a = run_keeps f length p n a (λ q e l u. keeps-length q e)

  -- step q leaves x in g, in every area that is as long as the lent one, and the later steps keep what is in g
  pub run_leaves : {B : Type 0} (g : List ℕ → B) (x : B) (p n q : ℕ) (a : List ℕ) → p ≤ q → q < p + n
      → ((e : List ℕ) → length e ≡ length a → g (f q e) ≡ x)
      → ((r : ℕ) (e : List ℕ) → q < r → r < p + n → g (f r e) ≡ g e) → g (run f p n a) ≡ x
  unfolding run
  run_leaves g x p zero q a l u sets keeps = absurd (omega arith)
  run_leaves g x p (suc n) q a l u sets keeps =
      ⊎_elim
      (λ (e : q ≡ p + n). rw (← e) (sets (run f p n a) (run_length p n a)))
      (λ (o : q < p + n). keeps (p + n) (run f p n a) o (omega arith)
      ∙ run_leaves g x p n q a l o sets (λ r e m v. keeps r e m (omega arith)))
      (eq-or-lt_of_le {m = p + n} (omega arith))

-- ---- steps that put f q into slot `slot q` of node `node q`, for the n numbers q from p on

-- each is a block that goes into a cell of its node
pub record Fit (z : Shape) (node slot : ℕ → ℕ) (f : ℕ → List ℕ) (p n : ℕ) : Type 0 where
  pub size : (q : ℕ) → length (f q) ≡ z.b
  pub there : (q : ℕ) → p ≤ q → q < p + n → slot q < node_slots z (node q)

module _ (z : Shape) (node slot : ℕ → ℕ) (f : ℕ → List ℕ) where
  abbrev pub puts : ℕ → ℕ → List ℕ → List ℕ
  puts p n area = run (λ q a. put_cell z a (node q) (slot q) (f q)) p n area

  pub length_puts : (p n : ℕ) (area : List ℕ) → length (puts p n area) ≡ length area
  length_puts p n area = run_length _ (λ q e. length_put_cell z e (node q) (slot q) (f q)) p n area

  -- a cell that no step puts
  pub puts_other : (p n : ℕ) (area : List ℕ) → Fit z node slot f p n → (v g : ℕ) → g < node_slots z v
      → ((q : ℕ) → p ≤ q → q < p + n → node q ≡ v → slot q ≡ g → ⊥) → cell z (puts p n area) v g ≡ cell z area v g
  puts_other p n area fit v g lg none =
      run_keeps _ (λ e. cell z e v g) p n area
      (λ q e l u. cell_other z e (node q) (slot q) v g (f q) (fit.there q l u) lg (fit.size q) (none q l u))

  -- the cell of step q, that no later step puts
  pub puts_same : (p n : ℕ) (area : List ℕ) → Fit z node slot f p n → length area ≡ area_length z → (q : ℕ) → p ≤ q → q < p + n
      → node q < z.n + z.s → ((r : ℕ) → q < r → r < p + n → node r ≡ node q → slot r ≡ slot q → ⊥)
      → cell z (puts p n area) (node q) (slot q) ≡ f q
  puts_same p n area fit long q l u lv differ =
      run_leaves _ (λ r e. length_put_cell z e (node r) (slot r) (f r)) (λ e. cell z e (node q) (slot q)) (f q) p n q area l u
      (λ e le. cell_same z e (node q) (slot q) (f q) (le ∙ long) lv (fit.there q l u) (fit.size q))
      (λ r e m v. cell_other z e (node r) (slot r) (node q) (slot q) (f r) (fit.there r (omega arith) v) (fit.there q l u)
      (fit.size r) (differ r m v))
