-- Row j of a stripe stands at place j of the cycle of its nodes, column d at place r + d. Assumes nothing.
use mathlib.Core.Path.{◌≡◌, refl, sym, ap, ◌∙◌}
use mathlib.Core.Bool.{true, false}
use Prim.Native.Nat.{ℕ, ◌+◌, ◌-◌, ◌≤◌, ◌<◌}
use native.Mathlib.Nat.{add_assoc}
use native.Mathlib.Omega.{arith}
use lib.Dec.{leb, eqb}
use borrow.Author.Tests.{leb-true, leb-false, le-leb, lt-leb, eqb-true, eq-eqb}
use Rattle.layout.specs.declared.Shape.{Shape}
use Rattle.layout.specs.Ranges.{rows, InRanges}
use Rattle.layout.specs.Nodes.{row_node, data_node, has_data, column_on}
use Rattle.layout.specs.Roles.{row_on}
use Rattle.layout.proofs.Cycle.{node_at, place_of, place_lt, node_lt, node_place, place_node}
use Rattle.layout.proofs.ListingLaws.{some_eqb, find_only}

pub row_at : (z : Shape) (g j : ℕ) → row_node z g j ≡ node_at z.n g j
unfolding row_node node_at
row_at z g j = refl

pub data_at : (z : Shape) (g d : ℕ) → data_node z g d ≡ node_at z.n g (rows z + d)
unfolding data_node node_at
data_at z g d = rw add_assoc

module _ (z : Shape) (ok : InRanges z) where
  some_node : 0 < z.n
  some_node = omega arith

  pub row_node_lt : (g j : ℕ) → row_node z g j < z.n
  row_node_lt g j = rw row_at (node_lt z.n g j some_node)

  pub data_node_lt : (g d : ℕ) → data_node z g d < z.n
  data_node_lt g d = rw data_at (node_lt z.n g (rows z + d) some_node)

  pub place_row : (g j : ℕ) → j < rows z → place_of z.n g (row_node z g j) ≡ j
  place_row g j l = rw row_at (place_node z.n g j (omega arith))

  pub place_data : (g d : ℕ) → d < z.k → place_of z.n g (data_node z g d) ≡ rows z + d
  place_data g d l = rw data_at (place_node z.n g (rows z + d) (omega arith))

  -- node i at place r or above has a column, at a place below r a row
  pub node_column : (g i : ℕ) → i < z.n → rows z ≤ place_of z.n g i → (place_of z.n g i - rows z < z.k)
      × (data_node z g (place_of z.n g i - rows z) ≡ i)
  node_column g i l y =
      let e : rows z + (place_of z.n g i - rows z) ≡ place_of z.n g i = omega arith in
      (omega (arith, place_lt z.n g i some_node), data_at z g (place_of z.n g i - rows z) ∙ rw e (node_place z.n g i l))

  pub node_row : (g i : ℕ) → i < z.n → row_node z g (place_of z.n g i) ≡ i
  node_row g i l = row_at z g (place_of z.n g i) ∙ node_place z.n g i l

  pub has_data_law : (i g : ℕ) → i < z.n → has_data z i g ≡ leb (rows z) (place_of z.n g i)
  unfolding has_data
  has_data_law i g l = some_eqb (data_node z g) z.k i (rows z) (place_of z.n g i) there back
    where
      there : rows z ≤ place_of z.n g i → (d : ℕ) × (d < z.k) × (data_node z g d ≡ i)
      there y = let c = node_column g i l y in (place_of z.n g i - rows z, c.0, c.1)

      back : (d : ℕ) → d < z.k → data_node z g d ≡ i → rows z ≤ place_of z.n g i
      back d m e = omega (arith, ap (place_of z.n g) (sym e) ∙ place_data g d m)

  -- the column and the row that are found on a node
  pub column_on_law : (g d : ℕ) → d < z.k → column_on z g (data_node z g d) ≡ d
  unfolding column_on
  column_on_law g d l =
      find_only z.k (λ x. eqb (data_node z g x) (data_node z g d)) d l (eq-eqb (data_node z g d) (data_node z g d) refl)
      (λ e m t. let q = ap (place_of z.n g) (eqb-true (data_node z g e) (data_node z g d) t) in
      omega (arith, place_data g e m, place_data g d l))

  pub row_on_law : (g j : ℕ) → j < rows z → row_on z g (row_node z g j) ≡ j
  unfolding row_on
  row_on_law g j l =
      find_only (rows z) (λ x. eqb (row_node z g x) (row_node z g j)) j l (eq-eqb (row_node z g j) (row_node z g j) refl)
      (λ e m t. let q = ap (place_of z.n g) (eqb-true (row_node z g e) (row_node z g j) t) in
      omega (arith, place_row g e m, place_row g j l))

  -- a node has a column of a stripe, or else a row
  pub data_there : (g d : ℕ) → d < z.k → has_data z (data_node z g d) g ≡ true
  data_there g d l =
      has_data_law (data_node z g d) g (data_node_lt g d)
      ∙ le-leb (rows z) (place_of z.n g (data_node z g d)) (rw (place_data g d l) (omega arith))

  pub row_there : (g j : ℕ) → j < rows z → has_data z (row_node z g j) g ≡ false
  row_there g j l =
      has_data_law (row_node z g j) g (row_node_lt g j) ∙ lt-leb (rows z) (place_of z.n g (row_node z g j)) (rw (place_row g j l) l)

  pub data_found : (i g : ℕ) → i < z.n → has_data z i g ≡ true → (column_on z g i < z.k) × (data_node z g (column_on z g i) ≡ i)
  data_found i g l e =
      let y : rows z ≤ place_of z.n g i = leb-true (rows z) (place_of z.n g i) (sym (has_data_law i g l) ∙ e) in
      let c = node_column g i l y in
      let f : column_on z g i ≡ place_of z.n g i - rows z =
      ap (column_on z g) (sym c.1) ∙ column_on_law g (place_of z.n g i - rows z) c.0 in
      (rw f c.0, rw f c.1)

  pub row_found : (i g : ℕ) → i < z.n → has_data z i g ≡ false → (row_on z g i < rows z) × (row_node z g (row_on z g i) ≡ i)
  row_found i g l e =
      let y : place_of z.n g i < rows z = leb-false (rows z) (place_of z.n g i) (sym (has_data_law i g l) ∙ e) in
      let c = node_row g i l in
      let f : row_on z g i ≡ place_of z.n g i = ap (row_on z g) (sym c) ∙ row_on_law g (place_of z.n g i) y in
      (rw f y, rw f c)
