-- What is claimed of the layout: each record holds for every shape in range. Assumes nothing.
use Rattle.std.specs.Prelude.{◌≡◌, ◌≢◌, Bool, true, false, ℕ, ◌+◌, ◌*◌, ◌≤◌, ◌<◌, length}
use Rattle.base.specs.Folds.{sum, indicator}
use Rattle.layout.specs.declared.Shape.{Shape}
use Rattle.layout.specs.Ranges.{rows}
use Rattle.layout.specs.Counts.{kept, stripes, straight_stripes, transfers, all_transfers}
use Rattle.layout.specs.Addresses.{node_slots, address, area_slots, area_length}
use Rattle.layout.specs.Nodes.{row_node, data_node, has_data}
use Rattle.layout.specs.Sources.{listing, source_node, source_slot, source_column, target_stripe, target_index}
use Rattle.layout.specs.Closed.{new_row_node, new_block_node, new_data_node, new_node, new_parity_at, new_data_at}
use Rattle.layout.specs.Columns.{new_stripe, new_column, old_stripe, old_column, standing_node, standing_slot}
use Rattle.layout.specs.Transfers.{new_node_of, sender, receiver, transfer_kind}
use Rattle.layout.specs.Roles.{Role, role_exists, role_node, role_slot, role_at}

-- ---- sources

-- block (g, d) is the one that new block t of stripe w comes from: of a dissolved stripe, on its node, and the way back leads to w and t
pub record Taken (z : Shape) (w t g d : ℕ) : Type 0 where
  pub from : kept z ≤ g
  pub under : g < stripes z
  pub column : d < z.k
  pub node : data_node z g d ≡ source_node z w
  pub stripe : target_stripe z g d ≡ w
  pub index : target_index z g d ≡ t

-- new block t of stripe w is the one that block (g, d) becomes, and the way back leads to g and d
pub record Given (z : Shape) (g d w t : ℕ) : Type 0 where
  pub stripe : w < kept z
  pub index : t < z.s
  pub node : source_node z w ≡ data_node z g d
  pub slot : source_slot z w t ≡ g
  pub column : source_column z w t ≡ d

-- each old node has s k (n + s) data blocks in dissolved slots; the new blocks (w, t) and the dissolved blocks (g, d) are in bijection
pub record Sources (z : Shape) : Type 0 where
  pub listed : (i : ℕ) → i < z.n → length (listing z i) ≡ z.s * z.k * (z.n + z.s)
  pub taken : (w t : ℕ) → w < kept z → t < z.s → Taken z w t (source_slot z w t) (source_column z w t)
  pub given : (g d : ℕ) → kept z ≤ g → g < stripes z → d < z.k → Given z g d (target_stripe z g d) (target_index z g d)

-- ---- every old block is exactly one column of exactly one new stripe

-- the old block (g, d) is a column of a new stripe, and that column comes from (g, d)
pub record Becomes (z : Shape) (g d : ℕ) : Type 0 where
  pub stripe : new_stripe z g d < kept z
  pub column : new_column z g d < z.k + z.s
  pub back_stripe : old_stripe z (new_stripe z g d) (new_column z g d) ≡ g
  pub back_column : old_column z (new_stripe z g d) (new_column z g d) ≡ d

-- column c of new stripe w comes from an old block, and that block becomes this column
pub record ComesFrom (z : Shape) (w c : ℕ) : Type 0 where
  pub stripe : old_stripe z w c < stripes z
  pub column : old_column z w c < z.k
  pub back_stripe : new_stripe z (old_stripe z w c) (old_column z w c) ≡ w
  pub back_column : new_column z (old_stripe z w c) (old_column z w c) ≡ c

pub record Columns (z : Shape) : Type 0 where
  pub becomes : (g d : ℕ) → g < stripes z → d < z.k → Becomes z g d
  pub comes : (w c : ℕ) → w < kept z → c < z.k + z.s → ComesFrom z w c

-- ---- the closed layout

-- before the growth every old node has as many data blocks in its G slots (in each of the others it has a row: Roles, below);
-- after it the n + s blocks of a new stripe stand on n + s different nodes, all in slot w, and over the P slots every node has as many
pub record Placement (z : Shape) : Type 0 where
  pub even_before : (i : ℕ) → i < z.n → sum (stripes z) (λ g. indicator (has_data z i g)) ≡ (z.k + z.s) * (z.n + z.s) * z.k
  pub node : (w e : ℕ) → e < z.n + z.s → new_node z w e < z.n + z.s
  pub differ : (w a b : ℕ) → a < z.n + z.s → b < z.n + z.s → new_node z w a ≡ new_node z w b → a ≡ b
  pub even_data : (v : ℕ) → v < z.n + z.s → sum (kept z) (λ w. indicator (new_data_at z v w)) ≡ z.n * z.k * (z.k + z.s)
  pub even_parity : (v : ℕ) → v < z.n + z.s → sum (kept z) (λ w. indicator (new_parity_at z v w)) ≡ z.n * z.k * rows z

-- ---- transfers

-- a transfer goes from the node of row 0 to another node, and brings what its kind says to its place in the closed layout
pub record Brings (z : Shape) (w e : ℕ) : Type 0 where
  pub node : receiver z w e < z.n + z.s
  pub away : receiver z w e ≢ sender z w
  pub delta : transfer_kind z w e ≡ 1 → receiver z w e ≡ new_row_node z w (e + 1)
  pub new_block_law : transfer_kind z w e ≡ 2 → receiver z w e ≡ new_block_node z w (new_node_of z e)
  pub parity : transfer_kind z w e ≡ 3 → receiver z w e ≡ new_row_node z w 0

pub record Transfers (z : Shape) : Type 0 where
  pub from_row_0 : (w : ℕ) → sender z w ≡ row_node z w 0
  pub brings : (w e : ℕ) → e < transfers z → Brings z w e
  pub differ : (w e f : ℕ) → e < transfers z → f < transfers z → receiver z w e ≡ receiver z w f → e ≡ f

-- ---- the area

-- every slot of the area is the address of exactly one slot of one node; no byte is in two cells, and none is outside the area
pub record Addresses (z : Shape) : Type 0 where
  pub hit : (p : ℕ) → p < area_slots z → (v : ℕ) × (g : ℕ) × (v < z.n + z.s) × (g < node_slots z v) × (address z v g ≡ p)
  pub inside : (v g : ℕ) → v < z.n + z.s → g < node_slots z v → address z v g * z.b + z.b ≤ area_length z
  pub only : (v u g h x y : ℕ) → g < node_slots z v → h < node_slots z u → x < z.b → y < z.b
      → address z v g * z.b + x ≡ address z u h * z.b + y → (v ≡ u) × (g ≡ h) × (x ≡ y)

-- ---- roles

-- the role of a cell is there, and it is that cell's
pub record HasRole (z : Shape) (v g : ℕ) : Type 0 where
  pub there : role_exists z (role_at z v g) ≡ true
  pub node : role_node z (role_at z v g) ≡ v
  pub slot : role_slot z (role_at z v g) ≡ g

-- a role's cell is there, and its role is that one
pub record HasCell (z : Shape) (a : Role) : Type 0 where
  pub node : role_node z a < z.n + z.s
  pub slot : role_slot z a < node_slots z (role_node z a)
  pub role : role_at z (role_node z a) (role_slot z a) ≡ a

pub record Roles (z : Shape) : Type 0 where
  pub role : (v g : ℕ) → v < z.n + z.s → g < node_slots z v → HasRole z v g
  pub cell : (a : Role) → role_exists z a ≡ true → HasCell z a

-- ---- where a block stands

-- block (g, d) stands in a cell of the area; at first in its old place, in the end in its column's place
pub record Standing (z : Shape) (g d : ℕ) : Type 0 where
  pub node : (released : ℕ → Bool) → standing_node z released g d < z.n + z.s
  pub slot : (released : ℕ → Bool) → standing_slot z released g d < node_slots z (standing_node z released g d)
  pub first_node : standing_node z (λ _. false) g d ≡ data_node z g d
  pub first_slot : standing_slot z (λ _. false) g d ≡ g
  pub last_node : standing_node z (λ _. true) g d ≡ new_data_node z (new_stripe z g d) (new_column z g d)
  pub last_slot : standing_slot z (λ _. true) g d ≡ new_stripe z g d

-- ---- sizes

pub record Sizes (z : Shape) : Type 0 where
  pub kept_size : kept z ≤ 6840
  pub stripes_size : stripes z ≤ 7220
  pub straight_size : straight_stripes z ≤ kept z
  pub transfers_size : transfers z ≤ 18
  pub all_transfers_size : all_transfers z ≤ 26880
  pub journal_size : 4 + 2 * kept z ≤ 13684
  pub area_size : area_length z ≤ 589905920

pub record LayoutClaims (z : Shape) : Type 0 where
  pub sources : Sources z
  pub columns : Columns z
  pub placement : Placement z
  pub transfers : Transfers z
  pub addresses : Addresses z
  pub roles : Roles z
  pub standing : (g d : ℕ) → g < stripes z → d < z.k → Standing z g d
  pub sizes : Sizes z
