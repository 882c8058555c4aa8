-- Document 01, "Checked examples": E1 to E8, one table, in the paper's words; proved as `examples` in proofs/Table. Numbers of
-- two digits are bytes in hexadecimal, blocks are of one byte. Assumes nothing.
use Rattle.std.specs.Prelude.{◌≡◌, List, [], ◌∷◌, true, false, ℕ}
use Rattle.area.specs.Area.{slot, xor_blocks}
use Rattle.code.specs.Rows.{vandermonde, parity_row, delta}
use Rattle.layout.specs.declared.Shape.{Shape}
use Rattle.layout.specs.Ranges.{shape_refusal}
use Rattle.layout.specs.Counts.{straight_stripes}
use Rattle.layout.specs.Sources.{source_node, source_slot}
use Rattle.layout.specs.Closed.{swapped}
use Rattle.recovery.specs.RebuildAnswer.{RebuildAnswer}
use Rattle.recovery.specs.RebuildAnswer.{Refused}
use Rattle.recovery.specs.Rebuild.{Rebuilds, stripe_multiplier}

-- row j over the k columns of the data
abbrev pub row : ℕ → ℕ → List ℕ → List ℕ
row k j columns = parity_row vandermonde 1 k j (slot columns 1)

-- the change of row j where new blocks join k columns
abbrev pub change : ℕ → ℕ → ℕ → List ℕ → List ℕ
change k s j new = delta vandermonde 1 k s j (slot new 1)

abbrev pub shape : ℕ → ℕ → ℕ → Shape
shape n k s = record { n = n; k = k; s = s; b = 1 }

-- the stripe of E7, its columns and then its rows, and the losses of E8
abbrev pub stripe7 : List ℕ
stripe7 = 0x06 ∷ 0x07 ∷ 0x00 ∷ 0x01 ∷ 0x00 ∷ 0x00 ∷ 0x00 ∷ []

abbrev pub losses8 : List ℕ
losses8 = 1 ∷ 1 ∷ 0 ∷ 1 ∷ 0 ∷ 0 ∷ 0 ∷ []

pub record Examples : Type 0 where
  -- E1 data 05 07: rows 02, 0B
  pub e1 : (row 2 0 (0x05 ∷ 0x07 ∷ []) ≡ 0x02 ∷ []) × (row 2 1 (0x05 ∷ 0x07 ∷ []) ≡ 0x0B ∷ [])
  -- E2 third block 80: changes 80, 3A; rows 82, 31
  pub e2 : (change 2 1 0 (0x80 ∷ []) ≡ 0x80 ∷ []) × (change 2 1 1 (0x80 ∷ []) ≡ 0x3A ∷ [])
      × (row 3 0 (0x05 ∷ 0x07 ∷ 0x80 ∷ []) ≡ 0x82 ∷ []) × (row 3 1 (0x05 ∷ 0x07 ∷ 0x80 ∷ []) ≡ 0x31 ∷ [])
  -- E3 3A added twice gives 0B again
  pub e3 : xor_blocks 1 (xor_blocks 1 (0x0B ∷ []) (0x3A ∷ [])) (0x3A ∷ []) ≡ 0x0B ∷ []
  -- E4 (3,2,1): new block 0 of w=0 is node 0, slot 25; of w=1 node 1, slot 24; of w=23 node 2, slot 34
  pub e4 : (source_node (shape 3 2 1) 0 ≡ 0) × (source_slot (shape 3 2 1) 0 0 ≡ 25)
      × (source_node (shape 3 2 1) 1 ≡ 1) × (source_slot (shape 3 2 1) 1 0 ≡ 24)
      × (source_node (shape 3 2 1) 23 ≡ 2) × (source_slot (shape 3 2 1) 23 0 ≡ 34)
  -- E5 (4,2,1): w=23 straight, w=24 swapped
  pub e5 : (swapped (shape 4 2 1) 23 ≡ false) × (swapped (shape 4 2 1) 24 ≡ true)
  -- E6 (4,1,2): T=0; (4,1,3): refused 2
  pub e6 : (shape_refusal (shape 4 1 2) ≡ 0) × (straight_stripes (shape 4 1 2) ≡ 0) × (shape_refusal (shape 4 1 3) ≡ 2)
  -- E7 (7,4) data 06 07 00 01: rows 00 00 00
  pub e7 : (row 4 0 stripe7 ≡ 0x00 ∷ []) × (row 4 1 stripe7 ≡ 0x00 ∷ []) × (row 4 2 stripe7 ≡ 0x00 ∷ [])
  -- E8 so losing columns 0, 1, 3 is refused 11: that is an outcome, and the only one
  pub e8 : Rebuilds stripe_multiplier 7 4 1 losses8 stripe7 (Refused 11) stripe7
      × ((a : RebuildAnswer) (out : List ℕ) → Rebuilds stripe_multiplier 7 4 1 losses8 stripe7 a out → (a ≡ Refused 11) × (out ≡ stripe7))
