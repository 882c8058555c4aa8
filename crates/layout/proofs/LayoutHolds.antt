-- All that is claimed of the layout, for every shape in range. Assumes nothing.
use Prim.Native.Nat.{◌+◌, ◌*◌, ◌≤◌}
use native.Mathlib.Omega.{arith}
use Rattle.layout.specs.declared.Shape.{Shape}
use Rattle.layout.specs.Ranges.{InRanges}
use Rattle.layout.specs.Counts.{kept}
use Rattle.layout.specs.Claims.{LayoutClaims}
use Rattle.layout.proofs.Bounds.{kept_le, stripes_le, transfers_le, all_transfers_le, area_length_le}
use Rattle.layout.proofs.AddressLaws.{address_hit, cell_inside, byte_only}
use Rattle.layout.proofs.SourceLaws.{listing_length, taken, given}
use Rattle.layout.proofs.ClosedLaws.{new_block_node_law, nodes_differ}
use Rattle.layout.proofs.Evenness.{straight_le, even_before, even_parity, even_data}
use Rattle.layout.proofs.ColumnLaws.{becomes, comes, standing}
use Rattle.layout.proofs.TransferLaws.{sender_row_0, brings, receivers_differ}
use Rattle.layout.proofs.RoleLaws.{cell_role, role_cell}

module _ (z : Shape) (ok : InRanges z) where
  journal_le : 4 + 2 * kept z ≤ 13684
  journal_le = let a = kept_le z ok in omega arith

  pub layout_holds : LayoutClaims z
  layout_holds = record {
    sources = record { listed = listing_length z ok; taken = taken z ok; given = given z ok };
    columns = record { becomes = becomes z ok; comes = comes z ok };
    placement = record {
      even_before = even_before z ok;
      node = λ w e l. (new_block_node_law z ok w e l).0;
      differ = nodes_differ z ok;
      even_data = even_data z ok;
      even_parity = even_parity z ok;
    };
    transfers = record { from_row_0 = sender_row_0 z ok; brings = brings z ok; differ = receivers_differ z ok };
    addresses = record { hit = address_hit z; inside = cell_inside z; only = byte_only z };
    roles = record { role = cell_role z ok; cell = role_cell z ok };
    standing = standing z ok;
    sizes = record {
      kept_size = kept_le z ok;
      stripes_size = stripes_le z ok;
      straight_size = straight_le z ok;
      transfers_size = transfers_le z ok;
      all_transfers_size = all_transfers_le z ok;
      journal_size = journal_le;
      area_size = area_length_le z ok;
    };
  }
