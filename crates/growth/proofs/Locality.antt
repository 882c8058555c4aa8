-- All that is claimed of locality, for every shape. Assumes nothing.
use Rattle.layout.specs.declared.Shape.{Shape}
use Rattle.growth.specs.Local.{Locality}
use Rattle.growth.proofs.NodeParts.{part_is_cells}
use Rattle.growth.proofs.LocalCompute.{compute_local}
use Rattle.growth.proofs.LocalSend.{send_local}
use Rattle.growth.proofs.LocalDeliver.{deliver_local}
use Rattle.growth.proofs.LocalReceipt.{receipt_local}
use Rattle.growth.proofs.LocalRelease.{release_local}

pub locality : (z : Shape) → Locality z
locality z = record {
  parts = part_is_cells z;
  computes = compute_local z;
  sends = send_local z;
  delivers = deliver_local z;
  receipts = receipt_local z;
  releases = release_local z;
}
