-- All that is claimed of the calls without a history, for every shape. Assumes nothing.
use Rattle.layout.specs.declared.Shape.{Shape}
use Rattle.growth.specs.Claims.{Buffers, GrowthClaims}
use Rattle.growth.proofs.Locality.{locality}
use Rattle.growth.proofs.BufferLaws.{encode_buffers, begin_buffers, compute_buffers, send_buffers, deliver_buffers, receipt_space_law}
use Rattle.growth.proofs.BufferLaws.{receipt_buffers, release_buffers, close_buffers}
use Rattle.growth.proofs.DriveBuffers.{drive_buffers}
use Rattle.growth.proofs.OtherShapes.{other_shape_law}
use Rattle.growth.proofs.EncodeCells.{encode_cells}
use Rattle.growth.proofs.BeginCells.{begin_cells}
use Rattle.growth.proofs.FreshRows.{fresh_rows}
use Rattle.growth.proofs.ReleaseCells.{release_cells}
use Rattle.growth.proofs.CloseCells.{close_cells}
use Rattle.growth.proofs.ClosedCells.{closed_cells}
use Rattle.growth.proofs.ClosedOnly.{closed_only}
use Rattle.growth.proofs.ReadLaws.{read_cells}
use Rattle.growth.proofs.DriveLaws.{drive_claims}

buffers : (z : Shape) → Buffers z
buffers z = record {
  encodes = encode_buffers z;
  begins = begin_buffers z;
  computes = compute_buffers z;
  sends = send_buffers z;
  delivers = λ area journal node message space.
      (deliver_buffers z area journal node message space, receipt_space_law z area journal node message space);
  receipts = receipt_buffers z;
  releases = release_buffers z;
  closes = close_buffers z;
  drives = drive_buffers z;
}

pub growth_holds : (z : Shape) → GrowthClaims z
growth_holds z = record {
  locality = locality z;
  buffers = buffers z;
  other_shape_law = other_shape_law z;
  encode_cells = encode_cells z;
  begin_cells = begin_cells z;
  fresh_rows = fresh_rows z;
  release_cells = release_cells z;
  close_cells = close_cells z;
  closed_cells = closed_cells z;
  closed_only = closed_only z;
  read_cells = read_cells z;
  drives = drive_claims z;
}
