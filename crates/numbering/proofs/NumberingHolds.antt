-- All that specs/Claims claims of the numbers that the functions for C answer. Assumes nothing.
use Rattle.numbering.specs.Claims.{NumberingClaims}
use Rattle.numbering.proofs.ListedCalls as Calls
use Rattle.numbering.proofs.ListedStatus as Status
use Rattle.numbering.proofs.ListedRebuild as Rebuild
use Rattle.numbering.proofs.Apart as Apart

pub numbering_holds : NumberingClaims
numbering_holds = record {
  encodes = Calls.encodes;
  begins = Calls.begins;
  computes = Calls.computes;
  sends = Calls.sends;
  delivers = Calls.delivers;
  receipts = Calls.receipts;
  releases = Calls.releases;
  closes = Calls.closes;
  drives = Calls.drives;
  reads = Calls.reads;
  tells = Status.tells;
  rebuilds = Rebuild.rebuilds;
  answers_apart = Apart.answers_apart;
  places_apart = Apart.places_apart;
  statuses_apart = Apart.statuses_apart;
  rebuilds_apart = Apart.rebuilds_apart;
}
