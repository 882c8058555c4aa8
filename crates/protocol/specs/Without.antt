-- The growth without bytes is a machine. Assumes nothing.
use Rattle.protocol.specs.Parts.{Growth}
use Rattle.protocol.specs.World.{World, begun_world}
use Rattle.protocol.specs.Calls as Calls
use Rattle.protocol.specs.Histories.{Machine}

abbrev pub world_machine : Growth → Machine
world_machine G = record {
  Contents = World G;
  Call = Calls.Call G.Block;
  begun = begun_world G;
  after = Calls.after_call G;
  answer = Calls.answer G;
  WasSent = Calls.WasSent G;
  is_deliver = Calls.is_deliver;
  is_close = Calls.is_close;
}
