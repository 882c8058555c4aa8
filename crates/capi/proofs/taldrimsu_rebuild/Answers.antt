-- `capi::taldrimsu_rebuild` meets its contract. Assumes nothing.
use Rattle.capi.proofs.Bounds.{lost_small}
use Rattle.capi.proofs.taldrimsu_rebuild.Goals as goal

pub code_rebuild-requires : goal.code_rebuild-requires
code_rebuild-requires c = lost_small _ _ _ _ _ _ _ _ c.rebuild.ensures
