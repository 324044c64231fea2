use Rattle.disco_index.proofs.ChunkSteps.{no_chunks}
use Rattle.disco_index.proofs.vip_places.VipPlaces.new.Goals as goal

pub invariant_of-result : goal.invariant_of-result
invariant_of-result c = no_chunks c.new.result.items c.new.ensures.items
