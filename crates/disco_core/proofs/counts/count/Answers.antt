use Rattle.std.proofs.Common.{arith}
use Rattle.disco_index.proofs.Changes.{room_law}
use Rattle.disco_core.proofs.counts.count.Goals as goal

pub add-requires : goal.add-requires
add-requires c = rw c.uncount.ensures (omega (arith, room_law c.args.registry.now.held c.key.result.now c.deref.result.now.status, c.requires.few))
