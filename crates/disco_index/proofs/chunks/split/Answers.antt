use Rattle.std.proofs.Common.{◌/◌}
use Rattle.disco_index.proofs.ChunkSteps.{split_done}
use Rattle.disco_index.proofs.chunks.split.Goals as goal

pub returns-clause-places : goal.returns-clause-places
returns-clause-places c =
    split_done c.args.chunks.now.items c.reserve.new.self.items c.insert.new.self.items c.args.n (c.len-len.result / 2) c.index_mut.result.now c.split_off.new.self c.in_ok-behind.behind
    c.reserve.ensures.items c.requires.chunk c.index_mut.ensures.value c.in_ok-behind.ensures.front c.in_ok-behind.ensures.back c.in_ok-insert.ensures.items
