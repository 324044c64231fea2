use Rattle.std.proofs.Common.{ap, ◌∙◌}
use Rattle.std.specs.FinMap.{len}
use Rattle.disco_history.specs.Held.{entry_of}
use Rattle.disco_client.proofs.StatusCounts.{fits}
use Rattle.disco_client.proofs.counted.Counted.put.Goals as goal

pub add-requires : goal.add-requires
add-requires c =
    rw (c.uncount.ensures, c.deref.ensures, c.deref-2.ensures)
    (fits c.self.inside.records.held c.args.added.rec.value.key (entry_of c.args.added) c.len-held.result (c.len-held.ensures ∙ ap len c.put.ensures.held) c.len-held.type_inv)
