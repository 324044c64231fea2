use Rattle.std.proofs.Common.{List, ap, ◌∙◌}
use Rattle.disco_index.specs.Chunks.{Placed, name_in}
use Rattle.disco_index.specs.ChunkedBy.{ends_before}
use Rattle.disco_index.specs.Names.{name, name_cmp}
use Rattle.disco_index.proofs.ChunkSearch.{ends_found}
use Rattle.disco_index.proofs.chunk.Chunk.ends_before.Goals as goal

pub returns-in-Some : goal.returns-in-Some
returns-in-Some c =
    let n = name c.args.vip.now c.args.key.now in
    c.is_lt.ensures ∙ ends_found name_cmp name_in n c.deref.result.now c.in-Some.place.now c.compare.result c.in-Some.ensures.item.3.0 c.in-Some.ensures.item.1 c.compare.ensures
    ∙ ap (λ (ps : List Placed). ends_before name_cmp name_in n ps) (c.deref.ensures.value ∙ c.self.view_is)
