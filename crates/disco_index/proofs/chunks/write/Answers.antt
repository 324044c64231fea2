use Rattle.std.proofs.Common.{◌≡◌, refl, length, arith}
use Rattle.std.proofs.lemmas.Bool.Decides.{nat_tests}
use Rattle.disco_history.specs.Slots.{written}
use Rattle.disco_index.specs.Names.{name}
use Rattle.disco_index.proofs.ChunkSteps.{in_order, none_altered, write_absent, write_found}
use Rattle.disco_index.proofs.chunks.write.Goals as goal

pub returns-then-is_empty-clause-places : goal.returns-then-is_empty-clause-places
returns-then-is_empty-clause-places c =
    let none : length c.args.chunks.now.items ≡ 0 = grind (arith, nat_tests, c.is_empty.ensures, c.if-is_empty.true) in
    none_altered c.args.chunks.now.items c.requires none (name c.args.vip.now c.args.key.now) (written c.args.there) refl

pub search-requires : goal.search-requires
search-requires c =
    let n = name c.args.vip.now c.args.key.now in
    in_order c.args.chunks.now.items c.requires n c.chunk_of-n.result c.deref.result.now c.deref.ensures.value c.chunk_of-n.ensures.in_range c.chunk_of-n.ensures.chunk c.index.result.now c.index.ensures

pub returns-in-Ok-clause-chunks : goal.returns-in-Ok-clause-chunks
returns-in-Ok-clause-chunks c =
    let n = name c.args.vip.now c.args.key.now in
    let done = write_found c.args.chunks.now.items c.requires n c.chunk_of-n.result c.deref.result.now c.deref.ensures.value c.chunk_of-n.ensures.in_range c.chunk_of-n.ensures.chunk c.index.result.now c.index.ensures c.in-Ok.i c.args.there c.write.new.self c.index_mut.result.now c.index_mut.ensures.value c.in-Ok.ensures.found c.write.ensures in
    done.0

pub returns-in-Ok-clause-places : goal.returns-in-Ok-clause-places
returns-in-Ok-clause-places c =
    let n = name c.args.vip.now c.args.key.now in
    let done = write_found c.args.chunks.now.items c.requires n c.chunk_of-n.result c.deref.result.now c.deref.ensures.value c.chunk_of-n.ensures.in_range c.chunk_of-n.ensures.chunk c.index.result.now c.index.ensures c.in-Ok.i c.args.there c.write.new.self c.index_mut.result.now c.index_mut.ensures.value c.in-Ok.ensures.found c.write.ensures in
    done.1

pub returns-in-Err-clause-places : goal.returns-in-Err-clause-places
returns-in-Err-clause-places c =
    let n = name c.args.vip.now c.args.key.now in
    write_absent c.args.chunks.now.items c.requires n c.chunk_of-n.result c.deref.result.now c.deref.ensures.value c.chunk_of-n.ensures.in_range c.chunk_of-n.ensures.chunk c.index.result.now c.index.ensures c.in-Err.field-0 c.args.there c.in-Err.ensures.absent
