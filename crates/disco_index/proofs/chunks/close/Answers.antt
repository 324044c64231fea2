use Rattle.std.proofs.Common.{◌≡◌, refl, length, arith}
use Rattle.std.proofs.lemmas.Bool.Decides.{nat_tests}
use Rattle.disco_index.specs.Names.{name}
use Rattle.disco_index.specs.Places.{swept}
use Rattle.disco_index.proofs.ChunkSteps.{close_absent, close_found, close_kept, in_order, none_altered}
use Rattle.disco_index.proofs.chunks.close.Goals as goal

pub returns-then-is_empty-clause-places : goal.returns-then-is_empty-clause-places
returns-then-is_empty-clause-places c =
    let none : length c.args.chunks.now.items ≡ 0 = grind (arith, nat_tests, c.is_empty.ensures, c.if-is_empty.true) in
    none_altered c.args.chunks.now.items c.requires none (name c.args.vip.now c.args.key.now) swept refl

pub search-requires : goal.search-requires
search-requires c =
    let n = name c.args.vip.now c.args.key.now in
    in_order c.args.chunks.now.items c.requires n c.chunk_of-n.result c.deref.result.now c.deref.ensures.value c.chunk_of-n.ensures.in_range c.chunk_of-n.ensures.chunk c.index.result.now c.index.ensures

pub returns-then-not-is_there-clause-chunks : goal.returns-then-not-is_there-clause-chunks
returns-then-not-is_there-clause-chunks c =
    let n = name c.args.vip.now c.args.key.now in
    let done = close_found c.args.chunks.now.items c.requires n c.chunk_of-n.result c.deref.result.now c.deref.ensures.value c.chunk_of-n.ensures.in_range c.chunk_of-n.ensures.chunk c.index.result.now c.index.ensures c.in-Ok.i c.is_there.result c.take_out.new.chunks.items c.index-in-Ok.result.now c.index-in-Ok.ensures c.in-Ok.ensures.found c.is_there.ensures c.if-not-is_there.true (c.take_out.ensures.none_empty c.requires.none_empty) c.take_out.ensures.places in
    done.0

pub returns-then-not-is_there-clause-places : goal.returns-then-not-is_there-clause-places
returns-then-not-is_there-clause-places c =
    let n = name c.args.vip.now c.args.key.now in
    let done = close_found c.args.chunks.now.items c.requires n c.chunk_of-n.result c.deref.result.now c.deref.ensures.value c.chunk_of-n.ensures.in_range c.chunk_of-n.ensures.chunk c.index.result.now c.index.ensures c.in-Ok.i c.is_there.result c.take_out.new.chunks.items c.index-in-Ok.result.now c.index-in-Ok.ensures c.in-Ok.ensures.found c.is_there.ensures c.if-not-is_there.true (c.take_out.ensures.none_empty c.requires.none_empty) c.take_out.ensures.places in
    done.1

pub returns-else-not-is_there-clause-places : goal.returns-else-not-is_there-clause-places
returns-else-not-is_there-clause-places c =
    let n = name c.args.vip.now c.args.key.now in
    close_kept c.args.chunks.now.items c.requires n c.chunk_of-n.result c.deref.result.now c.deref.ensures.value c.chunk_of-n.ensures.in_range c.chunk_of-n.ensures.chunk c.index.result.now c.index.ensures c.in-Ok.i c.is_there.result c.index-in-Ok.result.now c.index-in-Ok.ensures c.in-Ok.ensures.found c.is_there.ensures c.if-not-is_there.false

pub returns-in-Err-clause-places : goal.returns-in-Err-clause-places
returns-in-Err-clause-places c =
    let n = name c.args.vip.now c.args.key.now in
    close_absent c.args.chunks.now.items c.requires n c.chunk_of-n.result c.deref.result.now c.deref.ensures.value c.chunk_of-n.ensures.in_range c.chunk_of-n.ensures.chunk c.index.result.now c.index.ensures c.in-Err.field-0 c.in-Err.ensures.absent
