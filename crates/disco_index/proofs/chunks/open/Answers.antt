use Rattle.std.proofs.Common.{◌≡◌, List, [], ◌∷◌, ◌++◌, length, ap, arith, subst, sym, ◌∙◌}
use Rattle.std.proofs.lemmas.Bool.Decides.{nat_tests}
use Rattle.disco_index.specs.Chunks.{Chunks, IsChunkOf, IsPlaceAt, IsPlaceGap, Placed, by_vip}
use Rattle.disco_index.specs.Names.{Name, name}
use Rattle.disco_index.specs.Places.{Alters, opened_vip}
use Rattle.disco_index.proofs.ChunkSteps.{first_opened, in_order, open_absent, open_found, same_set}
use Rattle.disco_index.proofs.chunks.open.Goals as goal

pub returns-then-is_empty-clause-ok : goal.returns-then-is_empty-clause-ok
returns-then-is_empty-clause-ok c =
    let cs = c.args.chunks.now.items in
    let none : length cs ≡ 0 = grind (arith, nat_tests, c.is_empty.ensures, c.if-is_empty.true) in
    let done = first_opened cs c.requires.chunks none c.args.place.0 c.args.place c.push.new.self.items (ap (λ b. (c.args.place.0, b)) c.requires.empty)
    (c.in_ok-push.ensures.items ∙ ap (λ (d : List Placed). cs ++ (d ∷ [])) c.in_ok-of_one.ensures) in
    done.1

pub search-requires : goal.search-requires
search-requires c =
    let of = subst (λ (n : Name). IsChunkOf c.deref.result.now n c.chunk_of-n.result) (λ i. name (c.vip.ensures i) (c.key.ensures i)) c.chunk_of-n.ensures.chunk in
    in_order c.args.chunks.now.items c.requires.chunks c.args.place.0 c.chunk_of-n.result c.deref.result.now c.deref.ensures.value c.chunk_of-n.ensures.in_range of c.index.result.now c.index.ensures

pub returns-in-Ok-clause-ok : goal.returns-in-Ok-clause-ok
returns-in-Ok-clause-ok c =
    let cs = c.args.chunks.now.items in
    let n = c.args.place.0 in
    let here = subst (λ (n : Name). IsPlaceAt c.index.result.now n c.in-Ok.i) (λ i. name (c.vip-2.ensures i) (c.key-2.ensures i)) c.in-Ok.ensures.found in
    let of = subst (λ (n : Name). IsChunkOf c.deref.result.now n c.chunk_of-n.result) (λ i. name (c.vip.ensures i) (c.key.ensures i)) c.chunk_of-n.ensures.chunk in
    subst (λ (fs : Chunks). Alters opened_vip (n.vip ∷ []) n.key (by_vip cs) (by_vip fs)) (sym (same_set cs c.chunk_of-n.result c.index_mut.result.now c.renew.new.self c.index_mut.ensures.value c.renew.ensures))
    (open_found cs c.requires.chunks n c.chunk_of-n.result c.deref.result.now c.deref.ensures.value c.chunk_of-n.ensures.in_range of c.index.result.now c.index.ensures c.in-Ok.i here)

pub returns-in_ok-put_in-in-Err-clause-chunks : goal.returns-in_ok-put_in-in-Err-clause-chunks
returns-in_ok-put_in-in-Err-clause-chunks c =
    let cs = c.args.chunks.now.items in
    let n = c.args.place.0 in
    let gap = subst (λ (n : Name). IsPlaceGap c.index.result.now n c.in-Err.i) (λ i. name (c.vip-2.ensures i) (c.key-2.ensures i)) c.in-Err.ensures.absent in
    let of = subst (λ (n : Name). IsChunkOf c.deref.result.now n c.chunk_of-n.result) (λ i. name (c.vip.ensures i) (c.key.ensures i)) c.chunk_of-n.ensures.chunk in
    let done = open_absent cs c.requires.chunks n c.chunk_of-n.result c.deref.result.now c.deref.ensures.value c.chunk_of-n.ensures.in_range of c.index.result.now c.index.ensures c.in-Err.i c.args.place c.put_in.new.chunks.items
    gap (ap (λ b. (c.args.place.0, b)) c.requires.empty) (c.put_in.ensures.none_empty c.requires.chunks.none_empty) c.in_ok-put_in-in-Err.ensures.places in
    done.0

pub returns-in_ok-put_in-in-Err-clause-ok : goal.returns-in_ok-put_in-in-Err-clause-ok
returns-in_ok-put_in-in-Err-clause-ok c =
    let cs = c.args.chunks.now.items in
    let n = c.args.place.0 in
    let gap = subst (λ (n : Name). IsPlaceGap c.index.result.now n c.in-Err.i) (λ i. name (c.vip-2.ensures i) (c.key-2.ensures i)) c.in-Err.ensures.absent in
    let of = subst (λ (n : Name). IsChunkOf c.deref.result.now n c.chunk_of-n.result) (λ i. name (c.vip.ensures i) (c.key.ensures i)) c.chunk_of-n.ensures.chunk in
    let done = open_absent cs c.requires.chunks n c.chunk_of-n.result c.deref.result.now c.deref.ensures.value c.chunk_of-n.ensures.in_range of c.index.result.now c.index.ensures c.in-Err.i c.args.place c.put_in.new.chunks.items
    gap (ap (λ b. (c.args.place.0, b)) c.requires.empty) (c.put_in.ensures.none_empty c.requires.chunks.none_empty) c.in_ok-put_in-in-Err.ensures.places in
    done.1
