use Rattle.std.proofs.Common.{◌≡◌, List, [], length, get_or, ap, sym, ◌∙◌}
use Rattle.std.proofs.lemmas.List.{get_or_read}
use Rattle.disco_index.specs.Chunks.{Placed, all_in}
use Rattle.disco_index.proofs.ChunkSteps.{last_out}
use Rattle.disco_index.proofs.chunks.take_out.Goals as goal

pub returns-then-len-eq1-clause-places : goal.returns-then-len-eq1-clause-places
returns-then-len-eq1-clause-places c =
    let cs = c.args.chunks.now.items in
    let read : c.index.result.now ≡ get_or cs c.args.n [] = get_or_read cs c.args.n c.index.result.now c.requires.chunk c.index.ensures [] in
    let one : length (get_or cs c.args.n []) ≡ 1 = sym (ap (λ (ps : List Placed). length ps) read) ∙ sym c.len.ensures ∙ c.if-len-eq1.true in
    ap all_in c.remove_chunk.ensures ∙ last_out cs c.args.n c.args.i c.requires.chunk one (c.requires.place [])
