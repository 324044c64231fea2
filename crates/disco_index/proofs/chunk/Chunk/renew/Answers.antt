use Rattle.std.proofs.Common.{◌≡◌, List, ap, get_or, set, ◌∙◌}
use Rattle.std.proofs.lemmas.List.{set-get_or}
use Rattle.disco_index.specs.Chunks.{Placed}
use Rattle.disco_index.specs.Names.{name_cmp}
use Rattle.disco_index.proofs.Nested.{exact_names}
use Rattle.disco_index.proofs.chunk.Chunk.renew.Goals as goal

pub renew-requires : goal.renew-requires
renew-requires c =
    let x = c.index_mut.result.now in
    let read : x ≡ get_or c.args.self.now c.args.i x = c.index_mut.ensures.value ∙ ap (λ (ps : List Placed). get_or ps c.args.i x) c.self.view_is in
    exact_names c.args.place.0 x.0 (ap (λ (p : Placed). name_cmp c.args.place.0 p.0) read ∙ c.requires.here x)

pub returns : goal.returns
returns c =
    let x = c.index_mut.result.now in
    let ps = c.self.inside.places.items in
    ap (set ps c.args.i) (c.renew.ensures ∙ c.index_mut.ensures.value) ∙ set-get_or ps c.args.i x ∙ c.self.view_is
