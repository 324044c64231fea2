use Rattle.std.proofs.Common.{◌≡◌, List, IfOk, IfErr, rules, of_calls, sym, subst, ◌∙◌}
use Rattle.std.proofs.lemmas.Fn.{always_returns_same}
use Rattle.disco_history.proofs.SortedBy.{found, absent}
use Rattle.disco_index.specs.Chunks.{AreInOrder, IsPlaceAt, IsPlaceGap, Placed, is_there, name_in}
use Rattle.disco_index.specs.Names.{name, name_cmp}
use Rattle.disco_index.proofs.Nested.{exact_names, names_total}
use Rattle.disco_index.proofs.chunk.Chunk.search.Goals as goal

pub returns-clause-found : goal.returns-clause-found
returns-clause-found c =
    let n = name c.args.vip.now c.args.key.now in
    let same : c.as_slice.result.now ≡ c.args.self.now = c.as_slice.ensures.value ∙ c.self.view_is in
    subst (λ (ps : List Placed). IfOk c.binary_search_by.result (λ i. IsPlaceAt ps n i)) same
    (found names_total exact_names name_in is_there c.as_slice.result.now n c.binary_search_by.result (subst AreInOrder (sym same) c.requires) c.binary_search_by.ensures.bound
    (c.binary_search_by.ensures.position (λ (p : Placed). name_cmp p.0 (name c.args.vip.now c.args.key.now)) (always_returns_same _ _ _ (λ a r f k. search (rules, of_calls)))))

pub returns-clause-absent : goal.returns-clause-absent
returns-clause-absent c =
    let n = name c.args.vip.now c.args.key.now in
    let same : c.as_slice.result.now ≡ c.args.self.now = c.as_slice.ensures.value ∙ c.self.view_is in
    subst (λ (ps : List Placed). IfErr c.binary_search_by.result (λ i. IsPlaceGap ps n i)) same
    (absent names_total exact_names name_in is_there c.as_slice.result.now n c.binary_search_by.result (subst AreInOrder (sym same) c.requires) c.binary_search_by.ensures.bound
    (c.binary_search_by.ensures.position (λ (p : Placed). name_cmp p.0 (name c.args.vip.now c.args.key.now)) (always_returns_same _ _ _ (λ a r f k. search (rules, of_calls)))))
