use Rattle.std.proofs.Common.{slice_index_or, sym, ap, ◌∙◌, Some}
use Rattle.std.specs.FinMap as map
use Rattle.std.specs.declared.alloc.Global.{Global}
use Rattle.std.specs.declared.sync.Arc.{Arc}
use Rattle.disco_history.proofs.SortedBy.{get_at, get_gap}
use Rattle.disco_cache.specs.Docs.{Docs}
use Rattle.disco_cache.specs.Kept.{doc_key, payload_in}
use Rattle.disco_cache.specs.declared.payload.Payload.{Payload}
use Rattle.disco_values.proofs.Orders.{docs_total, exact_docs}
use Rattle.disco_cache.proofs.cache.DocCache.get.Goals as goal

pub returns-in-Ok-clause-found : goal.returns-in-Ok-clause-found
returns-in-Ok-clause-found c =
    let at = rw c.deref.ensures.value at c.in-Ok.ensures.found in
    ap (λ (d : Arc Payload Global). Some d.value) c.index.ensures
    ∙ sym (get_at docs_total exact_docs doc_key payload_in c.self.inside.docs.items c.args.key.now c.in-Ok.i c.index.result.now c.self.invariant at)
    ∙ ap (λ (d : Docs). map.get d.docs c.args.key.now) c.self.view_is

pub returns-in-Err-clause-found : goal.returns-in-Err-clause-found
returns-in-Err-clause-found c =
    let gap = rw c.deref.ensures.value at c.in-Err.ensures.absent in
    sym (get_gap docs_total exact_docs doc_key payload_in c.self.inside.docs.items c.args.key.now _ c.self.invariant gap)
    ∙ ap (λ (d : Docs). map.get d.docs c.args.key.now) c.self.view_is

pub returns-in-Ok-clause-same_key : goal.returns-in-Ok-clause-same_key
returns-in-Ok-clause-same_key c =
    let at = rw c.deref.ensures.value at c.in-Ok.ensures.found in
    ap (λ (d : Arc Payload Global). d.value.key) c.index.ensures
    ∙ sym (exact_docs c.args.key.now (slice_index_or c.self.inside.docs.items c.in-Ok.i c.index.result.now).value.key (at.here c.index.result.now))
