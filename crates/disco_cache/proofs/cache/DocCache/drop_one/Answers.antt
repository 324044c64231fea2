use Rattle.std.proofs.Common.{sym, ap, ◌∙◌}
use Rattle.std.specs.FinMap as map
use Rattle.disco_history.proofs.SortedBy.{removed_at, remove_gap}
use Rattle.disco_cache.specs.Docs.{Docs}
use Rattle.disco_cache.specs.Kept.{doc_of, doc_key, docs_map, query_of, payload_in}
use Rattle.disco_values.proofs.Orders.{docs_total, exact_docs}
use Rattle.disco_cache.proofs.cache.DocCache.drop_one.Goals as goal

pub invariant_of-self : goal.invariant_of-self
invariant_of-self c =
    let at = rw c.deref.ensures.value at c.in-Ok.ensures.found in
    rw c.remove.ensures.items (removed_at docs_total exact_docs doc_key payload_in c.self.inside.docs.items (doc_of (query_of c.args.query_ref) c.args.form) c.in-Ok.i c.self.invariant at).0

pub returns-in-Ok-clause-docs : goal.returns-in-Ok-clause-docs
returns-in-Ok-clause-docs c =
    let at = rw c.deref.ensures.value at c.in-Ok.ensures.found in
    ap docs_map c.remove.ensures.items
    ∙ (removed_at docs_total exact_docs doc_key payload_in c.self.inside.docs.items (doc_of (query_of c.args.query_ref) c.args.form) c.in-Ok.i c.self.invariant at).1
    ∙ ap (λ (d : Docs). map.remove d.docs (doc_of (query_of c.args.query_ref) c.args.form)) c.self.view_is

pub returns-in_default-clause-docs : goal.returns-in_default-clause-docs
returns-in_default-clause-docs c =
    let gap = rw c.deref.ensures.value at c.in_default.ensures.absent in
    ap (λ (d : Docs). d.docs) (sym c.self.view_is)
    ∙ remove_gap docs_total exact_docs doc_key payload_in c.self.inside.docs.items (doc_of (query_of c.args.query_ref) c.args.form) c.in_default.field-0 c.self.invariant gap
    ∙ ap (λ (d : Docs). map.remove d.docs (doc_of (query_of c.args.query_ref) c.args.form)) c.self.view_is
