use Rattle.std.proofs.Common.{rules, of_calls}
use Rattle.std.proofs.lemmas.Fn.{always_returns_same}
use Rattle.std.specs.declared.alloc.Global.{Global}
use Rattle.std.specs.declared.sync.Arc.{Arc}
use Rattle.disco_history.proofs.SortedBy.{found, absent}
use Rattle.disco_values.specs.Keys.{doc_cmp}
use Rattle.disco_cache.specs.Kept.{doc_of, doc_key, query_of, payload_in}
use Rattle.disco_cache.specs.declared.payload.Payload.{Payload}
use Rattle.disco_values.proofs.Orders.{docs_total, exact_docs}
use Rattle.disco_cache.proofs.cache.place_of.Goals as goal

pub returns-clause-found : goal.returns-clause-found
returns-clause-found c = found docs_total exact_docs doc_key payload_in c.args.docs.now (doc_of (query_of c.args.query_ref) c.args.form) c.binary_search_by.result c.requires c.binary_search_by.ensures.bound
    (c.binary_search_by.ensures.position (λ (d : Arc Payload Global). doc_cmp d.value.key (doc_of (query_of c.args.query_ref) c.args.form)) (always_returns_same _ _ _ (λ a r f k. search (rules, of_calls))))

pub returns-clause-absent : goal.returns-clause-absent
returns-clause-absent c = absent docs_total exact_docs doc_key payload_in c.args.docs.now (doc_of (query_of c.args.query_ref) c.args.form) c.binary_search_by.result c.requires c.binary_search_by.ensures.bound
    (c.binary_search_by.ensures.position (λ (d : Arc Payload Global). doc_cmp d.value.key (doc_of (query_of c.args.query_ref) c.args.form)) (always_returns_same _ _ _ (λ a r f k. search (rules, of_calls))))
