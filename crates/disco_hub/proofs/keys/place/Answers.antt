use Rattle.std.proofs.Common.{Bor, rules, of_calls}
use Rattle.std.proofs.lemmas.Fn.{always_returns_same}
use Rattle.disco_history.proofs.SortedBy.{found, absent}
use Rattle.disco_values.specs.Keys.{doc_cmp}
use Rattle.disco_values.specs.declared.doc_key.DocKey.{DocKey}
use Rattle.disco_values.proofs.Orders.{docs_total, exact_docs}
use Rattle.disco_hub.specs.Stored.{stored_key, mark}
use Rattle.disco_hub.proofs.keys.place.Goals as goal

pub returns-clause-found : goal.returns-clause-found
returns-clause-found c = found docs_total exact_docs stored_key mark c.args.keys.now c.args.key.now c.binary_search_by.result c.requires c.binary_search_by.ensures.bound
    (c.binary_search_by.ensures.position (λ (k : Bor DocKey). doc_cmp k.now c.args.key.now) (always_returns_same _ _ _ (λ a r f k. search (rules, of_calls))))

pub returns-clause-absent : goal.returns-clause-absent
returns-clause-absent c = absent docs_total exact_docs stored_key mark c.args.keys.now c.args.key.now c.binary_search_by.result c.requires c.binary_search_by.ensures.bound
    (c.binary_search_by.ensures.position (λ (k : Bor DocKey). doc_cmp k.now c.args.key.now) (always_returns_same _ _ _ (λ a r f k. search (rules, of_calls))))
