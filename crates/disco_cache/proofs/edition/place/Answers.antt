use Rattle.std.proofs.Common.{rules, of_calls}
use Rattle.std.proofs.lemmas.Fn.{always_returns_same}
use Rattle.disco_history.proofs.SortedBy.{found, absent}
use Rattle.disco_values.specs.Keys.{doc_cmp}
use Rattle.disco_cache.specs.Shelved.{entry_key, entry_doc}
use Rattle.disco_cache.specs.declared.entry.Entry.{Entry}
use Rattle.disco_values.proofs.Orders.{docs_total, exact_docs}
use Rattle.disco_cache.proofs.edition.place.Goals as goal

pub returns-clause-found : goal.returns-clause-found
returns-clause-found c = found docs_total exact_docs entry_key entry_doc c.args.entries.now c.args.key.now c.binary_search_by.result c.requires c.binary_search_by.ensures.bound
    (c.binary_search_by.ensures.position (λ (e : Entry). doc_cmp e.key c.args.key.now) (always_returns_same _ _ _ (λ a r f k. search (rules, of_calls))))

pub returns-clause-absent : goal.returns-clause-absent
returns-clause-absent c = absent docs_total exact_docs entry_key entry_doc c.args.entries.now c.args.key.now c.binary_search_by.result c.requires c.binary_search_by.ensures.bound
    (c.binary_search_by.ensures.position (λ (e : Entry). doc_cmp e.key c.args.key.now) (always_returns_same _ _ _ (λ a r f k. search (rules, of_calls))))
