use Rattle.std.proofs.Common.{rules, of_calls}
use Rattle.std.proofs.lemmas.Fn.{always_returns_same}
use Rattle.disco_values.specs.Key.{key_cmp}
use Rattle.disco_history.specs.declared.held.Held.{Held}
use Rattle.disco_history.proofs.Keys.{keys_total, exact_keys}
use Rattle.disco_history.specs.Held.{entry_of}
use Rattle.disco_history.specs.List.{key_in}
use Rattle.disco_history.proofs.SortedBy.{found, absent}
use Rattle.disco_history.proofs.list.search.Goals as goal

pub returns-clause-found : goal.returns-clause-found
returns-clause-found c = found keys_total exact_keys key_in entry_of c.args.records.now c.args.key.now c.binary_search_by.result c.requires c.binary_search_by.ensures.bound
    (c.binary_search_by.ensures.position (λ (h : Held). key_cmp h.rec.value.key c.args.key.now) (always_returns_same _ _ _ (λ a r f k. search (rules, of_calls))))

pub returns-clause-absent : goal.returns-clause-absent
returns-clause-absent c = absent keys_total exact_keys key_in entry_of c.args.records.now c.args.key.now c.binary_search_by.result c.requires c.binary_search_by.ensures.bound
    (c.binary_search_by.ensures.position (λ (h : Held). key_cmp h.rec.value.key c.args.key.now) (always_returns_same _ _ _ (λ a r f k. search (rules, of_calls))))
