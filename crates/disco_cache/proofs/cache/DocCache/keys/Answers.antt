use Rattle.std.proofs.Common.{sym, ap, ◌∙◌, map}
use Rattle.std.specs.FinMap as finmap
use Rattle.disco_history.proofs.SortedBy.{keys_of}
use Rattle.disco_cache.specs.Docs.{Docs}
use Rattle.disco_cache.specs.Kept.{doc_key, payload_in}
use Rattle.disco_values.proofs.Orders.{docs_total, exact_docs}
use Rattle.disco_cache.proofs.cache.DocCache.keys.Goals as goal

pub returns-clause-keys : goal.returns-clause-keys
returns-clause-keys c =
    rw (sym (ap (λ (d : Docs). finmap.keys d.docs) c.self.view_is) ∙ keys_of docs_total exact_docs doc_key payload_in c.self.inside.docs.items c.self.invariant ∙ ap (map doc_key) (sym c.deref.ensures.value)) c.keys_of.ensures.keys
