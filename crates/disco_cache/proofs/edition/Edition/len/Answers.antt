use Rattle.std.proofs.Common.{sym, ap, ◌∙◌}
use Rattle.std.specs.FinMap as map
use Rattle.disco_history.proofs.SortedBy.{len_of}
use Rattle.disco_cache.specs.Shelved.{entry_key, entry_doc}
use Rattle.disco_values.proofs.Orders.{docs_total, exact_docs}
use Rattle.disco_cache.proofs.edition.Edition.len.Goals as goal

pub returns : goal.returns
returns c = c.len.ensures ∙ c.self.inside.entries.ok.0 ∙ sym (len_of docs_total exact_docs entry_key entry_doc c.self.inside.entries.items c.self.invariant) ∙ ap (λ m. map.len m) c.self.view_is
