use Rattle.std.proofs.Common.{sym, ap, ◌∙◌}
use Rattle.std.specs.FinMap as map
use Rattle.disco_history.proofs.SortedBy.{removed_at, remove_gap}
use Rattle.disco_cache.specs.Shelved.{entry_key, entry_doc, entries_map}
use Rattle.disco_values.proofs.Orders.{docs_total, exact_docs}
use Rattle.disco_cache.proofs.edition.Edition.remove.Goals as goal

pub invariant_of-self : goal.invariant_of-self
invariant_of-self c =
    let at = rw c.deref.ensures.value at c.in-Ok.ensures.found in
    rw c.remove.ensures.items (removed_at docs_total exact_docs entry_key entry_doc c.self.inside.entries.items c.args.key.now c.in-Ok.i c.self.invariant at).0

pub returns-in-Ok : goal.returns-in-Ok
returns-in-Ok c =
    let at = rw c.deref.ensures.value at c.in-Ok.ensures.found in
    ap entries_map c.remove.ensures.items
    ∙ (removed_at docs_total exact_docs entry_key entry_doc c.self.inside.entries.items c.args.key.now c.in-Ok.i c.self.invariant at).1
    ∙ ap (λ m. map.remove m c.args.key.now) c.self.view_is

pub returns-in_default : goal.returns-in_default
returns-in_default c =
    let gap = rw c.deref.ensures.value at c.in_default.ensures.absent in
    sym c.self.view_is
    ∙ remove_gap docs_total exact_docs entry_key entry_doc c.self.inside.entries.items c.args.key.now c.in_default.field-0 c.self.invariant gap
    ∙ ap (λ m. map.remove m c.args.key.now) c.self.view_is
