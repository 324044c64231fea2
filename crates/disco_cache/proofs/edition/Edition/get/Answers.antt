use Rattle.std.proofs.Common.{slice_index_or, sym, ap, ◌∙◌, Some}
use Rattle.std.specs.FinMap as map
use Rattle.disco_history.proofs.SortedBy.{get_at, get_gap}
use Rattle.disco_cache.specs.Shelved.{entry_key, entry_doc}
use Rattle.disco_cache.specs.declared.entry.Entry.{Entry}
use Rattle.disco_values.proofs.Orders.{docs_total, exact_docs}
use Rattle.disco_cache.proofs.edition.Edition.get.Goals as goal

pub returns-in-Ok-clause-found : goal.returns-in-Ok-clause-found
returns-in-Ok-clause-found c =
    let at = rw c.deref.ensures.value at c.in-Ok.ensures.found in
    ap (λ (e : Entry). Some e.doc.value) c.index.ensures
    ∙ sym (get_at docs_total exact_docs entry_key entry_doc c.self.inside.entries.items c.args.key.now c.in-Ok.i c.index.result.now c.self.invariant at)
    ∙ ap (λ m. map.get m c.args.key.now) c.self.view_is

pub returns-in-Err-clause-found : goal.returns-in-Err-clause-found
returns-in-Err-clause-found c =
    let gap = rw c.deref.ensures.value at c.in-Err.ensures.absent in
    sym (get_gap docs_total exact_docs entry_key entry_doc c.self.inside.entries.items c.args.key.now _ c.self.invariant gap)
    ∙ ap (λ m. map.get m c.args.key.now) c.self.view_is

pub returns-in-Ok-clause-same_key : goal.returns-in-Ok-clause-same_key
returns-in-Ok-clause-same_key c =
    let at = rw c.deref.ensures.value at c.in-Ok.ensures.found in
    let e = slice_index_or c.self.inside.entries.items c.in-Ok.i c.index.result.now in
    ap (λ (e : Entry). e.doc.value.key) c.index.ensures
    ∙ sym e.own
    ∙ sym (exact_docs c.args.key.now e.key (at.here c.index.result.now))
