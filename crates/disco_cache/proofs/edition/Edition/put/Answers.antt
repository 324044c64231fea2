use Rattle.std.proofs.Common.{ap, ◌∙◌, sym, subst}
use Rattle.std.specs.FinMap as map
use Rattle.std.specs.declared.alloc.Global.{Global}
use Rattle.std.specs.declared.sync.Arc.{Arc}
use Rattle.disco_history.proofs.SortedBy.{inserted_at, inserted_gap}
use Rattle.disco_cache.specs.Shelved.{AreShelved, entry_key, entry_doc, entries_map}
use Rattle.disco_cache.specs.declared.payload.Payload.{Payload}
use Rattle.disco_values.proofs.Orders.{docs_total, exact_docs}
use Rattle.disco_cache.proofs.edition.Edition.put.Goals as goal

pub invariant_of-self : goal.invariant_of-self
invariant_of-self c =
    let at = rw c.deref.ensures.value at c.in-Ok.ensures.found in
    (inserted_at docs_total exact_docs entry_key entry_doc c.self.inside.entries.items c.in-Ok.i c.in_ok-entry.entry c.self.invariant at).0

pub returns-in-Ok-clause-docs : goal.returns-in-Ok-clause-docs
returns-in-Ok-clause-docs c =
    let e = c.in_ok-entry.entry in
    let at = rw c.deref.ensures.value at c.in-Ok.ensures.found in
    (inserted_at docs_total exact_docs entry_key entry_doc c.self.inside.entries.items c.in-Ok.i e c.self.invariant at).1
    ∙ ap (λ m. map.insert m e.key e.doc.value) c.self.view_is
    ∙ ap (λ k. map.insert c.args.self.now k e.doc.value) e.own
    ∙ ap (λ (d : Arc Payload Global). map.insert c.args.self.now d.value.key d.value) c.in_ok-entry.ensures.doc

pub invariant_of-self-in-Continue-branch-2 : goal.invariant_of-self-in-Continue-branch-2
invariant_of-self-in-Continue-branch-2 c =
    let gap = rw c.deref.ensures.value at c.in-Err.ensures.absent in
    subst AreShelved (sym c.in_ok-insert-in-Err.ensures.items) (inserted_gap docs_total exact_docs entry_key entry_doc c.self.inside.entries.items c.in-Err.i c.in_ok-entry.entry c.self.invariant gap).0

pub returns-in_ok-insert-in-Err-clause-docs : goal.returns-in_ok-insert-in-Err-clause-docs
returns-in_ok-insert-in-Err-clause-docs c =
    let e = c.in_ok-entry.entry in
    let gap = rw c.deref.ensures.value at c.in-Err.ensures.absent in
    ap entries_map c.in_ok-insert-in-Err.ensures.items
    ∙ (inserted_gap docs_total exact_docs entry_key entry_doc c.self.inside.entries.items c.in-Err.i e c.self.invariant gap).1
    ∙ ap (λ m. map.insert m e.key e.doc.value) c.self.view_is
    ∙ ap (λ k. map.insert c.args.self.now k e.doc.value) e.own
    ∙ ap (λ (d : Arc Payload Global). map.insert c.args.self.now d.value.key d.value) c.in_ok-entry.ensures.doc
