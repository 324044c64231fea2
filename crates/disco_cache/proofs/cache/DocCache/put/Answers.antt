use Rattle.std.proofs.Common.{ap, ◌∙◌}
use Rattle.std.specs.FinMap as map
use Rattle.disco_history.proofs.SortedBy.{inserted_at}
use Rattle.disco_cache.specs.Docs.{Docs}
use Rattle.disco_cache.specs.Kept.{doc_key, payload_in}
use Rattle.disco_values.proofs.Orders.{docs_total, exact_docs}
use Rattle.disco_cache.proofs.Puts.{has_place, has_room, is_put, stays_sorted}
use Rattle.disco_cache.proofs.cache.DocCache.put.Goals as goal

pub invariant_of-self : goal.invariant_of-self
invariant_of-self c =
    let at = rw (c.deref.ensures.value, c.deref-2.ensures) at c.in-Ok.ensures.found in
    (inserted_at docs_total exact_docs doc_key payload_in c.self.inside.docs.items c.in-Ok.i c.args.doc c.self.invariant at).0

pub returns-in-Ok-clause-room : goal.returns-in-Ok-clause-room
returns-in-Ok-clause-room c =
    let at = rw (c.deref.ensures.value, c.deref-2.ensures) at c.in-Ok.ensures.found in
    has_place c.self.inside.docs.items c.in-Ok.i c.args.doc c.self.invariant at c.args.self.now (ap (λ (d : Docs). d.docs) c.self.view_is)

pub returns-in-Ok-clause-docs : goal.returns-in-Ok-clause-docs
returns-in-Ok-clause-docs c =
    let at = rw (c.deref.ensures.value, c.deref-2.ensures) at c.in-Ok.ensures.found in
    (inserted_at docs_total exact_docs doc_key payload_in c.self.inside.docs.items c.in-Ok.i c.args.doc c.self.invariant at).1
    ∙ ap (λ (d : Docs). map.insert d.docs c.args.doc.value.key c.args.doc.value) c.self.view_is

pub invariant_of-self-in-Err : goal.invariant_of-self-in-Err
invariant_of-self-in-Err c =
    let gap = rw (c.deref.ensures.value, c.deref-2.ensures) at c.in-Err.ensures.absent in
    stays_sorted c.self.inside.docs.items c.insert.new.docs.items c.in-Err.i c.args.doc c.self.invariant gap c.insert.result c.insert.ensures.docs c.insert.ensures.err

pub returns-in-Err-clause-room : goal.returns-in-Err-clause-room
returns-in-Err-clause-room c =
    let gap = rw (c.deref.ensures.value, c.deref-2.ensures) at c.in-Err.ensures.absent in
    has_room c.self.inside.docs.items c.insert.new.docs.items c.in-Err.i c.args.doc c.self.invariant gap c.args.self.now c.self.inside.max c.self.view_is c.insert.result c.insert.ensures.room

pub returns-in-Err-clause-docs : goal.returns-in-Err-clause-docs
returns-in-Err-clause-docs c =
    let gap = rw (c.deref.ensures.value, c.deref-2.ensures) at c.in-Err.ensures.absent in
    is_put c.self.inside.docs.items c.insert.new.docs.items c.in-Err.i c.args.doc c.self.invariant gap c.args.self.now.docs (ap (λ (d : Docs). d.docs) c.self.view_is) c.insert.result c.insert.ensures.docs
