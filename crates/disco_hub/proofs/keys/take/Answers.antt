use Rattle.std.proofs.Common.{sym, ap, subst, ◌∙◌}
use Rattle.disco_history.proofs.SortedBy.{removed_at, remove_gap}
use Rattle.disco_values.proofs.Orders.{docs_total, exact_docs}
use Rattle.disco_hub.specs.Stored.{AreInOrder, stored_key, mark, seen_keys}
use Rattle.disco_hub.proofs.keys.take.Goals as goal

pub returns-in-Ok-clause-order : goal.returns-in-Ok-clause-order
returns-in-Ok-clause-order c =
    let is = rw c.deref.ensures.value at c.in-Ok.ensures.found in
    subst AreInOrder (sym c.remove.ensures.items) (removed_at docs_total exact_docs stored_key mark c.args.keys.now.items c.args.key.now c.in-Ok.i c.requires is).0

pub returns-in-Ok-clause-keys : goal.returns-in-Ok-clause-keys
returns-in-Ok-clause-keys c =
    let is = rw c.deref.ensures.value at c.in-Ok.ensures.found in
    ap seen_keys c.remove.ensures.items ∙ (removed_at docs_total exact_docs stored_key mark c.args.keys.now.items c.args.key.now c.in-Ok.i c.requires is).1

pub returns-in_default-clause-keys : goal.returns-in_default-clause-keys
returns-in_default-clause-keys c =
    let gap = rw c.deref.ensures.value at c.in_default.ensures.absent in
    remove_gap docs_total exact_docs stored_key mark c.args.keys.now.items c.args.key.now c.in_default.field-0 c.requires gap
