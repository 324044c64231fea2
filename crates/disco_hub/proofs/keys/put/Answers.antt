use Rattle.std.proofs.Common.{sym, ap, subst, ◌∙◌}
use Rattle.disco_history.proofs.SortedBy.{inserted_at, inserted_gap}
use Rattle.disco_values.proofs.Orders.{docs_total, exact_docs}
use Rattle.disco_hub.specs.Stored.{AreInOrder, stored_key, mark, seen_keys}
use Rattle.disco_hub.proofs.keys.put.Goals as goal

pub returns-in-Ok-clause-order : goal.returns-in-Ok-clause-order
returns-in-Ok-clause-order c =
    let is = rw c.deref.ensures.value at c.in-Ok.ensures.found in
    (inserted_at docs_total exact_docs stored_key mark c.args.keys.now.items c.in-Ok.i c.args.key c.requires is).0

pub returns-in-Ok-clause-keys : goal.returns-in-Ok-clause-keys
returns-in-Ok-clause-keys c =
    let is = rw c.deref.ensures.value at c.in-Ok.ensures.found in
    (inserted_at docs_total exact_docs stored_key mark c.args.keys.now.items c.in-Ok.i c.args.key c.requires is).1

pub returns-in_ok-insert-in-Err-clause-order : goal.returns-in_ok-insert-in-Err-clause-order
returns-in_ok-insert-in-Err-clause-order c =
    let gap = rw c.deref.ensures.value at c.in-Err.ensures.absent in
    subst AreInOrder (sym c.in_ok-insert-in-Err.ensures.items) (inserted_gap docs_total exact_docs stored_key mark c.args.keys.now.items c.in-Err.i c.args.key c.requires gap).0

pub returns-in_ok-insert-in-Err-clause-keys : goal.returns-in_ok-insert-in-Err-clause-keys
returns-in_ok-insert-in-Err-clause-keys c =
    let gap = rw c.deref.ensures.value at c.in-Err.ensures.absent in
    ap seen_keys c.in_ok-insert-in-Err.ensures.items ∙ (inserted_gap docs_total exact_docs stored_key mark c.args.keys.now.items c.in-Err.i c.args.key c.requires gap).1
