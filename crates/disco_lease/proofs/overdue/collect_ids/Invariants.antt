use Rattle.std.proofs.Common.{◌≡◌, ℕ}
use Rattle.std.specs.FinMap.{entries, find, get}
use Rattle.std.specs.Option.{option_or}
use Rattle.disco_values.specs.declared.key.Key.{Key}
use Rattle.disco_lease.specs.Due.{due_cmp}
use Rattle.disco_lease.specs.Seen.{ids_with_app, pairs, seen_due}
use Rattle.disco_lease.proofs.overdue.collect_ids.Given as goal

abbrev pub invariant-loop-id : goal.invariant-loop-id
invariant-loop-id l =
    (q : ℕ × Key) → option_or (find due_cmp q (pairs l.now (ids_with_app l.app l.id-iterator))) (get (seen_due l.overdue.entries) q)
    ≡ option_or (find due_cmp q (pairs l.now (ids_with_app l.app (entries l.ids)))) (get (seen_due l.initial.overdue.entries) q)
