use Rattle.std.proofs.Common.{◌≡◌, ℕ}
use Rattle.std.specs.FinMap.{find, get}
use Rattle.std.specs.Option.{option_or}
use Rattle.disco_values.specs.declared.key.Key.{Key}
use Rattle.disco_places.specs.KeyMaps.{of_apps}
use Rattle.disco_lease.specs.Due.{due_cmp}
use Rattle.disco_lease.specs.Seen.{pairs, seen_due}
use Rattle.disco_lease.proofs.overdue.collect.Given as goal

abbrev pub invariant-loop-app : goal.invariant-loop-app
invariant-loop-app l = (q : ℕ × Key) → option_or (find due_cmp q (pairs l.now (of_apps l.app-iterator))) (get (seen_due l.overdue.entries) q) ≡ find due_cmp q (pairs l.now (of_apps l.apps.entries))
