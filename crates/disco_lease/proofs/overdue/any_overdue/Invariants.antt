use Rattle.std.proofs.Common.{◌≡◌, Option}
use Rattle.std.specs.List.{list_any}
use Rattle.disco_values.specs.declared.key.Key.{Key}
use Rattle.disco_places.specs.KeyMaps.{of_apps}
use Rattle.disco_lease.specs.Seen.{has_run_out}
use Rattle.disco_lease.specs.declared.lease.Lease.{Lease}
use Rattle.disco_lease.proofs.overdue.any_overdue.Given as goal

abbrev pub invariant-loop-ids : goal.invariant-loop-ids
invariant-loop-ids l = list_any (λ (e : Key × Option Lease). has_run_out l.now e.1) (of_apps l.ids-iterator) ≡ list_any (λ (e : Key × Option Lease). has_run_out l.now e.1) (of_apps l.apps.entries)
