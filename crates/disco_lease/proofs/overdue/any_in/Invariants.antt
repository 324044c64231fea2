use Rattle.std.proofs.Common.{◌≡◌, ℕ, List, Option}
use Rattle.std.specs.FinMap.{entries}
use Rattle.std.specs.List.{list_any}
use Rattle.disco_lease.specs.Seen.{has_run_out}
use Rattle.disco_lease.specs.declared.lease.Lease.{Lease}
use Rattle.disco_lease.proofs.overdue.any_in.Given as goal

abbrev pub invariant-loop-place : goal.invariant-loop-place
invariant-loop-place l = list_any (λ (e : List ℕ × Option Lease). has_run_out l.now e.1) l.place-iterator ≡ list_any (λ (e : List ℕ × Option Lease). has_run_out l.now e.1) (entries l.ids)
