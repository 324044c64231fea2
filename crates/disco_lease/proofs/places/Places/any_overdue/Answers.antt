use Rattle.std.proofs.Common.{Option, sym, ap, ◌∙◌}
use Rattle.std.specs.List.{list_any}
use Rattle.disco_values.specs.declared.key.Key.{Key}
use Rattle.disco_lease.specs.Seen.{has_run_out}
use Rattle.disco_lease.specs.declared.lease.Lease.{Lease}
use Rattle.disco_lease.proofs.AnyDue.{none_due, some_due}
use Rattle.disco_lease.proofs.places.Places.any_overdue.Goals as goal

pub returns-clause-some : goal.returns-clause-some
returns-clause-some c = λ some.
    let m = c.self.inside.places in
    let is = sym (c.any_overdue.ensures ∙ ap (list_any (λ (e : Key × Option Lease). has_run_out c.args.now e.1)) c.apps.ensures) in
    rw (← c.self.view_is) (some_due m c.args.now (is ∙ some))

pub returns-clause-none : goal.returns-clause-none
returns-clause-none c = λ none.
    let m = c.self.inside.places in
    let is = sym (c.any_overdue.ensures ∙ ap (list_any (λ (e : Key × Option Lease). has_run_out c.args.now e.1)) c.apps.ensures) in
    rw (← c.self.view_is) (none_due m c.args.now (is ∙ none))
