use Rattle.std.proofs.Common.{◌||◌, Option, sym, ap, ◌∙◌}
use Rattle.std.specs.List.{list_any}
use Rattle.disco_values.specs.declared.key.Key.{Key}
use Rattle.disco_places.specs.KeyMaps.{of_apps}
use Rattle.disco_lease.specs.Seen.{has_run_out}
use Rattle.disco_lease.specs.declared.lease.Lease.{Lease}
use Rattle.disco_lease.proofs.AnyDue.{any_more}
use Rattle.disco_lease.proofs.overdue.any_overdue.Goals as goal

pub returns-then-any_in : goal.returns-then-any_in
returns-then-any_in c =
    let here = sym c.any_in.ensures ∙ c.if-any_in.true in
    let rest = list_any (λ (e : Key × Option Lease). has_run_out c.args.now e.1) (of_apps c.next.new.self) in
    ap (λ b. b || rest) (sym here)
    ∙ sym (any_more c.args.now (c.in-Some.field-0-0.now, c.in-Some.ids.now) c.next.new.self)
    ∙ ap (λ es. list_any (λ (e : Key × Option Lease). has_run_out c.args.now e.1) (of_apps es)) (sym c.in-Some.ensures.steps)
    ∙ c.loop-ids.invariant

pub loop-ids-preserved : goal.loop-ids-preserved
loop-ids-preserved c =
    let here = sym c.any_in.ensures ∙ c.if-any_in.false in
    let rest = list_any (λ (e : Key × Option Lease). has_run_out c.args.now e.1) (of_apps c.next.new.self) in
    ap (λ b. b || rest) (sym here)
    ∙ sym (any_more c.args.now (c.in-Some.field-0-0.now, c.in-Some.ids.now) c.next.new.self)
    ∙ ap (λ es. list_any (λ (e : Key × Option Lease). has_run_out c.args.now e.1) (of_apps es)) (sym c.in-Some.ensures.steps)
    ∙ c.loop-ids.invariant
