use Rattle.std.proofs.Common.{ap, sym, ◌∙◌}
use Rattle.std.specs.List.{find}
use Rattle.disco_history.specs.Apps.{is_of_id}
use Rattle.disco_places.specs.KeyMaps.{of_apps}
use Rattle.disco_registry.proofs.RecordsByApp.{found_here, found_later, shown}
use Rattle.disco_registry.proofs.records.first_of_id.Goals as goal

pub returns-in-Some-first_in : goal.returns-in-Some-first_in
returns-in-Some-first_in c =
    let P = is_of_id c.args.id.now in
    found_here P _ (c.in-Some.field-0-0.now, c.in-Some.ids.now) c.next.new.self c.in-Some-first_in.ensures
    ∙ ap (λ es. find P (shown (of_apps es))) (sym c.in-Some.ensures.steps)
    ∙ c.loop-ids.invariant

pub loop-ids-preserved : goal.loop-ids-preserved
loop-ids-preserved c =
    let P = is_of_id c.args.id.now in
    found_later P (c.in-Some.field-0-0.now, c.in-Some.ids.now) c.next.new.self c.in_default.ensures
    ∙ ap (λ es. find P (shown (of_apps es))) (sym c.in-Some.ensures.steps)
    ∙ c.loop-ids.invariant
