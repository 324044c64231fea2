use Rattle.std.proofs.Common.{ap, subst, sym, ◌∙◌}
use Rattle.std.specs.List.{find}
use Rattle.disco_history.specs.Apps.{is_of_id}
use Rattle.disco_places.specs.KeyMaps.{of_apps}
use Rattle.disco_registry.specs.Records.{AreKeyed}
use Rattle.disco_registry.proofs.RecordsByApp.{first_keyed, found_here, found_later, others_keyed, shown}
use Rattle.disco_registry.proofs.records.found_under.Goals as goal

pub found_in-requires : goal.found_in-requires
found_in-requires c =
    first_keyed (c.in-Some.field-0-0.now, c.in-Some.ids.now) c.next.new.self (subst (λ es. AreKeyed (of_apps es)) c.in-Some.ensures.steps c.loop-ids.invariant.1)

pub returns-in-Some-found_in : goal.returns-in-Some-found_in
returns-in-Some-found_in c =
    let P = is_of_id c.args.id.now in
    found_here P _ (c.in-Some.field-0-0.now, c.in-Some.ids.now) c.next.new.self c.in-Some-found_in.ensures
    ∙ ap (λ es. find P (shown (of_apps es))) (sym c.in-Some.ensures.steps)
    ∙ c.loop-ids.invariant.0

pub loop-ids-preserved : goal.loop-ids-preserved
loop-ids-preserved c =
    let P = is_of_id c.args.id.now in (
      found_later P (c.in-Some.field-0-0.now, c.in-Some.ids.now) c.next.new.self c.in_default.ensures
          ∙ ap (λ es. find P (shown (of_apps es))) (sym c.in-Some.ensures.steps)
          ∙ c.loop-ids.invariant.0,
      others_keyed (c.in-Some.field-0-0.now, c.in-Some.ids.now) c.next.new.self (subst (λ es. AreKeyed (of_apps es)) c.in-Some.ensures.steps c.loop-ids.invariant.1),
    )
