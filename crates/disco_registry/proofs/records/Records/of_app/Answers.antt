use Rattle.std.proofs.Common.{filter, map, ap, ◌∙◌}
use Rattle.std.specs.FinMap.{values}
use Rattle.disco_history.specs.Apps.{is_of_app}
use Rattle.disco_history.specs.Held.{entry_of}
use Rattle.disco_registry.specs.Records.{Contents}
use Rattle.disco_registry.proofs.RecordsByApp.{app_shown, shown_of}
use Rattle.disco_registry.proofs.records.Records.of_app.Goals as goal

pub returns-in_ok-shared_in-in-Some : goal.returns-in_ok-shared_in-in-Some
returns-in_ok-shared_in-in-Some c =
    let a = c.args.app.now in
    c.in_ok-shared_in-in-Some.ensures ∙ ap shown_of c.in-Some.ensures.value
    ∙ app_shown c.self.inside.places c.self.inside.next c.self.inside.sought a c.apps-apps.result.now.entries c.self.invariant c.len-len.ensures.ordered c.apps-apps.ensures
    ∙ ap (λ (s : Contents). filter (is_of_app a) (values s.held)) c.self.view_is

pub returns-in-None : goal.returns-in-None
returns-in-None c =
    let a = c.args.app.now in
    ap (map entry_of) c.new.ensures.items ∙ ap shown_of c.in-None.ensures.value
    ∙ app_shown c.self.inside.places c.self.inside.next c.self.inside.sought a c.apps-apps.result.now.entries c.self.invariant c.len-len.ensures.ordered c.apps-apps.ensures
    ∙ ap (λ (s : Contents). filter (is_of_app a) (values s.held)) c.self.view_is
