use Rattle.std.proofs.Common.{ap, ◌∙◌}
use Rattle.std.specs.FinMap.{values}
use Rattle.std.specs.List.{find}
use Rattle.disco_history.specs.Apps.{is_of_id}
use Rattle.disco_registry.specs.Records.{Contents}
use Rattle.disco_registry.proofs.RecordsByApp.{all_keyed, all_shown}
use Rattle.disco_registry.proofs.records.Records.with_id.Goals as goal

pub found_under-requires : goal.found_under-requires
found_under-requires c = all_keyed c.self.inside.places c.self.inside.next c.self.inside.sought c.apps.result.now.entries c.self.invariant c.apps.ensures

pub returns : goal.returns
returns c = c.found_under.ensures ∙ ap (find (is_of_id c.args.id.now)) (all_shown c.self.inside.places c.apps.result.now.entries c.apps.ensures ∙ ap (λ (s : Contents). values s.held) c.self.view_is)
