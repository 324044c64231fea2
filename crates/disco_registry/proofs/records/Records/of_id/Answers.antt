use Rattle.std.proofs.Common.{ap, ◌∙◌}
use Rattle.std.specs.FinMap.{values}
use Rattle.std.specs.List.{find}
use Rattle.disco_history.specs.Apps.{is_of_id}
use Rattle.disco_registry.specs.Records.{Contents}
use Rattle.disco_registry.proofs.RecordsByApp.{all_shown}
use Rattle.disco_registry.proofs.records.Records.of_id.Goals as goal

pub returns : goal.returns
returns c = c.first_of_id.ensures ∙ ap (find (is_of_id c.args.id.now)) (all_shown c.self.inside.places c.apps.result.now.entries c.apps.ensures ∙ ap (λ (s : Contents). values s.held) c.self.view_is)
