use Rattle.std.proofs.Common.{ap, ◌∙◌}
use Rattle.std.specs.FinMap.{values}
use Rattle.disco_registry.specs.Records.{Contents}
use Rattle.disco_registry.proofs.RecordsByApp.{all_shown}
use Rattle.disco_registry.proofs.records.Records.apps.Goals as goal

pub returns : goal.returns
returns c = all_shown c.self.inside.places c.apps.result.now.entries c.apps.ensures ∙ ap (λ (s : Contents). values s.held) c.self.view_is
