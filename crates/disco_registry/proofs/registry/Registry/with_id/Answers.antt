use Rattle.std.proofs.Common.{option_map, ap, ◌∙◌}
use Rattle.std.specs.FinMap.{values}
use Rattle.std.specs.List.{find}
use Rattle.disco_history.specs.Apps.{is_of_id}
use Rattle.disco_history.specs.Change.{Entry}
use Rattle.disco_registry.specs.State.{RegistryState}
use Rattle.disco_registry.proofs.Histories.{by_id_after}
use Rattle.disco_registry.proofs.registry.Registry.with_id.Goals as goal

pub returns-clause-history : goal.returns-clause-history
returns-clause-history c h stands =
    c.record_of.ensures
    ∙ ap (option_map (λ (e : Entry). e.0)) (c.with_id.ensures ∙ ap (λ (s : RegistryState). find (is_of_id c.args.id.now) (values s.held)) c.self.view_is)
    ∙ by_id_after c.args.self.now h stands c.args.id.now
