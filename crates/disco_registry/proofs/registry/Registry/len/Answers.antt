use Rattle.std.proofs.Common.{ap, ◌∙◌}
use Rattle.std.specs.FinMap as map
use Rattle.disco_registry.specs.State.{RegistryState}
use Rattle.disco_registry.proofs.Histories.{len_after}
use Rattle.disco_registry.proofs.registry.Registry.len.Goals as goal

pub returns-clause-history : goal.returns-clause-history
returns-clause-history c h stands = c.len.ensures ∙ ap (λ (t : RegistryState). map.len t.held) c.self.view_is ∙ len_after c.args.self.now h stands
