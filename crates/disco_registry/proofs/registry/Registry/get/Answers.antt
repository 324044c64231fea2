use Rattle.std.proofs.Common.{ap, ◌∙◌}
use Rattle.disco_history.specs.Held.{record_at}
use Rattle.disco_registry.specs.State.{RegistryState}
use Rattle.disco_registry.proofs.Histories.{get_after}
use Rattle.disco_registry.proofs.registry.Registry.get.Goals as goal

pub returns-clause-history : goal.returns-clause-history
returns-clause-history c h stands =
    let k = c.args.key.now in
    c.get.ensures.found ∙ ap (λ (t : RegistryState). record_at t.held k) c.self.view_is ∙ get_after c.args.self.now h stands k
