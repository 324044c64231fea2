use Rattle.std.proofs.Common.{sym, subst}
use Rattle.disco_core.specs.Past.{history}
use Rattle.disco_core.specs.State.{CoreState, CoreStandsFor}
use Rattle.disco_core.specs.contracts.state.Core.{the_view}
use Rattle.disco_core.proofs.Expiries.{gives_taken, refused_some, takes}
use Rattle.disco_core.proofs.state.Core.due.Goals as goal

pub returns-clause-keys : goal.returns-clause-keys
returns-clause-keys c =
    gives_taken c.due.result c.self.inside.leases c.args.self.now c.instances.result c.args.now (λ p stands.
    let was : CoreStandsFor (the_view c.self.inside) p = subst (λ (s : CoreState). CoreStandsFor s p) (sym c.self.view_is) stands in
    takes c.self.inside.leases p c.instances.result c.args.now was.leases (c.instances.ensures.history (history p) stands.registry)) c.due.ensures.keys

pub returns-clause-refused : goal.returns-clause-refused
returns-clause-refused c =
    refused_some c.due.result c.self.inside.leases c.args.self.now c.instances.result c.args.now (λ p stands.
    let was : CoreStandsFor (the_view c.self.inside) p = subst (λ (s : CoreState). CoreStandsFor s p) (sym c.self.view_is) stands in
    takes c.self.inside.leases p c.instances.result c.args.now was.leases (c.instances.ensures.history (history p) stands.registry)) c.due.ensures.refused
