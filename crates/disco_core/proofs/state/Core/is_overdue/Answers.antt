use Rattle.std.proofs.Common.{ap, sym, subst, ◌∙◌}
use Rattle.disco_lease.specs.Due.{is_overdue}
use Rattle.disco_core.specs.State.{CoreState, CoreStandsFor}
use Rattle.disco_core.specs.contracts.state.Core.{the_view}
use Rattle.disco_core.proofs.Expiries.{due_is}
use Rattle.disco_core.proofs.state.Core.is_overdue.Goals as goal

pub returns : goal.returns
returns c = λ p stands.
    let was : CoreStandsFor (the_view c.self.inside) p = subst (λ (s : CoreState). CoreStandsFor s p) (sym c.self.view_is) stands in
    c.is_overdue.ensures ∙ ap (is_overdue c.args.now) (due_is c.self.inside.leases p c.args.key.now was.leases)
